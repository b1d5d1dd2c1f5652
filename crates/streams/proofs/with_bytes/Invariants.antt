use Rattle.std.proofs.Common.{◌≡◌, ℕ, take}
use Rattle.std.specs.List.{fold}
use Rattle.streams.specs.declared.Entry.{Entry}
use Rattle.streams.specs.Log.{with_entry}
use Rattle.streams.proofs.with_bytes.Given as goal

abbrev pub invariant-loop-b : goal.invariant-loop-b
invariant-loop-b g l =
    (e : ℕ → Entry) → ((b : ℕ) (r : Entry) → goal.F-post g l.entry b r → r ≡ e b) → l.d ≡ fold (λ d b. with_entry d (e b)) l.fn.digest (take l.b-index l.bytes)
