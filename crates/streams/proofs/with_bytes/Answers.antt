use Rattle.std.proofs.Common.{sym, ap, ◌∙◌}
use Rattle.std.specs.List.{fold}
use lib.Seq.{take_all}
use Rattle.std.proofs.lemmas.List.Folds.{fold-map}
use Rattle.streams.specs.Log.{with_entry, digest_after}
use Rattle.streams.proofs.with_bytes.Goals as goal

pub returns : goal.returns
unfolding digest_after
returns g c e p =
    c.loop-b.invariant e p
    ∙ ap (fold (λ d b. with_entry d (e b)) c.args.digest) (take_all c.loop-b.b-index c.args.bytes.now c.loop-b-test.false)
    ∙ sym (fold-map with_entry e c.args.digest c.args.bytes.now)
