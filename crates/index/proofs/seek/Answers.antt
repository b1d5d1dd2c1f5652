-- The chain of the bucket is walked, up to the row, to its end, or for as many steps as are allowed.
use Prim.Native.Nat.{ℕ, ◌-◌, ◌≤◌, ◌<◌}
use mathlib.Core.Path.{sym, ◌∙◌}
use native.Mathlib.Omega.{arith}
use mathlib.Core.List.{List}
use lib.ListN.{length, get_or}
use Rattle.chains.proofs.Chains.{Walk, walk_begins, walk_goes, walk_finds, walk_ends}
use Rattle.rows.specs.Words.{row_held}
use Rattle.rows.proofs.Words.{next_at}
use Rattle.index.specs.Index.{Seeking}
use Rattle.index.proofs.Laws.{bucket, sought, row_bucket_lem, no_earlier, sought_there, sought_nowhere}
use Rattle.index.proofs.seek.Goals as goal

begins : {pool words heads args : List ℕ} {n b key : ℕ} (s : Seeking pool words heads n b key args)
    → Walk (bucket (row_held pool words) s.by (length heads) key args) (sought (row_held pool words) s.by (length heads) key args) b n (get_or heads b 0)
begins {pool} {words} {heads} {args} {n} {b} {key} s =
    walk_begins _ _ _ (row_bucket_lem (row_held pool words) s.by (length heads) key args b s.bucket s.counts) s.index.chains s.inside

pub loop-p-init : goal.loop-p-init
loop-p-init c = (omega (arith, c.from-p.ensures, (begins c.requires).within), λ s. rw c.from-p.ensures (begins s))

pub returns-then-row_is : goal.returns-then-row_is
returns-then-row_is c =
    let told = sym c.row_is.ensures ∙ c.if-row_is.true in
    sought_there _ _ _ _ (walk_finds _ _ _ c.loop-p.p (c.loop-p.invariant.1 c.requires) c.loop-p-test.true told (no_earlier _ c.requires.by (length c.args.heads.now) _ _ _ c.requires.index.distinct _ (omega (arith, c.loop-p.invariant.0, c.loop-p-test.true)) told))

pub loop-p-preserved : goal.loop-p-preserved
loop-p-preserved c = let low : c.loop-p.p - 1 < c.args.n = omega (arith, c.loop-p.invariant.0, c.loop-p-test.true) in let link : c.next_in-p.result ≤ c.loop-p.p - 1 = omega (arith, c.next_in-p.ensures, next_at c.args.words.now (c.loop-p.p - 1) (omega (arith, low, c.requires.held.long)), (c.requires.index.chains.next_link (c.loop-p.p - 1) (low)).within) in
    let told = sym c.row_is.ensures ∙ c.if-row_is.false in
    let e = c.next_in-p.ensures ∙ sym (next_at c.args.words.now (c.loop-p.p - 1) (omega (arith, low, c.requires.held.long))) in
    (omega (arith, link, c.loop-p.invariant.0, c.loop-p-test.true), λ s. rw e (walk_goes _ _ _ (row_bucket_lem (row_held c.args.pool.now c.args.words.now) s.by (length c.args.heads.now) c.args.key.now.front c.args.key.now.args.now _ s.bucket s.counts) s.index.chains c.loop-p.p (c.loop-p.invariant.1 s) c.loop-p-test.true told))

pub returns : goal.returns
returns c = sought_nowhere _ _ _ (walk_ends _ _ _ c.loop-p.p (c.loop-p.invariant.1 c.requires) c.loop-p-test.false)
