-- The chain of the bucket is walked, up to the row, to its end, or for as many steps as are allowed.
use Prim.Native.Nat.{◌+◌, ◌≤◌}
use lib.ListN.{length}
use Rattle.chains.proofs.Chains.{Walk}
use Rattle.rows.specs.Words.{row_held}
use Rattle.index.specs.Index.{Seeking}
use Rattle.index.proofs.Laws.{bucket, sought}
use Rattle.index.proofs.seek.Given as goal

abbrev pub invariant-loop-p : goal.invariant-loop-p
invariant-loop-p l =
    (l.steps + l.p ≤ l.n)
    × ((s : Seeking l.pool l.words l.heads l.n l.b l.key.front l.key.args.now) → Walk (bucket (row_held l.pool l.words) s.by (length l.heads) l.key.front l.key.args.now) (sought (row_held l.pool l.words) s.by (length l.heads) l.key.front l.key.args.now) l.b l.n l.p)

abbrev pub decreases-loop-p : goal.decreases-loop-p
decreases-loop-p l = l.p
