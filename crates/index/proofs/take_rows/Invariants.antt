-- Row by row: tested by 2 to 5, then looked for among those before it and entered.
use Prim.Native.Nat.{◌-◌}
use lib.ListN.{length}
use Rattle.index.proofs.Taking.{Taking}
use Rattle.index.proofs.take_rows.Given as goal

abbrev pub invariant-loop-at : goal.invariant-loop-at
invariant-loop-at l = Taking l.by l.states l.rows l.words l.heads l.at l.n

abbrev pub decreases-loop-at : goal.decreases-loop-at
decreases-loop-at l = length l.rows - l.at
