use lib.ListN.{length}
use Rattle.table.proofs.own_multiplier.Given as goal

abbrev pub decreases-loop-left : goal.decreases-loop-left
decreases-loop-left l = length l.left
