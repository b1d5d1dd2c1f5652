use Prim.Native.Nat.{◌-◌}
use lib.ListN.{length}
use Rattle.names.proofs.Lines.{Sofar}
use Rattle.names.proofs.check_names.Given as goal

abbrev pub invariant-loop-at : goal.invariant-loop-at
invariant-loop-at l = Sofar l.seed l.names l.starts l.heads l.next l.n l.at

abbrev pub decreases-loop-at : goal.decreases-loop-at
decreases-loop-at l = length l.names - l.at
