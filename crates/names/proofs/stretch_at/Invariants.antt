use Prim.Native.Nat.{◌-◌}
use lib.ListN.{length}
use Rattle.names.proofs.Words.{GoesOn}
use Rattle.names.proofs.stretch_at.Given as goal

abbrev pub invariant-loop-at : goal.invariant-loop-at
invariant-loop-at l = GoesOn l.seed l.at l.bytes l.i l.h

abbrev pub decreases-loop-at : goal.decreases-loop-at
decreases-loop-at l = length l.bytes - l.i
