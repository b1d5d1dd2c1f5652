use Prim.Native.Nat.{◌-◌}
use lib.ListN.{length}
use Rattle.treenum.proofs.Laws.{Fills}
use Rattle.treenum.proofs.Answers.feed_all.Given as goal

abbrev pub invariant-loop-i : goal.invariant-loop-i
invariant-loop-i l = Fills l.bytes l.initial.self.line l.initial.stdio.log l.self.line l.stdio.log l.i

abbrev pub decreases-loop-i : goal.decreases-loop-i
decreases-loop-i l = length l.bytes - l.i
