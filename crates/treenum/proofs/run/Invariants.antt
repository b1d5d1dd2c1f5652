use Rattle.treenum.proofs.Laws.{SoFar}
use Rattle.treenum.proofs.run.Given as goal

abbrev pub invariant-loop : goal.invariant-loop
invariant-loop l =
    SoFar l.initial.stdio.log l.answers.line l.stdio.log l.counter
