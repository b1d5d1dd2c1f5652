use Rattle.tree.proofs.Laws.{Read}
use Rattle.tree.proofs.check_tree.Given as goal

abbrev pub invariant-loop-e : goal.invariant-loop-e
invariant-loop-e l = Read l.tree l.s l.e-index
