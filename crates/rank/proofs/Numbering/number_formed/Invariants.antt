use Rattle.rank.proofs.Running.{Running}
use Rattle.rank.proofs.Numbering.number_formed.Given as goal

abbrev pub invariant-loop-i : goal.invariant-loop-i
invariant-loop-i l = Running l.self l.tree l.stack l.i
