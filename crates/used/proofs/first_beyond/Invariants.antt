-- The states passed are within the limits.
use Rattle.used.proofs.Beyond.{Looking}
use Rattle.used.proofs.first_beyond.Given as goal

abbrev pub invariant-loop-q : goal.invariant-loop-q
invariant-loop-q l = Looking l.marks l.from l.q
