-- The used states passed are within the limits.
use Rattle.used.proofs.Beyond.{NoneBefore}
use Rattle.used.proofs.first_fault.Given as goal

abbrev pub invariant-loop-q : goal.invariant-loop-q
invariant-loop-q l = NoneBefore l.states l.marks l.used l.q
