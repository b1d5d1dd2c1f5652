use Rattle.term.specs.Written.{Copied}
use Rattle.term.proofs.put_few.Given as goal

abbrev pub invariant-loop-i : goal.invariant-loop-i
invariant-loop-i l = Copied l.i l.initial.to l.to 0 l.bytes
