-- The entries passed are without fault, and the states that they name are marked.
use Rattle.table.proofs.Entries.{Seeing}
use Rattle.table.proofs.check_accepting.Given as goal

abbrev pub invariant-loop-i : goal.invariant-loop-i
invariant-loop-i l = Seeing l.states l.accepting l.seen l.i
