-- The states passed without a mark are cleared.
use Rattle.used.proofs.Clearing.{Clearing}
use Rattle.used.proofs.clear_unused.Given as goal

abbrev pub invariant-loop-q : goal.invariant-loop-q
invariant-loop-q l = Clearing l.states l.words l.used l.initial.counts l.counts l.initial.sums l.sums l.q
