-- The states below q are counted.
use Rattle.rows.specs.Words.{rows_in}
use Rattle.counts.proofs.All.{Counting}
use Rattle.counts.proofs.ByTarget.count_states.Given as goal

abbrev pub invariant-loop-q : goal.invariant-loop-q
invariant-loop-q l = Counting l.states (rows_in l.self.rows.pool.now l.self.rows.words.now) l.initial.counts l.initial.marks l.initial.sums l.counts l.marks l.sums l.q
