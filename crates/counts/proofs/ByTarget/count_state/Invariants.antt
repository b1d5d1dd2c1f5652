-- The rows of the state are counted along their chain; each turn counts the row that the link leads to.
use mathlib.Core.Path.{◌≡◌}
use Rattle.rows.specs.Words.{rows_in}
use Rattle.counts.proofs.States.{StateSumming}
use Rattle.counts.proofs.ByTarget.count_state.Given as goal

abbrev pub invariant-loop-r : goal.invariant-loop-r
invariant-loop-r l = (l.r-iterator.words.now ≡ l.self.rows.words.now) × StateSumming (rows_in l.self.rows.pool.now l.self.rows.words.now) l.counts l.marks l.q l.initial.sums l.sums l.count l.long l.r-iterator.next
