-- The rows of the state are walked along their chain, to the last that does not begin above the value.
use mathlib.Core.Path.{◌≡◌}
use Rattle.unrank.proofs.Rows.{Walking}
use Rattle.unrank.proofs.TreeWriter.find_row.Given as goal

abbrev pub invariant-loop-r : goal.invariant-loop-r
invariant-loop-r l =
    (l.r-iterator.words.now ≡ l.self.by_target.rows.words.now)
    × Walking l.self.by_target.rows.pool.now l.self.by_target.rows.words.now l.self.counts.now l.state l.value l.word l.begin l.r-iterator.next
