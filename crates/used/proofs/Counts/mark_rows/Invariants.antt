-- The rows of the state are taken along their chain; where all states below it that have trees are marked, the rows that are left mark
-- nothing new.
use mathlib.Core.Path.{◌≡◌}
use Rattle.rows.specs.Listed.{all_rows}
use Rattle.used.proofs.Turn.{Taking}
use Rattle.used.proofs.Counts.mark_rows.Given as goal

abbrev pub invariant-loop-word : goal.invariant-loop-word
invariant-loop-word l = (l.word-iterator.words.now ≡ l.by_target.rows.words.now) × Taking (all_rows l.by_target.rows) l.self.counts.now l.q l.initial.used l.used l.n l.word-iterator.next
