-- A row that counts more than 0 has arguments with trees only.
use mathlib.Core.Path.{sym, ◌∙◌}
use Rattle.used.proofs.Turn.{row_marked}
use Rattle.used.proofs.Counts.mark_row.Goals as goal

pub returns-then-row_counts : goal.returns-then-row_counts
returns-then-row_counts c = row_marked _ _ (sym c.row_counts.ensures ∙ c.if-row_counts.true) c.mark_listed.ensures
