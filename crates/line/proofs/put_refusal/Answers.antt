use borrow.Author.Rules.{rules}
use mathlib.Core.Path.{◌∙◌}
use Rattle.model.specs.Text.{ascii}
use Rattle.line.proofs.Putting.{refusal_put}
use Rattle.line.proofs.put_refusal.Goals as goal

pub returns : goal.returns
unfolding ascii
returns c = refusal_put _ _ (search rules) c.put_bytes-a.ensures c.put_decimal-b.ensures.0 c.put_decimal-b.ensures.1 c.put_decimal.ensures.0 c.put_decimal.ensures.1 _ (c.from-number.ensures ∙ c.from.ensures)
