-- The row is looked for among those before it, and entered where it is not found.
use Rattle.std.proofs.Common.{ap, sym, ◌∙◌}
use Rattle.model.specs.Answers.{refused_by}
use Rattle.index.proofs.OneMore.{enter_repeats, enter_enters}
use Rattle.index.proofs.enter_row.Goals as goal

pub returns-then-is_some : goal.returns-then-is_some
returns-then-is_some c = enter_repeats c.requires _ c.new-key.ensures.front (rw c.new-key.ensures.args at c.seek.ensures) c.in_ok-seek.field-0 c.in_ok-seek.was (sym c.is_some.ensures ∙ c.if-is_some.true) _ (ap refused_by c.new.ensures)

pub returns : goal.returns
returns c =
    enter_enters c.requires _ c.new-key.ensures.front (rw c.new-key.ensures.args at c.seek.ensures) c.in_ok-seek.field-0 c.in_ok-seek.was (sym c.is_some.ensures ∙ c.if-is_some.false) _ c.bucket-b.ensures.1 (rw c.new-key.ensures.args at c.bucket-b.ensures.0) _ c.word.ensures
