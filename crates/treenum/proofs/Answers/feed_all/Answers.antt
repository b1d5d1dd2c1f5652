use Rattle.std.proofs.Common.{rules}
use mathlib.Core.List.{flatten}
use Rattle.model.specs.Text.{ascii}
use Rattle.model.specs.Paper.{paper_row_list, paper_rows, paper_names}
use Rattle.treenum.proofs.Laws.{fills_first, fills_more, fills_broke, fills_last}
use Rattle.treenum.proofs.Answers.feed_all.Goals as goal

pub loop-i-init : goal.loop-i-init
loop-i-init c = fills_first _ _ _

pub returns-in_err-write_part : goal.returns-in_err-write_part
unfolding ascii paper_row_list flatten paper_rows paper_names
returns-in_err-write_part c = fills_broke c.loop-i.invariant _ _ _ _ _ c.gather-fed.ensures.from_lt_next.0 c.gather-fed.ensures.by_index c.in_err-write_part.field-0.0 c.in_err-write_part.ensures _ c.from_residual.ensures.0

pub loop-i-preserved : goal.loop-i-preserved
unfolding ascii paper_row_list flatten paper_rows paper_names
loop-i-preserved c = fills_more c.loop-i.invariant _ _ _ _ _ c.gather-fed.ensures.from_lt_next.0 c.gather-fed.ensures.by_index c.gather-fed.ensures.from_lt_next.1 c.in_ok-write_part.ensures

pub returns : goal.returns
returns c = fills_last c.loop-i.invariant (search rules)
