use mathlib.Core.List.{flatten}
use Rattle.model.specs.Text.{ascii}
use Rattle.model.specs.Paper.{paper_row_list, paper_rows, paper_names}
use Rattle.treenum.proofs.Answers.finish.Goals as goal

pub returns : goal.returns
unfolding ascii paper_row_list flatten paper_rows paper_names
returns c held x = rw (c.last_line-n.ensures.begins held x).front at c.write_part.ensures
