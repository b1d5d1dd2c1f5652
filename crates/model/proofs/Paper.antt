-- "The paper's own table", checked by computation.
use mathlib.Core.Path.{◌≡◌, refl}
use mathlib.Core.Bool.{true}
use mathlib.Core.List.{[], ◌∷◌, map, flatten}
use Rattle.model.specs.Answers.{result}
use Rattle.model.specs.Choice.{refuse_on, first_faulty, any_below}
use Rattle.model.specs.Table.{row_start, how_many, how_many_rows, first_rows, rows_of, table_of, same_by, row_is}
use Rattle.model.specs.Count.{sum, product, weight, state_counts, grow, count, total, largest, row_longest, state_longest, longest}
use Rattle.model.specs.Names.{lines_of}
use Rattle.model.specs.Text.{ascii}
use Rattle.model.specs.Paper.{paper_states, paper_row_list, paper_rows, paper_accepting, paper_names}
use Rattle.model.specs.Reach.{entry_of}
use Rattle.model.specs.Used.{state_used, grow_down, is_used}
use Rattle.model.specs.Check.{all_below, cut, too_many, out_of_range, not_below, repeated, row_ground, accepting_ground, limit_ground, state_ground, check_within, check_outcome}

-- "Symbol 1 is `a`, symbol 2 is `b`": these lines and no other
pub paper_names_lem : lines_of paper_names ≡ record { bytes = ascii "a"; ended = true } ∷ record { bytes = ascii "b"; ended = true } ∷ []
unfolding lines_of ascii paper_names
paper_names_lem = refl

-- "The states count 1, 1, 2, 3, 10"
paper_counts : map (count (table_of paper_states paper_rows paper_accepting)) (0 ∷ 1 ∷ 2 ∷ 3 ∷ 4 ∷ []) ≡ 1 ∷ 1 ∷ 2 ∷ 3 ∷ 10 ∷ []
unfolding row_start how_many how_many_rows first_rows rows_of sum product weight state_counts grow count paper_row_list flatten paper_rows
paper_counts = refl

-- "the total is 12"
pub paper_checks : check_outcome paper_states paper_rows paper_accepting ≡ result 12
unfolding check_outcome check_within first_faulty refuse_on any_below row_start how_many how_many_rows first_rows rows_of same_by row_is sum product weight state_counts grow count total largest row_longest state_longest longest all_below cut too_many out_of_range not_below repeated row_ground accepting_ground limit_ground state_ground entry_of state_used grow_down is_used paper_row_list flatten paper_rows
paper_checks = refl
