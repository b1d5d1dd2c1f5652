-- "The program `treenum` holds this table: the rows of Figure 3 are fixed in the program." Assumes nothing: these are definitions.
use Rattle.std.specs.Prelude.{ℕ, List}
use Rattle.model.specs.Paper.{paper_states, paper_rows, paper_accepting, paper_names}
use Rattle.line.specs.Lines.{output_for}
use Rattle.line.specs.Held.{put_for}
use Rattle.line.specs.Feeding.{Prints}
use Rattle.line.specs.declared.Line.{Line}

-- what the program prints for its input
abbrev pub printed_for : (input : List ℕ) → List ℕ
printed_for input = output_for paper_states paper_rows paper_accepting paper_names input

-- what it puts for bytes, after those that are held: the answers to the lines that they end
abbrev pub put_after : (held bytes : List ℕ) → List ℕ
put_after held bytes = put_for paper_states paper_rows paper_accepting paper_names held bytes

-- `Prints` with this table
abbrev pub PrintsLine : (held bytes : List ℕ) (line : Line) (out : List ℕ) (count : ℕ) → Type 0
PrintsLine held bytes line out count = Prints paper_states paper_rows paper_accepting paper_names held bytes line out count
