-- What is printed with a table and a names list. Assumes nothing: these are definitions.
use Rattle.std.specs.Prelude.{ℕ, List}
use Rattle.line.specs.Lines.{answer_number, answer_term, answer_to, output_for}
use Rattle.line.specs.Feeding.{Prints}
use Rattle.line.specs.declared.Line.{Line}
use Rattle.line.specs.declared.Lists.{Lists}

-- the line that answers a number, that answers a term, that answers an input line; and what is printed for a whole input
abbrev pub number_answer_of : Lists → (number : ℕ) → List ℕ
number_answer_of lists = answer_number lists.states lists.rows.now lists.accepting.now lists.names.now

abbrev pub term_answer_of : Lists → (text : List ℕ) → List ℕ
term_answer_of lists = answer_term lists.states lists.rows.now lists.accepting.now lists.names.now

abbrev pub answer_of : Lists → (line : List ℕ) → List ℕ
answer_of lists = answer_to lists.states lists.rows.now lists.accepting.now lists.names.now

abbrev pub output_of : Lists → (input : List ℕ) → List ℕ
output_of lists = output_for lists.states lists.rows.now lists.accepting.now lists.names.now

-- `Prints` with these
abbrev pub PrintsFor : Lists → (held bytes : List ℕ) (line : Line) (out : List ℕ) (count : ℕ) → Type 0
PrintsFor lists = Prints lists.states lists.rows.now lists.accepting.now lists.names.now
