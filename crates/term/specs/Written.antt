-- What the parts of reading and writing a term promise. Assumes nothing: these are definitions.
use Rattle.std.specs.Prelude.{ℕ, ◌+◌, ◌<◌, ◌≤◌, ◌≡◌, List, ◌++◌, length, get_or, take, drop}
use Rattle.model.specs.Answers.{Outcome, outcome, lent_after}
use Rattle.model.specs.TermOperations.{entries_of, bytes_of, read_term_outcome, write_term_outcome, read_term_list, write_term_list}
use Rattle.std.specs.Prelude.{Result}
use Rattle.model.specs.declared.Refusal.{Refusal}
use Rattle.words.specs.Words.{Placed}

-- a piece is put at a place, and the next place comes after it
pub record Put (old new piece : List ℕ) (at next : ℕ) : Type 0 where
  pub holds : new ≡ take at old ++ piece ++ drop (at + length piece) old
  pub after : next ≡ at + length piece

-- the first n bytes are put at a place, and the other items of the list stay
abbrev pub Copied : (n : ℕ) (old new : List ℕ) (at : ℕ) (bytes : List ℕ) → Type 0
Copied n old new at bytes = Placed n old new at (λ k. get_or bytes k 0)

-- the list begins with what is written, and the rest stays
pub record Front (old new written : List ℕ) : Type 0 where
  pub holds : new ≡ written ++ drop (length written) old

-- every entry is at most n
pub record EntriesNamed (n : ℕ) (tree : List ℕ) : Type 0 where
  pub few : length tree ≤ 4096
  pub named : (i : ℕ) → i < length tree → get_or tree i 0 ≤ n

-- the answer is the outcome, and the lent list then holds what is written and the old rest, or on a refusal the old list
pub record Gave (o : Outcome) (written old new : List ℕ) (r : Result ℕ Refusal) : Type 0 where
  pub answer : outcome r ≡ o
  pub list : new ≡ lent_after o written old

-- reading a term, and writing one, where the answer is given by a definition that takes the lent list's length
abbrev pub ReadBy : (answered : (names text : List ℕ) (room : ℕ) → Outcome) (names text old new : List ℕ) → Result ℕ Refusal → Type 0
ReadBy answered names text old new r = Gave (answered names text (length old)) (entries_of names text) old new r

abbrev pub WriteBy : (answered : (names tree : List ℕ) (room : ℕ) → Outcome) (names tree old new : List ℕ) → Result ℕ Refusal → Type 0
WriteBy answered names tree old new r = Gave (answered names tree (length old)) (bytes_of names tree) old new r

-- reading a term: the answer, and what the lent tree list then holds
pub record ReadTerm (names text old new : List ℕ) (r : Result ℕ Refusal) : Type 0 where
  pub answer : outcome r ≡ read_term_outcome names text (length old)
  pub list : new ≡ read_term_list names text old

-- writing a term: the answer, and what the lent text list then holds
pub record WriteTerm (names tree old new : List ℕ) (r : Result ℕ Refusal) : Type 0 where
  pub answer : outcome r ≡ write_term_outcome names tree (length old)
  pub list : new ≡ write_term_list names tree old
