-- Why reading and writing a term are refused: by which number, and at which place. Assumes nothing: these are definitions.
use Rattle.std.specs.Prelude.{ℕ, zero, suc, ◌+◌, ◌≤◌, ◌<◌, ◌≡◌, true, false, ◌⊎◌, ◌↔◌, List, [], ◌∷◌, ◌++◌, length, get_or, eqb, if◌then◌else◌}
use Rattle.model.specs.Answers.{result, refused}
use Rattle.model.specs.Tree.{WellFormed}
use Rattle.model.specs.Names.{IsNamesList, how_many_names, is_listed}
use Rattle.model.specs.Term.{Terms, none, term, alone, in_brackets, text_of_terms, IsTerm}
use Rattle.model.specs.TermOperations.{AllListed, entries_of, bytes_of, read_term_outcome, write_term_outcome}
use Rattle.model.specs.Place.{StopsAt}
use Rattle.model.specs.Inverse.{Readable, Writable}

-- the bytes of the first k lines
unfoldable pub first_lines : List ℕ → ℕ → List ℕ
first_lines [] k = []
first_lines (b ∷ bs) zero = []
first_lines (b ∷ bs) (suc k) = b ∷ first_lines bs (if eqb b 10 then k else suc k)

-- 17: "its first faulty line, or 0 if it is empty": the lines before it, where there are any, are a names list; with it they are not.
-- There is one such line at most (the law `faulty_once`), and none in a names list (`faulty_no_list`)
pub record FaultyLine (names : List ℕ) (place : ℕ) : Type 0 where
  pub before : (place ≡ 0) ⊎ IsNamesList (first_lines names place)
  pub faulty : IsNamesList (first_lines names (suc place)) → ⊥

-- a name in a text, and the place of its first byte
pub record Placed : Type 0 where
  pub name : List ℕ
  pub place : ℕ

-- the names of terms whose text begins at a place, from left to right
unfoldable pub names_from : (at : ℕ) → Terms → List Placed
names_from at none = []
names_from at (term n inner right) =
    record { name = n; place = at }
    ∷ names_from (at + length n + 1) inner ++ names_from (at + length n + length (in_brackets inner (text_of_terms inner)) + 1) right

-- 20: "A name not listed is 20, at its first byte, the earliest such name.": of the names from left to right. There is one such
-- place at most (the law `unlisted_once`), and none where all are listed (`unlisted_some`)
unfoldable pub FirstUnlisted : (names : List ℕ) → List Placed → (place : ℕ) → Type 0
FirstUnlisted names [] place = ⊥
FirstUnlisted names (x ∷ xs) place =
    ((is_listed names x.name ≡ false) × (x.place ≡ place)) ⊎ ((is_listed names x.name ≡ true) × FirstUnlisted names xs place)

-- 23: "A symbol above the count of names is 23, at the first such entry." There is one such entry at most (the law `unnamed_once`)
pub record FirstUnnamed (names tree : List ℕ) (place : ℕ) : Type 0 where
  pub within : place < length tree
  pub above : how_many_names names < get_or tree place 0
  pub before : (i : ℕ) → i < place → get_or tree i 0 ≤ how_many_names names

-- why reading a term is refused: the grounds in their order, each where none before it holds
pub data ReadRefused (names text : List ℕ) (room number place : ℕ) : Type 0 where
  -- "A names list against the rules above is 17"
  read17 : number ≡ 17 → FaultyLine names place → ReadRefused names text room number place
  -- "A text above 65,536 bytes is 18."
  read18 : number ≡ 18 → place ≡ 0 → IsNamesList names → 65536 < length text → ReadRefused names text room number place
  -- "A text that is no term is 19"
  read19 : number ≡ 19 → IsNamesList names → length text ≤ 65536 → StopsAt IsTerm text place → ReadRefused names text room number place
  -- "A name not listed is 20"
  read20 : number ≡ 20 → IsNamesList names → length text ≤ 65536 → (w : IsTerm text) → FirstUnlisted names (names_from 0 (alone w.is)) place
      → ReadRefused names text room number place
  -- "A tree above 4,096 entries is 21."
  read21 : number ≡ 21 → place ≡ 0 → IsNamesList names → length text ≤ 65536 → (w : IsTerm text) → AllListed names (alone w.is)
      → 4096 < length (entries_of names text) → ReadRefused names text room number place
  -- "A short lent list is 22, with the entries needed."
  read22 : number ≡ 22 → place ≡ length (entries_of names text) → Readable names text → room < place → ReadRefused names text room number place

-- why writing a term is refused: the grounds in their order, each where none before it holds
pub data WriteRefused (names tree : List ℕ) (room number place : ℕ) : Type 0 where
  -- "It refuses 17, then 12, then 13, as above."
  write17 : number ≡ 17 → FaultyLine names place → WriteRefused names tree room number place
  write12 : number ≡ 12 → place ≡ 0 → IsNamesList names → 4096 < length tree → WriteRefused names tree room number place
  write13 : number ≡ 13 → IsNamesList names → length tree ≤ 4096 → StopsAt WellFormed tree place → WriteRefused names tree room number place
  -- "A symbol above the count of names is 23"
  write23 : number ≡ 23 → IsNamesList names → length tree ≤ 4096 → WellFormed tree → FirstUnnamed names tree place
      → WriteRefused names tree room number place
  -- "A short lent list is 24, with the bytes needed."
  write24 : number ≡ 24 → place ≡ length (bytes_of names tree) → Writable names tree → room < place → WriteRefused names tree room number place

-- ground and refusal decide each other: a refusal is given exactly where its ground holds, with its number and at its place (where there is
-- no refusal: `ReadTaken` and `WriteTaken`)
abbrev pub ReadRefuses : Type 0
ReadRefuses =
    (names text : List ℕ) (room number place : ℕ) → (read_term_outcome names text room ≡ refused number place)
    ↔ ReadRefused names text room number place

abbrev pub WriteRefuses : Type 0
WriteRefuses =
    (names tree : List ℕ) (room number place : ℕ) → (write_term_outcome names tree room ≡ refused number place)
    ↔ WriteRefused names tree room number place

-- one ground holds at most, with one number and one place
abbrev pub ReadRefusedOnce : Type 0
ReadRefusedOnce =
    (names text : List ℕ) (room k p m q : ℕ) → ReadRefused names text room k p → ReadRefused names text room m q → (k ≡ m) × (p ≡ q)

abbrev pub WriteRefusedOnce : Type 0
WriteRefusedOnce =
    (names tree : List ℕ) (room k p m q : ℕ) → WriteRefused names tree room k p → WriteRefused names tree room m q → (k ≡ m) × (p ≡ q)

-- "Where no ground stated below holds, the answer is the result."
abbrev pub ReadElse : Type 0
ReadElse =
    (names text : List ℕ) (room : ℕ) → ((number place : ℕ) → ReadRefused names text room number place → ⊥)
    → read_term_outcome names text room ≡ result (length (entries_of names text))

abbrev pub WriteElse : Type 0
WriteElse =
    (names tree : List ℕ) (room : ℕ) → ((number place : ℕ) → WriteRefused names tree room number place → ⊥)
    → write_term_outcome names tree room ≡ result (length (bytes_of names tree))
