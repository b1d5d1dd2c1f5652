-- The list's spelling of a name and of a text, and what is answered to either spelling (request (a)). Assumes nothing: these are definitions.
use Rattle.std.specs.Prelude.{ℕ, ◌<◌, ◌≡◌, Bool, true, false, ◌↔◌, List, [], ◌∷◌, ◌++◌, length, if◌then◌else◌}
use Rattle.model.specs.Answers.{result}
use Rattle.model.specs.Names.{is_name_byte, EachAlike, name_of, symbol_of, is_listed}
use Rattle.model.specs.Term.{run, name_begins, name_at}
use Rattle.model.specs.TermOperations.{bytes_of, name_ground, read_term_outcome, write_term_outcome, read_term_list, write_term_list}

-- a name in the list's spelling: the listed name equal to it (the first; in a names list there is one at most: the laws `one_line` and
-- `spelt_line`); a name that is not listed stays
unfoldable pub spelt : (names name : List ℕ) → List ℕ
spelt names name = if is_listed names name then name_of names (symbol_of names name) else name

-- a text in the list's spelling, from some byte on; `inside`: the byte before is in a name. The first byte of a name gives the whole name as the
-- list spells it, its other bytes give nothing more, any other byte stays. (A name is here a whole run of name bytes, in a text that is no term too.)
unfoldable pub respelt_from : (names : List ℕ) (inside : Bool) → List ℕ → List ℕ
respelt_from names inside [] = []
respelt_from names inside (b ∷ bs) =
    if is_name_byte b
    then (if inside then [] else spelt names (run (b ∷ bs))) ++ respelt_from names true bs
    else b ∷ respelt_from names false bs

-- "the text in the list's spelling"
abbrev pub respelt : (names text : List ℕ) → List ℕ
respelt names text = respelt_from names false text

-- a text is in the list's spelling: each listed name that begins in it is spelt as in the list
abbrev pub InSpelling : (names text : List ℕ) → Type 0
InSpelling names text = (i : ℕ) → i < length text → name_begins text i ≡ true → spelt names (name_at text i) ≡ name_at text i

-- what the text in the list's spelling is (the law `respelling`, for every list and text)
pub record Respelling (names text : List ℕ) : Type 0 where
  -- it is as long as the text, and alike at each place
  pub each : EachAlike (respelt names text) text
  -- where a name begins in the text, it has this name in the list's spelling
  pub named : (i : ℕ) → i < length text → name_begins text i ≡ true → name_at (respelt names text) i ≡ spelt names (name_at text i)
  -- it is in the list's spelling
  pub spelling : InSpelling names (respelt names text)
  -- it is the text, byte for byte, exactly if the text is in the list's spelling
  pub same : (respelt names text ≡ text) ↔ InSpelling names text
  -- respelling twice is respelling once
  pub twice : respelt names (respelt names text) ≡ respelt names text
  -- where 20 does not hold, no other text in the list's spelling is alike to the text
  pub only : ((i : ℕ) → i < length text → name_ground names text i ≡ 0) → (other : List ℕ) → EachAlike other text → InSpelling names other
      → other ≡ respelt names text

-- the bytes that are written, whatever the tree, are in the list's spelling
abbrev pub WrittenSpelling : Type 0
WrittenSpelling = (names tree : List ℕ) (room n : ℕ) → write_term_outcome names tree room ≡ result n → InSpelling names (bytes_of names tree)

-- "Reading takes either spelling.": texts that are alike byte by byte get the same answer, whatever it is, and leave the same tree list
abbrev pub EitherSpelling : Type 0
EitherSpelling =
    (names text other tree : List ℕ) → EachAlike text other
    → (read_term_outcome names text (length tree) ≡ read_term_outcome names other (length tree))
    × (read_term_list names text tree ≡ read_term_list names other tree)

-- "Older names lists hold `Probe`, newer ones `probe`": names lists that are alike byte by byte, whether they keep to the rules or not. Reading
-- the text gives the same answer and leaves the same tree list; writing the tree gives the same answer and leaves text lists that are alike. (Each
-- of `text` and `tree` is what one operation takes and the list that is lent to the other.)
abbrev pub EitherList : Type 0
EitherList =
    (names other text tree : List ℕ) → EachAlike names other
    → (read_term_outcome names text (length tree) ≡ read_term_outcome other text (length tree))
    × (read_term_list names text tree ≡ read_term_list other text tree)
    × (write_term_outcome names tree (length text) ≡ write_term_outcome other tree (length text))
    × EachAlike (write_term_list names tree text) (write_term_list other tree text)
