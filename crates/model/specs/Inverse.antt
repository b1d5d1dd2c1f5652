-- What reading and writing a term take, that each undoes the other on what both take (but for the spelling of a text, which becomes the
-- list's), what the lent lists then hold, and what a term and its entries are by texts alone. Assumes nothing: these are definitions.
use Rattle.std.specs.Prelude.{ℕ, ◌≤◌, ◌<◌, ◌≡◌, true, ◌⊎◌, ◌↔◌, List, [], ◌∷◌, ◌++◌, length, get_or, take, drop}
use Rattle.model.specs.Answers.{result, Lent}
use Rattle.model.specs.Tree.{WellFormed}
use Rattle.model.specs.Names.{is_name, IsNamesList, how_many_names, symbol_of}
use Rattle.model.specs.Term.{alone, IsTerm}
use Rattle.model.specs.TermOperations.{AllListed, entries_of, bytes_of, read_term_outcome, write_term_outcome, read_term_list, write_term_list}
use Rattle.model.specs.Spelling.{respelt}

-- what can be written: none of 17, 12, 13 and 23 holds (a bar, entry 0, is never above the count of names)
pub record Writable (names tree : List ℕ) : Type 0 where
  pub list : IsNamesList names
  pub few : length tree ≤ 4096
  pub well : WellFormed tree
  pub named : (i : ℕ) → i < length tree → get_or tree i 0 ≤ how_many_names names

-- writing a term answers a result exactly where it can be written and its bytes fit: how many they are
abbrev pub WriteTaken : Type 0
WriteTaken =
    (names tree : List ℕ) (room n : ℕ) → (write_term_outcome names tree room ≡ result n)
    ↔ (Writable names tree × (n ≡ length (bytes_of names tree)) × (n ≤ room))

-- what can be read: none of 17, 18, 19, 20 and 21 holds
pub record Readable (names text : List ℕ) : Type 0 where
  pub list : IsNamesList names
  pub short : length text ≤ 65536
  pub well : IsTerm text
  pub listed : AllListed names (alone well.is)
  pub few : length (entries_of names text) ≤ 4096

-- reading a term answers a result exactly where it can be read and its entries fit: how many they are
abbrev pub ReadTaken : Type 0
ReadTaken =
    (names text : List ℕ) (room n : ℕ) → (read_term_outcome names text room ≡ result n)
    ↔ (Readable names text × (n ≡ length (entries_of names text)) × (n ≤ room))

-- reading a written term gives back the tree, entry for entry, into any long enough list
abbrev pub WrittenReads : Type 0
WrittenReads =
    (names tree text : List ℕ) (n : ℕ) → write_term_outcome names tree (length text) ≡ result n
    → (lent : List ℕ) → length tree ≤ length lent
    → (read_term_outcome names (take n (write_term_list names tree text)) (length lent) ≡ result (length tree))
    × (read_term_list names (take n (write_term_list names tree text)) lent ≡ tree ++ drop (length tree) lent)

-- "writing a read term gives the text in the list's spelling" (request (a)), into any long enough list
abbrev pub ReadWrites : Type 0
ReadWrites =
    (names text tree : List ℕ) (n : ℕ) → read_term_outcome names text (length tree) ≡ result n
    → (lent : List ℕ) → length text ≤ length lent
    → (write_term_outcome names (take n (read_term_list names text tree)) (length lent) ≡ result (length text))
    × (write_term_list names (take n (read_term_list names text tree)) lent ≡ respelt names text ++ drop (length text) lent)

-- what the lent lists then hold: reading a term writes its entries, writing a term its bytes
abbrev pub ReadLent : Type 0
ReadLent = (names text tree : List ℕ) → Lent (read_term_outcome names text (length tree)) (entries_of names text) tree (read_term_list names text tree)

abbrev pub WriteLent : Type 0
WriteLent = (names tree text : List ℕ) → Lent (write_term_outcome names tree (length text)) (bytes_of names tree) text (write_term_list names tree text)

-- What a term is and what its entries are, by texts alone: there is no limit on how many terms stand in brackets, or how deep

-- texts with `,` between them
unfoldable pub commas : List (List ℕ) → List ℕ
commas [] = []
commas (t ∷ []) = t
commas (t ∷ u ∷ us) = t ++ 44 ∷ commas (u ∷ us)

-- "a name followed by `(`, one or more terms with `,` between them, and `)`"
pub record Applied (text : List ℕ) : Type 0 where
  pub name : List ℕ
  pub named : is_name name ≡ true
  pub terms : List (List ℕ)
  pub some : 1 ≤ length terms
  pub each : (k : ℕ) → k < length terms → IsTerm (get_or terms k [])
  pub written : name ++ (40 ∷ (commas terms ++ 41 ∷ [])) ≡ text

-- "A term is a name, or a name followed by `(`, one or more terms with `,` between them, and `)`."
abbrev pub TermSentence : Type 0
TermSentence = (text : List ℕ) → IsTerm text ↔ ((is_name text ≡ true) ⊎ Applied text)

-- "its children one after another": the entries of each
unfoldable pub entries_each : (names : List ℕ) → List (List ℕ) → List ℕ
entries_each names [] = []
entries_each names (t ∷ ts) = entries_of names t ++ entries_each names ts

-- "the symbol of a node, its children one after another, then the bar, which is entry 0"
abbrev pub EntriesSentence : Type 0
EntriesSentence =
    (names text : List ℕ) → (is_name text ≡ true → entries_of names text ≡ symbol_of names text ∷ 0 ∷ [])
    × ((a : Applied text) → entries_of names text ≡ symbol_of names a.name ∷ (entries_each names a.terms ++ 0 ∷ []))
