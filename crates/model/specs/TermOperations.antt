-- "Reading a term" and "Writing a term": the ordered choices of refusals, and what the lent list then holds. Assumes nothing: these are
-- definitions.
use Rattle.std.specs.Prelude.{ℕ, ◌≡◌, true, ◌&&◌, not, List, length, get_or, ltb, if◌then◌else◌}
use Rattle.model.specs.Answers.{Outcome, result, refused, lent_after}
use Rattle.model.specs.Choice.{first_faulty}
use Rattle.model.specs.Tree.{Forest, Tree, empty, node, serial}
use Rattle.model.specs.Names.{name_of, symbol_of, is_listed, how_many_names, names_then}
use Rattle.model.specs.Entries.{tree_then, tree_from}
use Rattle.model.specs.Term.{Terms, Term, none, term, text_of, term_then, name_begins, name_at, term_from}

-- each name's symbol
unfoldable pub symbols_of : (names : List ℕ) → Terms → Forest
symbols_of names none = empty
symbols_of names (term n inner right) = node (symbol_of names n) (symbols_of names inner) (symbols_of names right)

-- each symbol's name
unfoldable pub names_of : (names : List ℕ) → Forest → Terms
names_of names empty = none
names_of names (node s children right) = term (name_of names s) (names_of names children) (names_of names right)

abbrev pub tree_of_term : (names : List ℕ) → Term → Tree
tree_of_term names t = record { symbol = symbol_of names t.name; children = symbols_of names t.inner }

abbrev pub term_of_tree : (names : List ℕ) → Tree → Term
term_of_tree names t = record { name = name_of names t.symbol; inner = names_of names t.children }

-- the entries of the tree that a term is (once more, by texts alone: the law `entries_sentence`)
unfoldable pub entries_of : (names text : List ℕ) → List ℕ
entries_of names text = serial (tree_of_term names (term_from text))

-- the bytes of the term that a tree is
unfoldable pub bytes_of : (names tree : List ℕ) → List ℕ
bytes_of names tree = text_of (term_of_tree names (tree_from tree))

-- every name of the terms is listed
unfoldable pub AllListed : (names : List ℕ) → Terms → Type 0
AllListed names none = Unit
AllListed names (term n inner right) = (is_listed names n ≡ true) × AllListed names inner × AllListed names right

-- "A name not listed is 20, at its first byte, the earliest such name." (over the names of the term: the law `listed_place`)
unfoldable pub name_ground : (names text : List ℕ) → ℕ → ℕ
name_ground names text i = if name_begins text i && not (is_listed names (name_at text i)) then 20 else 0

-- "A tree above 4,096 entries is 21. A short lent list is 22, with the entries needed.": with a limit, for a tree of so many entries
abbrev pub fits_in : (limit needed room : ℕ) → Outcome
fits_in limit needed room =
    if ltb limit needed then refused 21 0 else
    if ltb room needed then refused 22 needed else result needed

-- Reading a term, with a limit for the entries of its tree: the grounds from the last to the first. Each definition is what is answered where no
-- ground that document 01 names before holds
module _ (limit : ℕ) (names text : List ℕ) (room : ℕ) where
  -- the last grounds, and the result
  abbrev pub read_fits : Outcome
  read_fits = fits_in limit (length (entries_of names text)) room

  -- "A name not listed is 20"
  abbrev pub read_whole : Outcome
  read_whole = first_faulty (length text) (name_ground names text) read_fits

  -- "A text above 65,536 bytes is 18. A text that is no term is 19"
  abbrev pub read_named : Outcome
  read_named =
      if ltb 65536 (length text) then refused 18 0 else
      term_then text read_whole

  -- "A names list against the rules above is 17"
  abbrev pub read_term_within : Outcome
  read_term_within = names_then names read_named

-- "Reading a term gives the count of tree entries written at the front", into a list with room for this many
unfoldable pub read_term_outcome : (names text : List ℕ) (room : ℕ) → Outcome
read_term_outcome names text room = read_term_within 4096 names text room

-- "A symbol above the count of names is 23, at the first such entry."
unfoldable pub symbol_ground : (names tree : List ℕ) → ℕ → ℕ
symbol_ground names tree i = if ltb (how_many_names names) (get_or tree i 0) then 23 else 0

-- Writing a term: the grounds from the last to the first, as for reading
module _ (names tree : List ℕ) (room : ℕ) where
  -- "A short lent list is 24, with the bytes needed."
  abbrev pub write_fits : Outcome
  write_fits =
      let needed = length (bytes_of names tree) in
      if ltb room needed then refused 24 needed else result needed

  -- "A symbol above the count of names is 23"
  abbrev pub write_formed : Outcome
  write_formed = first_faulty (length tree) (symbol_ground names tree) write_fits

  -- "then 12, then 13, as above"
  abbrev pub write_named : Outcome
  write_named = tree_then tree write_formed

  -- "Writing a term gives the count of bytes written at the front", into a list with room for this many. "It refuses 17"
  unfoldable pub write_term_outcome : Outcome
  write_term_outcome = names_then names write_named

-- what the lent tree list holds after reading a term
unfoldable pub read_term_list : (names text tree : List ℕ) → List ℕ
read_term_list names text tree = lent_after (read_term_outcome names text (length tree)) (entries_of names text) tree

-- what the lent text list holds after writing a term
unfoldable pub write_term_list : (names tree text : List ℕ) → List ℕ
write_term_list names tree text = lent_after (write_term_outcome names tree (length text)) (bytes_of names tree) text
