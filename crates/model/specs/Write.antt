-- "Writing a tree gives the count of entries written at the front; later entries stay.": the check, then 15 and 16. Assumes nothing: these
-- are definitions.
use Rattle.std.specs.Prelude.{ℕ, not, List, length, ltb, if◌then◌else◌}
use Rattle.model.specs.Answers.{Outcome, result, refused, lent_after}
use Rattle.model.specs.Table.{Table, table_of}
use Rattle.model.specs.Tree.{serial}
use Rattle.model.specs.Count.{count}
use Rattle.model.specs.Value.{tree_of}
use Rattle.model.specs.Check.{check_outcome}
use Rattle.model.specs.Number.{checked_then}

-- the entries of a number's tree
unfoldable pub tree_entries : Table → (number : ℕ) → List ℕ
tree_entries T number = serial (tree_of T (count T) number)

-- "A lent list shorter than the tree is 16, the place being the entries needed."
abbrev pub tree_fits : (room needed : ℕ) → Outcome
tree_fits room needed = if ltb room needed then refused 16 needed else result needed

-- what writing the tree of a number answers for a table, where this is what the table's check answers, into a list with
-- room for this many entries
unfoldable pub write_tree : (checked : Outcome) → Table → (number room : ℕ) → Outcome
write_tree checked T number room =
    let needed = length (tree_entries T number) in
    -- "It first refuses as the check does."
    checked_then checked (λ total.
    -- "A number not below the total is 15."
    if not (ltb number total) then refused 15 0 else
    tree_fits room needed)

-- what the lent list holds afterwards
unfoldable pub write_tree_list : (checked : Outcome) → Table → (number : ℕ) (tree : List ℕ) → List ℕ
write_tree_list checked T number tree = lent_after (write_tree checked T number (length tree)) (tree_entries T number) tree

-- The same for any count of states and any two lists: the table is lent with its rows in one list
unfoldable pub entries_for : (states : ℕ) (rows accepting : List ℕ) (number : ℕ) → List ℕ
entries_for states rows accepting number = tree_entries (table_of states rows accepting) number

unfoldable pub write_outcome : (states : ℕ) (rows accepting : List ℕ) (number room : ℕ) → Outcome
write_outcome states rows accepting number room = write_tree (check_outcome states rows accepting) (table_of states rows accepting) number room

unfoldable pub write_list : (states : ℕ) (rows accepting : List ℕ) (number : ℕ) (tree : List ℕ) → List ℕ
write_list states rows accepting number tree = write_tree_list (check_outcome states rows accepting) (table_of states rows accepting) number tree
