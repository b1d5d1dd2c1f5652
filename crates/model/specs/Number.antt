-- "Numbering a tree gives its number.": the check, 12 and 13, then 14. Assumes nothing: these are definitions.
use Rattle.std.specs.Prelude.{ℕ, suc, ◌+◌, ◌-◌, Bool, not, List, length, if◌then◌else◌}
use Rattle.model.specs.Answers.{Outcome, result, refused}
use Rattle.model.specs.Table.{Table, table_of}
use Rattle.model.specs.Tree.{Forest, Tree, empty, node, only, serial_forest, serial}
use Rattle.model.specs.Reach.{target_of, row_of, state_of, is_among}
use Rattle.model.specs.Value.{tree_number}
use Rattle.model.specs.Check.{is_state, check_outcome}
use Rattle.model.specs.Entries.{tree_then, tree_from}

-- "It first refuses as the check does.": the check's refusal, or what follows, with the total
abbrev pub checked_then : Outcome → (ℕ → Outcome) → Outcome
checked_then (result total) otherwise = otherwise total
checked_then (refused number place) otherwise = refused number place

-- the tree with this symbol and these children reaches no state (the law `reaches_none_lem`)
unfoldable pub reaches_none : Table → (symbol : ℕ) (children : Forest) → Bool
reaches_none T s children = not (is_state T.states (target_of T (row_of T s children)))

-- "Its place is the first bar that closes a subtree reaching no state": in trees whose first entry stands at the place. A node's bar comes
-- after its children, and before the trees to its right
unfoldable pub stuck_then : Table → Forest → (place : ℕ) → Outcome → Outcome
stuck_then T empty place otherwise = otherwise
stuck_then T (node s children right) place otherwise =
    let bar = suc place + length (serial_forest children) in
    stuck_then T children (suc place)
    (if reaches_none T s children then refused 14 bar else
    stuck_then T right (suc bar) otherwise)

-- "A tree that the table does not accept is 14."; "if the whole tree reaches a state that is not listed, it is the last bar"
unfoldable pub accepted_then : Table → Tree → Outcome → Outcome
accepted_then T t otherwise =
    stuck_then T (only t) 0
    (if is_among (state_of T t) T.accepting then otherwise else refused 14 (length (serial t) - 1))

-- what numbering a tree of a table answers, where this is what the table's check answers
unfoldable pub number_tree : (checked : Outcome) → Table → (tree : List ℕ) → Outcome
number_tree checked T tree =
    let t = tree_from tree in
    -- "It first refuses as the check does. More than 4,096 entries is 12.", then 13, then 14
    checked_then checked (λ total. tree_then tree (accepted_then T t (result (tree_number T t))))

-- what numbering a tree answers, for any count of states and any three lists: the table is lent with its rows in one list
unfoldable pub number_outcome : (states : ℕ) (rows accepting tree : List ℕ) → Outcome
number_outcome states rows accepting tree = number_tree (check_outcome states rows accepting) (table_of states rows accepting) tree
