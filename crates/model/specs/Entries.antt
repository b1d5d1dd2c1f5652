-- Reading a tree entry by entry, and refusals 12 and 13. Assumes nothing: these are definitions.
use Rattle.std.specs.Prelude.{ℕ, zero, suc, ◌-◌, Bool, ◌&&◌, ◌||◌, List, [], ◌∷◌, length, get_or, take, eqb, ltb, if◌then◌else◌}
use Rattle.model.specs.Answers.{Outcome, refused}
use Rattle.model.specs.Choice.{first_faulty}
use Rattle.model.specs.Table.{same_list}
use Rattle.model.specs.Tree.{Forest, Tree, empty, node, serial}

-- "each entry read opens a node, closes one": the bar, entry 0, closes one, any other entry opens one. How many nodes are open after the
-- entries
unfoldable pub open_after : (depth : ℕ) → List ℕ → ℕ
open_after depth [] = depth
open_after depth (e ∷ es) = open_after (if eqb e 0 then depth - 1 else suc depth) es

-- how many nodes are open where entry i is read
abbrev pub open_at : List ℕ → ℕ → ℕ
open_at entries i = open_after 0 (take i entries)

-- "the place is the first entry that is above 255, is a bar with no node open, or follows the root's bar": where
-- no entry before it is faulty, no node is open at an entry after the first exactly if the root's bar has been read
unfoldable pub entry_ground : List ℕ → ℕ → ℕ
entry_ground entries i =
    if ltb 255 (get_or entries i 0)
    || (eqb (get_or entries i 0) 0 && eqb (open_at entries i) 0)
    || (ltb 0 i && eqb (open_at entries i) 0)
    then 13 else 0

-- "a list that ends too soon (an empty one too)"
unfoldable pub ends_too_soon : List ℕ → Bool
ends_too_soon entries = eqb (length entries) 0 || ltb 0 (open_after 0 entries)

-- "For 13, each entry read opens a node, closes one, or is refused"; "for a list that ends too soon (an empty one too) the place is its
-- length"; where it does not hold, what follows
unfoldable pub form_then : List ℕ → Outcome → Outcome
form_then entries otherwise =
    first_faulty (length entries) (entry_ground entries)
    (if ends_too_soon entries then refused 13 (length entries) else otherwise)

-- "More than 4,096 entries is 12.", then 13
unfoldable pub tree_then : List ℕ → Outcome → Outcome
tree_then entries otherwise = if ltb 4096 (length entries) then refused 12 0 else form_then entries otherwise

-- Reading the tree of a list. The entries are taken from the last: a bar begins an empty level, and a symbol puts the trees of its level
-- as its children before the trees of the level outside
abbrev pub put : ℕ → List Forest → List Forest
put zero levels = empty ∷ levels
put (suc s) (children ∷ right ∷ levels) = node (suc s) children right ∷ levels
put (suc s) (children ∷ []) = []
put (suc s) [] = []

unfoldable pub levels_of : List ℕ → List Forest
levels_of [] = empty ∷ []
levels_of (e ∷ es) = put e (levels_of es)

-- no tree: 0 is no symbol
abbrev pub no_tree : Tree
no_tree = record { symbol = 0; children = empty }

abbrev pub first_tree : List Forest → Tree
first_tree (node s children right ∷ levels) = record { symbol = s; children = children }
first_tree (empty ∷ levels) = no_tree
first_tree [] = no_tree

-- the tree whose entries these are: a well-formed list is read as its tree (the law `tree_of`); where what is read has other entries, no
-- tree
unfoldable pub tree_from : List ℕ → Tree
tree_from entries =
    let tree = first_tree (levels_of entries) in
    if same_list (serial tree) entries then tree else no_tree
