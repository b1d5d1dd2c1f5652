-- "Half-drawn states" (document 02, c): which states are used. Assumes nothing: these are definitions.
use Rattle.std.specs.Prelude.{ℕ, zero, suc, ◌+◌, ◌-◌, Bool, false, ◌&&◌, ◌||◌, List, [], ◌∷◌, map, length, get_or, take, ltb, if◌then◌else◌}
use Rattle.model.specs.Choice.{any_below}
use Rattle.model.specs.Table.{Row, Table, no_row}
use Rattle.model.specs.Tree.{Forest, Tree, empty, node, only}
use Rattle.model.specs.Reach.{Reaches, Accepted, target_of, row_of, state_of, entry_of, is_among}
use Rattle.model.specs.Count.{sum, row_counts, count}
use Rattle.model.specs.Value.{row_value}

-- ---- the sentence

-- the tree is one of the forest's
pub data Child (x : Tree) : Forest → Type 0 where
  first : {right : Forest} → Child x (node x.symbol x.children right)
  later : {s : ℕ} {children right : Forest} → Child x right → Child x (node s children right)

-- the subtrees of a tree: the tree itself, and each child of a subtree. (`Closes` of specs/Place speaks of their entries)
pub data Subtree (t : Tree) : Tree → Type 0 where
  whole : Subtree t t
  child : {x y : Tree} → Subtree t x → Child y x.children → Subtree t y

-- "A state is used if some accepted tree has a subtree reaching it."
pub record Used (T : Table) (q : ℕ) : Type 0 where
  pub tree : Tree
  pub accepted : Accepted T tree
  pub subtree : Tree
  pub inside : Subtree tree subtree
  pub reaches : Reaches T.rows subtree q

-- ---- the same by a function, where the rows and the accepting list are without fault, however much the states count (the law `used_exactly`)

-- the state is an argument of the row, the row counts more than 0, and its target is used: c are the counts, u says which states are used
abbrev pub used_by : (c : ℕ → ℕ) (u : ℕ → Bool) → ℕ → Row → Bool
used_by c u q r = is_among q r.args && (ltb 0 (row_counts c r) && u r.target)

-- the state counts more than 0 and is listed, or a row uses it so
unfoldable pub state_used : Table → (c : ℕ → ℕ) (u : ℕ → Bool) → ℕ → Bool
state_used T c u q = (ltb 0 (c q) && is_among q T.accepting) || any_below (length T.rows) (λ i. used_by c u q (get_or T.rows i no_row))

-- what each of the highest n states has, in their order, found from what the states above it have: of no other state may f ask. A number beyond
-- the states has `d`
unfoldable pub grow_down : {A : Type 0} → A → ((ℕ → A) → ℕ → A) → (states n : ℕ) → List A
grow_down d f states zero = []
grow_down d f states (suc n) = let found = grow_down d f states n in f (λ a. get_or found (a - (states - n)) d) (states - suc n) ∷ found

-- whether a state is used, where "Every argument state of a row is a lower number than its target"
unfoldable pub is_used : Table → ℕ → Bool
is_used T q = get_or (grow_down false (state_used T (count T)) T.states T.states) q false

-- ---- "and no value is formed in an unused one": values and numbers with 0 in the place of each count and each value of an unused state
-- (specs/HalfDrawn)

-- the count of a used state; 0 for an unused one
unfoldable pub used_count : Table → ℕ → ℕ
used_count T q = if is_used T q then count T q else 0

-- the value of a tree whose row is i and whose children have the values vs; 0 where its state is unused
unfoldable pub formed_value : Table → (i : ℕ) → (vs : List ℕ) → ℕ
formed_value T i vs = if is_used T (target_of T i) then row_value T (used_count T) i vs else 0

-- the same for the trees of a forest, in order, and for one tree
unfoldable pub formed_values : Table → Forest → List ℕ
formed_values T empty = []
formed_values T (node s children right) = formed_value T (row_of T s children) (formed_values T children) ∷ formed_values T right

abbrev pub formed_of : Table → Tree → ℕ
formed_of T t = get_or (formed_values T (only t)) 0 0

-- the number of a tree, so found
unfoldable pub formed_number : Table → Tree → ℕ
formed_number T t = formed_of T t + sum (take (entry_of T.accepting (state_of T t)) (map (used_count T) T.accepting))
