-- Trees and their serial form. Assumes nothing: these are definitions.
use Rattle.std.specs.Prelude.{ℕ, ◌≤◌, ◌≡◌, List, [], ◌∷◌, ◌++◌}

-- trees from left to right: none, or a first tree (its symbol and its children) and the trees to its right
pub data Forest : Type 0 where
  empty : Forest
  node : (symbol : ℕ) (children right : Forest) → Forest

-- a node with its symbol and its children
pub record Tree : Type 0 where
  pub symbol : ℕ
  pub children : Forest

-- the tree alone
abbrev pub only : Tree → Forest
only t = node t.symbol t.children empty

-- "A tree is written in prefix notation with bars: the symbol of a node, its children one after another, then the bar, which is entry 0."
unfoldable pub serial_forest : Forest → List ℕ
serial_forest empty = []
serial_forest (node s children right) = s ∷ serial_forest children ++ 0 ∷ serial_forest right

-- the serial form of a tree
unfoldable pub serial : Tree → List ℕ
serial t = serial_forest (only t)

-- "with every symbol from 1 to 255"
unfoldable pub SymbolsInRange : Forest → Type 0
SymbolsInRange empty = Unit
SymbolsInRange (node s children right) = (1 ≤ s) × (s ≤ 255) × SymbolsInRange children × SymbolsInRange right

-- "A list is a well-formed tree if it is exactly one tree so written, with every symbol from 1 to 255"
pub record WellFormed (entries : List ℕ) : Type 0 where
  pub tree : Tree
  pub symbols : SymbolsInRange (only tree)
  pub written : serial tree ≡ entries

-- "two trees are the same if their lists are" (the law `serial_same`)
abbrev pub SameTree : Type 0
SameTree = (t u : Tree) → SymbolsInRange (only t) → SymbolsInRange (only u) → serial t ≡ serial u → t ≡ u
