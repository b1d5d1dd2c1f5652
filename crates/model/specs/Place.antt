-- What the places of 13, 14 and 19 are. Assumes nothing: these are definitions.
use Rattle.std.specs.Prelude.{ℕ, suc, ◌+◌, ◌<◌, ◌≤◌, ◌≡◌, List, ◌++◌, length, get_or, take}
use Rattle.model.specs.Table.{Table}
use Rattle.model.specs.Tree.{Tree, only, serial, SymbolsInRange}
use Rattle.model.specs.Reach.{Reaches}

-- the list can be completed to one that is whole
pub record CanGoOn (Whole : List ℕ → Type 0) (items : List ℕ) : Type 0 where
  pub more : List ℕ
  pub whole : Whole (items ++ more)

-- "the first byte with which no term can go on, or the text's length if it ends too soon" (19, the law `scan_place`); document 01's cases of
-- 13 come to the same (the law `form_place`): all before the place can be completed, one item more cannot; at the list's end the list is not
-- whole. There is one such place at most (the law `stops_once`)
pub record StopsAt (Whole : List ℕ → Type 0) (items : List ℕ) (place : ℕ) : Type 0 where
  pub within : place ≤ length items
  pub can : CanGoOn Whole (take place items)
  pub cannot : place < length items → CanGoOn Whole (take (suc place) items) → ⊥
  pub short : Whole items → ⊥

-- "bar that closes a subtree": the bar at place i closes the tree: the tree is the part of the entries that ends there
pub record Closes (entries : List ℕ) (i : ℕ) (t : Tree) : Type 0 where
  pub before : List ℕ
  pub after : List ℕ
  pub symbols : SymbolsInRange (only t)
  pub split : entries ≡ before ++ serial t ++ after
  pub place : length before + length (serial t) ≡ suc i

-- for "the first bar": each bar before place n closes a tree with the property. A bar closes no more than one tree (the law `closes_once`)
abbrev pub BarsClose : (Tree → Type 0) → List ℕ → ℕ → Type 0
BarsClose P entries n = (i : ℕ) → i < n → get_or entries i 0 ≡ 0 → (u : Tree) × Closes entries i u × P u

-- the tree reaches a state, so it is not one "reaching no state"
abbrev pub ReachesSome : Table → Tree → Type 0
ReachesSome T t = (q : ℕ) × Reaches T.rows t q

-- 14: what its place is in a tree that the table does not accept (the law `stuck_place`)
pub data UnacceptedAt (T : Table) (t : Tree) (place : ℕ) : Type 0 where
  -- "Its place is the first bar that closes a subtree reaching no state": this bar does, and each bar before it closes one that reaches a state
  stuck : (u : Tree) → Closes (serial t) place u → ((q : ℕ) → Reaches T.rows u q → ⊥) → BarsClose (ReachesSome T) (serial t) place → UnacceptedAt T t place
  -- "if the whole tree reaches a state that is not listed, it is the last bar"
  unlisted : BarsClose (ReachesSome T) (serial t) (length (serial t)) → (q : ℕ) → Reaches T.rows t q
      → ((i : ℕ) → i < length T.accepting → get_or T.accepting i 0 ≡ q → ⊥) → suc place ≡ length (serial t) → UnacceptedAt T t place
