-- Marks of used states in a list. Assumes nothing: these are definitions.
use Rattle.std.specs.Prelude.{ℕ, ◌<◌, ◌≤◌, ◌≡◌, Bool, true, false, ◌&&◌, ◌||◌, List, map, length, get_or, eqb, ltb}
use Rattle.model.specs.Choice.{any_below}
use Rattle.model.specs.Table.{Row}
use Rattle.model.specs.Count.{product, count}
use Rattle.model.specs.Reach.{is_among}
use Rattle.model.specs.Used.{is_used}
use Rattle.rows.specs.Words.{row_no, rows_in, held_table}
use Rattle.counts.specs.Chain.{target, InOrder}
use Rattle.counts.specs.States.{held}

-- the state is marked
abbrev pub is_set : List ℕ → ℕ → Bool
is_set used q = ltb 0 (get_or used q 0)

-- every entry of the list is below n
pub record Placed (n : ℕ) (xs : List ℕ) : Type 0 where
  pub placed : (k : ℕ) → k < length xs → get_or xs k 0 < n

-- every entry of the list has a count and a place among the marks
pub record RowPlaced (xs cs : List ℕ) (used : List ℕ) : Type 0 where
  pub counted : Placed (length cs) xs
  pub marked : Placed (length used) xs

-- where this is so, every state has trees
pub record NoneEmpty (full : Bool) (cs : List ℕ) : Type 0 where
  pub some : full ≡ true → (a : ℕ) → a < length cs → 0 < held cs a

-- beside what was marked, the states with a property are marked
pub record MarkedToo (p : ℕ → Bool) (old new : List ℕ) : Type 0 where
  pub long : length new ≡ length old
  pub each : (q : ℕ) → is_set new q ≡ (is_set old q || p q)

-- the state is one of the arguments of a row that counts more than 0
abbrev pub row_names : (cs args : List ℕ) → ℕ → Bool
row_names cs args q = is_among q args && ltb 0 (product (map (held cs) args))

-- the state is listed and has trees
abbrev pub listed_by : (accepting cs : List ℕ) → ℕ → Bool
listed_by accepting cs q = ltb 0 (held cs q) && is_among q accepting

-- the state is so named by row i, whose target is m; and by some row with this target
abbrev pub named_row : (rows : List Row) (cs : List ℕ) (m q i : ℕ) → Bool
named_row rows cs m q i = eqb (target rows i) m && row_names cs (row_no rows i).args q

abbrev pub named_for : (rows : List Row) (cs : List ℕ) (m q : ℕ) → Bool
named_for rows cs m q = any_below (length rows) (named_row rows cs m q)

-- every state below n that has trees is marked
pub record AllMarked (cs : List ℕ) (used : List ℕ) (n : ℕ) : Type 0 where
  pub marked : (a : ℕ) → a < n → 0 < held cs a → is_set used a ≡ true

-- where the next state without a mark is looked for
pub record PassedBy (cs : List ℕ) (used : List ℕ) (n m : ℕ) : Type 0 where
  pub passed : AllMarked cs used n
  pub low : n ≤ m
  pub counted : m ≤ length cs
  pub room : m ≤ length used

-- what the rows of one state are taken from, beside the chains: they have lower arguments
pub record TurnReady (rows : List Row) (first cs : List ℕ) (used : List ℕ) (n q : ℕ) : Type 0 where
  pub lower : (r : ℕ) → r < length rows → target rows r ≡ q → Placed q (row_no rows r).args
  pub state : q < length first
  pub passed : PassedBy cs used n q

-- what they leave: the states that they name are marked too, and n is where the next state without a mark is looked for
pub record Turned (rows : List Row) (cs : List ℕ) (q : ℕ) (old new : List ℕ) (n : ℕ) : Type 0 where
  pub marked : MarkedToo (named_for rows cs q) old new
  pub passed : AllMarked cs new n
  pub low : n ≤ q

-- what the used states are found from, beside the chains: rows in order, listed states, no mark yet, and counts that are above 0 where the
-- true ones are
pub record PassReady (states : ℕ) (pool accepting words first cs : List ℕ) (used : List ℕ) : Type 0 where
  pub ordered : InOrder states (rows_in pool words)
  pub listed : Placed states accepting
  pub first_room : states ≤ length first
  pub cs_room : states ≤ length cs
  pub used_room : states ≤ length used
  pub blank : (q : ℕ) → is_set used q ≡ false
  pub alike : (a : ℕ) → ltb 0 (held cs a) ≡ ltb 0 (count (held_table states pool words accepting) a)

-- the used states are marked, and no other
pub record FoundUsed (states : ℕ) (pool accepting words : List ℕ) (used₀ used : List ℕ) : Type 0 where
  pub long : length used ≡ length used₀
  pub each : (q : ℕ) → is_set used q ≡ is_used (held_table states pool words accepting) q
