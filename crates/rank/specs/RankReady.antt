-- What numbering starts from: bounds that keep every sum and product within the limit. Assumes nothing: these are definitions.
use Rattle.std.specs.Prelude.{ℕ, ◌+◌, ◌<◌, ◌≤◌, max, ◌≡◌, List, map, length, get_or, Some}
use Rattle.model.specs.Table.{Row}
use Rattle.model.specs.Count.{sum, product}
use Rattle.model.specs.Check.{count_limit}
use Rattle.index.specs.Index.{Index, row_found}
use Rattle.model.proofs.Good.{Good, Within}
use Rattle.rows.specs.Words.{row_no, rows_in, nexts, held_table, Held}
use Rattle.counts.specs.Chain.{target}
use Rattle.counts.specs.States.{held}
use Rattle.counts.specs.Prepared.{UsedCounts}

-- one value for each state, below the state's count
pub record ValuesFit (cs xs vs : List ℕ) : Type 0 where
  pub many : length vs ≡ length xs
  pub placed : (k : ℕ) → k < length xs → get_or xs k 0 < length cs
  pub below : (k : ℕ) → k < length xs → get_or vs k 0 < held cs (get_or xs k 0)

-- and the product of the counts is within the limit
pub record Foldable (cs xs vs : List ℕ) : Type 0 where
  pub valued : ValuesFit cs xs vs
  pub small : product (map (held cs) xs) ≤ count_limit

-- a value can be formed in state q by row k, where the state is used, that is, counts more than 0: the row counts within the limit, with the
-- rows before it
pub record Formable (cs sums xs vs : List ℕ) (k q : ℕ) : Type 0 where
  pub state : q < length cs
  pub row : k < length sums
  pub valued : 0 < held cs q → ValuesFit cs xs vs
  pub small : 0 < held cs q → product (map (held cs) xs) + get_or sums k 0 ≤ count_limit

-- by the row with the symbol and the states, where there is one
abbrev pub Closable : (rows : List Row) (cs sums : List ℕ) (s : ℕ) (xs vs : List ℕ) → Type 0
Closable rows cs sums s xs vs = (k : ℕ) → row_found rows s xs ≡ Some k → Formable cs sums xs vs k (target rows k)

-- a value below the count of its state, or 0 in a state that counts 0; and all counts of the accepting list together within the limit
pub record Summable (accepting cs : List ℕ) (q v : ℕ) : Type 0 where
  pub below : v < max 1 (held cs q)
  pub placed : (k : ℕ) → k < length accepting → get_or accepting k 0 < length cs
  pub small : sum (map (held cs) accepting) ≤ count_limit

-- each of the states counts more than 0
abbrev pub AllCount : (c : ℕ → ℕ) (xs : List ℕ) → Type 0
AllCount c xs = (j : ℕ) → j < length xs → 0 < c (get_or xs j 0)

-- the rows are held in words and stand in the index. `whole` is what the states count, used or not; `cs` has 0 for an unused one. A row of a
-- used target counts, with the rows before it, at most what its target counts
pub record RankReady (by : ℕ) (pool words heads accepting cs sums : List ℕ) : Type 0 where
  pub rows_held : Held pool words (length words)
  pub index : Index by (rows_in pool words) heads (nexts words)
  pub sums_room : length words ≤ length sums
  pub targets : (k : ℕ) → k < length words → target (rows_in pool words) k < length cs
  pub whole : ℕ → ℕ
  -- where a row's arguments have trees, its target has; where the target is used too, so are they
  pub reached : (k : ℕ) → k < length words → AllCount whole (row_no (rows_in pool words) k).args → 0 < whole (target (rows_in pool words) k)
  pub used : (k : ℕ) → k < length words → AllCount whole (row_no (rows_in pool words) k).args → 0 < held cs (target (rows_in pool words) k)
      → AllCount (held cs) (row_no (rows_in pool words) k).args
  pub shares : (k : ℕ) → k < length words → 0 < held cs (target (rows_in pool words) k)
      → product (map (held cs) (row_no (rows_in pool words) k).args) + get_or sums k 0 ≤ held cs (target (rows_in pool words) k)
  pub small : (k : ℕ) → k < length words → held cs (target (rows_in pool words) k) ≤ count_limit
  pub placed : (k : ℕ) → k < length accepting → get_or accepting k 0 < length cs
  pub total : sum (map (held cs) accepting) ≤ count_limit

-- what a table that passes leaves for numbering: its rows in words, their index, and the counts of its used states
pub record TableReady (by states : ℕ) (pool words heads accepting cs sums : List ℕ) : Type 0 where
  pub good : Good (held_table states pool words accepting)
  pub within : Within count_limit (held_table states pool words accepting)
  pub rows_held : Held pool words (length words)
  pub index : Index by (rows_in pool words) heads (nexts words)
  pub counts_room : states ≤ length cs
  pub sums_room : length words ≤ length sums
  pub counted : UsedCounts (held_table states pool words accepting) cs sums
