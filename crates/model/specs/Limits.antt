-- What the refusals 9, 10 and 11 say of trees (the law `check_refuses`). Assumes nothing: these are definitions.
use Rattle.std.specs.Prelude.{ℕ, ◌≤◌, ◌<◌, ◌≡◌, List, length}
use Rattle.model.specs.Table.{Row, Table}
use Rattle.model.specs.Tree.{Tree, serial}
use Rattle.model.specs.Reach.{Reaches, Accepted}
use Rattle.model.specs.Order.{Exactly}
use Rattle.model.specs.Used.{Used}
use Rattle.model.specs.Check.{count_limit}

-- exactly this many trees reach the state
abbrev pub ReachedBy : List Row → (q many : ℕ) → Type 0
ReachedBy rows q many = Exactly (λ (t : Tree). Reaches rows t q) many

-- the state keeps to both limits
pub record WithinLimits (T : Table) (q : ℕ) : Type 0 where
  pub many : ℕ
  pub reached : ReachedBy T.rows q many
  pub few : many ≤ count_limit
  pub short : (t : Tree) → Reaches T.rows t q → length (serial t) ≤ 4096

-- "for each, a count above [the limit] is 9, and after that a longest tree above 4,096 entries is 10"
pub data BeyondLimits (T : Table) (q number : ℕ) : Type 0 where
  nine : number ≡ 9 → (many : ℕ) → ReachedBy T.rows q many → count_limit < many → BeyondLimits T q number
  ten : number ≡ 10 → (many : ℕ) → ReachedBy T.rows q many → many ≤ count_limit → (t : Tree) → Reaches T.rows t q → 4096 < length (serial t) → BeyondLimits T q number

-- "Then states are taken in turn from 0, the first faulty state decides, and its number is the place"; "9 and 10 speak of used states
-- only, in their old places." (document 02, c)
pub record FirstBeyond (T : Table) (q number : ℕ) : Type 0 where
  pub before : (a : ℕ) → a < q → Used T a → WithinLimits T a
  pub used : Used T q
  pub here : BeyondLimits T q number

-- "Last, a total above [the limit] is 11."
pub record TotalBeyond (T : Table) (place : ℕ) : Type 0 where
  pub zero_place : place ≡ 0
  -- no used state is beyond the limits
  pub states : (q : ℕ) → Used T q → WithinLimits T q
  pub many : ℕ
  pub accepted : Exactly (Accepted T) many
  pub beyond : count_limit < many
