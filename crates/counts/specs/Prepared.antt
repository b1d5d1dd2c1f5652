-- What is left of the counts of a table within the limits: those of its used states, or of all states. Assumes nothing: these are definitions.
use Rattle.std.specs.Prelude.{ℕ, ◌<◌, ◌≡◌, List, length, get_or, if◌then◌else◌}
use Rattle.model.specs.Check.{count_limit, limit_ground}
use Rattle.model.specs.Table.{Table}
use Rattle.model.specs.Count.{grow, count}
use Rattle.model.specs.Value.{earlier_rows}
use Rattle.model.specs.Used.{is_used, used_count}
use Rattle.counts.specs.Chain.{target}
use Rattle.counts.specs.States.{held}

-- what the rows before row k with the same target count; 0 where the target is unused
unfoldable pub used_sum : Table → ℕ → ℕ
used_sum T k = if is_used T (target T.rows k) then earlier_rows T.rows (count T) (target T.rows k) k else 0

-- the counts of used states and the sums of their rows; an unused state counts 0, and so do the sums of its rows
pub record UsedCounts (T : Table) (cs sums : List ℕ) : Type 0 where
  pub counted : (a : ℕ) → held cs a ≡ used_count T a
  pub summed : (k : ℕ) → k < length T.rows → get_or sums k 0 ≡ used_sum T k

-- the counts of all states and the sums of all rows, where no state is beyond a limit
pub record WholeCounts (T : Table) (cs sums : List ℕ) : Type 0 where
  pub counted : (a : ℕ) → held cs a ≡ count T a
  pub summed : (k : ℕ) → k < length T.rows → get_or sums k 0 ≡ earlier_rows T.rows (count T) (target T.rows k) k
  pub fine : (a : ℕ) → a < T.states → limit_ground count_limit T a ≡ 0

-- the table with every state listed: there each state with trees is used, and what is left of all states is what is left of its used states
abbrev pub every_listed : Table → Table
every_listed T = record { states = T.states; rows = T.rows; accepting = grow (λ c q. q) T.states }

-- either is enough to write a tree: no value below what is left for a state is in one beyond a limit
pub data Left (T : Table) (cs sums : List ℕ) : Type 0 where
  used : UsedCounts T cs sums → Left T cs sums
  whole : WholeCounts T cs sums → Left T cs sums
