-- "Forms with sixty-four bits of numbers" (document 02, h): the larger limit, and what it leaves as it was. Assumes nothing: these are definitions.
use Rattle.std.specs.Prelude.{ℕ, ◌≤◌, ◌<◌, ◌≡◌, ◌⊎◌, ◌↔◌, List}
use Rattle.model.specs.Answers.{result, refused}
use Rattle.model.specs.Table.{table_of}
use Rattle.model.specs.Count.{count, total}
use Rattle.model.specs.Used.{Used}
use Rattle.model.specs.Check.{check_within, count_limit, check_outcome, Passes}
use Rattle.model.specs.Number.{number_outcome}
use Rattle.model.specs.Write.{write_outcome}
use Rattle.model.specs.Conserved.{Conserves}
use Rattle.model.specs.HalfDrawn.{check_all}

-- ---- "Counts, totals and numbers become 64-bit."

-- of a table that passes: the total, the counts of used states and the numbers of trees are at most 18,446,744,073,709,551,615
pub record Fits (states : ℕ) (rows accepting : List ℕ) (n : ℕ) : Type 0 where
  pub total_fits : n ≤ count_limit
  pub counts_fit : (q : ℕ) → Used (table_of states rows accepting) q → count (table_of states rows accepting) q ≤ count_limit
  pub numbers_fit : (tree : List ℕ) (number : ℕ) → number_outcome states rows accepting tree ≡ result number → number < count_limit
  -- so that no number from there up, of whatever length, is the number of a tree
  pub beyond : (number room : ℕ) → count_limit ≤ number → write_outcome states rows accepting number room ≡ refused 15 0

-- (the theorem `sixty_four`)
abbrev pub SixtyFour : Type 0
SixtyFour = (states : ℕ) (rows accepting : List ℕ) (n : ℕ) → Passes states rows accepting n → Fits states rows accepting n

-- ---- "Every tree and number of a table that passed before gets the same answer."

-- "a count above 4,294,967,295 is 9": document 01's limit
abbrev pub limit32 : ℕ
limit32 = 4294967295

-- of any two limits (the theorem `wider_limit`)
abbrev pub WiderLimit : Type 0
WiderLimit = (old new : ℕ) → old ≤ new → Conserves (check_within old) (check_within new)

-- of document 01's limit, and of document 01's check, which holds all states to it (the theorem `passed_before`)
abbrev pub PassedBefore : Type 0
PassedBefore = Conserves (check_within limit32) check_outcome × Conserves (check_all limit32) check_outcome

-- a table passes within the smaller limit exactly if it passes within the larger, with a total that is within the smaller (the theorem
-- `total_decides`)
abbrev pub TotalDecides : Type 0
TotalDecides = (old new : ℕ) → old ≤ new → (states : ℕ) (rows accepting : List ℕ) (n : ℕ)
    → (check_within old states rows accepting ≡ result n) ↔ ((check_within new states rows accepting ≡ result n) × (n ≤ old))

-- ---- "Refused: the limit in 9 and 11 becomes 18,446,744,073,709,551,615."

-- within the smaller limit the table is refused by 9 or 11, for a count or a total above it that is within the larger. (What is answered then:
-- the laws `check_refuses` and `check_gives`)
pub data RefusedBetween (old new states : ℕ) (rows accepting : List ℕ) : Type 0 where
  nine : (q : ℕ) → check_within old states rows accepting ≡ refused 9 q → Used (table_of states rows accepting) q
      → old < count (table_of states rows accepting) q → count (table_of states rows accepting) q ≤ new → RefusedBetween old new states rows accepting
  eleven : check_within old states rows accepting ≡ refused 11 0 → check_within new states rows accepting ≡ result (total (table_of states rows accepting))
      → old < total (table_of states rows accepting) → RefusedBetween old new states rows accepting

-- every other answer of the check is as it was (the theorem `only_between`)
abbrev pub OnlyBetween : Type 0
OnlyBetween = (old new : ℕ) → old ≤ new → (states : ℕ) (rows accepting : List ℕ)
    → (check_within new states rows accepting ≡ check_within old states rows accepting) ⊎ RefusedBetween old new states rows accepting
