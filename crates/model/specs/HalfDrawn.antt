-- "Half-drawn states" (document 02, c): what the request leaves as it was, and that values are formed in used states only. Assumes nothing:
-- these are definitions.
use Rattle.std.specs.Prelude.{ℕ, ◌<◌, ◌≡◌, ◌⊎◌, List}
use Rattle.model.specs.Answers.{Outcome, refused}
use Rattle.model.specs.Table.{Table, table_of}
use Rattle.model.specs.Tree.{Tree}
use Rattle.model.specs.Reach.{Reaches, Accepted}
use Rattle.model.specs.Count.{count, total}
use Rattle.model.specs.Value.{value_of, tree_number, tree_of}
use Rattle.model.specs.Used.{Used, used_count, formed_of, formed_number}
use Rattle.model.specs.Check.{limit_ground, lists_then, states_outcome, check_within, Passes}
use Rattle.model.specs.Conserved.{Conserves}

-- ---- what stays

-- the check but for the request: all states are held to the limits, used or not (document 01's check has the limit 4,294,967,295)
unfoldable pub check_all : (limit states : ℕ) (rows accepting : List ℕ) → Outcome
check_all limit states rows accepting =
    let T = table_of states rows accepting in
    lists_then states rows accepting (states_outcome limit T (limit_ground limit T))

-- a table that passes that check passes with the same total, and every tree and number has the same answer (the theorem `conservative`)
abbrev pub Conservative : Type 0
Conservative = (limit : ℕ) → Conserves (check_all limit) (check_within limit)

-- that check refuses by 9 or 10 at an unused state
pub record RefusedUnused (limit states : ℕ) (rows accepting : List ℕ) : Type 0 where
  pub number : ℕ
  pub place : ℕ
  pub refuses : check_all limit states rows accepting ≡ refused number place
  pub nine_or_ten : (number ≡ 9) ⊎ (number ≡ 10)
  pub unused : Used (table_of states rows accepting) place → ⊥

-- "9 and 10 speak of used states only, in their old places.": every other answer of the check is as it was (the theorem `old_places`)
abbrev pub OldPlaces : Type 0
OldPlaces = (limit states : ℕ) (rows accepting : List ℕ)
    → (check_within limit states rows accepting ≡ check_all limit states rows accepting) ⊎ RefusedUnused limit states rows accepting

-- ---- "and no value is formed in an unused one"

pub record FormedInUsed (T : Table) : Type 0 where
  -- what is formed for a tree, accepted or not: in a used state its value (001, Figure 1), which is below what the state counts; in an unused
  -- one none, and 0 stands there
  pub used : (t : Tree) (q : ℕ) → Reaches T.rows t q → Used T q → (formed_of T t ≡ value_of T (count T) t) × (formed_of T t < count T q)
  pub unused : (t : Tree) (q : ℕ) → Reaches T.rows t q → (Used T q → ⊥) → formed_of T t ≡ 0
  -- the numbers of trees are those of document 01
  pub numbers : (t : Tree) → Accepted T t → formed_number T t ≡ tree_number T t
  -- and so are the trees of numbers, found without the counts of unused states
  pub trees : (n : ℕ) → n < total T → tree_of T (used_count T) n ≡ tree_of T (count T) n

-- (the theorem `formed_in_used`)
abbrev pub ValuesInUsed : Type 0
ValuesInUsed = (states : ℕ) (rows accepting : List ℕ) (n : ℕ) → Passes states rows accepting n → FormedInUsed (table_of states rows accepting)
