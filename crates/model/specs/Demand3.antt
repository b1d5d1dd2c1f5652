-- Demand 3, for a table that passes its check: `Pairing` speaks of trees and numbers as they are defined, `AnswersOf` of what the operations
-- answer. At the end, what they answer for a table that does not pass. Assumes nothing: these are definitions.
use Rattle.std.specs.Prelude.{ℕ, ◌<◌, ◌≤◌, ◌≡◌, ◌↔◌, List, ◌++◌, length, drop}
use Rattle.model.specs.Answers.{Outcome, result, refused}
use Rattle.model.specs.Table.{Table, table_of}
use Rattle.model.specs.Tree.{Tree, only, serial, SymbolsInRange, WellFormed}
use Rattle.model.specs.Reach.{Accepted}
use Rattle.model.specs.Value.{tree_number}
use Rattle.model.specs.Order.{Exactly, ComeBefore}
use Rattle.model.specs.Check.{check_outcome, Passes}
use Rattle.model.specs.Place.{UnacceptedAt}
use Rattle.model.specs.Number.{number_outcome}
use Rattle.model.specs.Write.{write_outcome, write_list}

-- ---- trees and numbers, by definition

-- a number's tree: it is accepted, this is its number (001, Figure 1), and exactly as many accepted trees come before it
pub record HasTree (T : Table) (number : ℕ) : Type 0 where
  pub tree : Tree
  pub accepted : Accepted T tree
  pub numbers : tree_number T tree ≡ number
  pub before : ComeBefore T tree number

-- the trees that a table accepts and the numbers below the total pair off
pub record Pairing (T : Table) (total : ℕ) : Type 0 where
  -- the table accepts exactly `total` trees
  pub accepted : Exactly (Accepted T) total
  -- each is written as a well-formed list of at most 4,096 entries
  pub written : (t : Tree) → Accepted T t → SymbolsInRange (only t) × (length (serial t) ≤ 4096)
  -- "two trees are the same if their lists are": so counting trees is counting lists
  pub lists : (t u : Tree) → Accepted T t → Accepted T u → serial t ≡ serial u → t ≡ u
  -- a tree's number is below the total, and exactly as many accepted trees come before the tree
  pub below : (t : Tree) → Accepted T t → tree_number T t < total
  pub before : (t : Tree) → Accepted T t → ComeBefore T t (tree_number T t)
  -- different trees have different numbers
  pub different : (t u : Tree) → Accepted T t → Accepted T u → tree_number T t ≡ tree_number T u → t ≡ u
  -- every number below the total has its tree
  pub back : (n : ℕ) → n < total → HasTree T n

-- ---- what the operations answer

-- the table accepts the tree that the list is
pub record AcceptsList (T : Table) (entries : List ℕ) : Type 0 where
  pub tree : Tree
  pub written : serial tree ≡ entries
  pub accepted : Accepted T tree

-- the list is an accepted tree, and this is its number
pub record ListHasNumber (T : Table) (entries : List ℕ) (number : ℕ) : Type 0 where
  pub accepts : AcceptsList T entries
  pub numbers : tree_number T accepts.tree ≡ number

-- a refusal
pub record Refusing (o : Outcome) : Type 0 where
  pub number : ℕ
  pub place : ℕ
  pub is : o ≡ refused number place

module _ (states : ℕ) (rows accepting : List ℕ) where
  -- writing gives these entries for the number: into any list that is long enough, with their count, and leaves the rest; a shorter list is
  -- 16, with the entries needed, and stays as it is
  pub record WritesEntries (number : ℕ) (entries : List ℕ) : Type 0 where
    pub answer : (tree : List ℕ) → length entries ≤ length tree → write_outcome states rows accepting number (length tree) ≡ result (length entries)
    pub list : (tree : List ℕ) → length entries ≤ length tree → write_list states rows accepting number tree ≡ entries ++ drop (length entries) tree
    pub short : (tree : List ℕ) → length tree < length entries
        → (write_outcome states rows accepting number (length tree) ≡ refused 16 (length entries)) × (write_list states rows accepting number tree ≡ tree)

  -- what numbering and writing answer for a table with this total
  pub record AnswersOf (total : ℕ) : Type 0 where
    -- numbering answers a number exactly for a list that is an accepted tree with that number
    pub numbers : (entries : List ℕ) (n : ℕ) → (number_outcome states rows accepting entries ≡ result n) ↔ ListHasNumber (table_of states rows accepting) entries n
    -- a list is refused exactly if the table does not accept it; demand 3 speaks of the case of a well-formed list of at most 4,096 entries
    pub refuses : (entries : List ℕ) → Refusing (number_outcome states rows accepting entries) ↔ (AcceptsList (table_of states rows accepting) entries → ⊥)
    -- in that case the refusal is 14, and its place is the one that document 01 says
    pub places : (entries : List ℕ) (w : WellFormed entries) → length entries ≤ 4096 → (number place : ℕ)
        → number_outcome states rows accepting entries ≡ refused number place → (number ≡ 14) × UnacceptedAt (table_of states rows accepting) w.tree place
    -- a number is written back as the entries of its tree
    pub writes : (n : ℕ) (h : HasTree (table_of states rows accepting) n) → WritesEntries n (serial h.tree)
    -- "A number not below the total is 15.", and the list stays as it is
    pub beyond : (n : ℕ) → total ≤ n → (tree : List ℕ)
        → (write_outcome states rows accepting n (length tree) ≡ refused 15 0) × (write_list states rows accepting n tree ≡ tree)

  pub record Demand3 (total : ℕ) : Type 0 where
    pub pairing : Pairing (table_of states rows accepting) total
    pub answers : AnswersOf total

-- demand 3: every table that passes its check pairs off its trees and its numbers (the theorem `demand3`); "The pairing of trees and numbers now
-- covers these tables too." (document 02, c); "The pairing now holds up to the larger total." (document 02, h)
abbrev pub PairsOff : Type 0
PairsOff = (states : ℕ) (rows accepting : List ℕ) (n : ℕ) → Passes states rows accepting n → Demand3 states rows accepting n

-- ---- a table that does not pass

-- "It first refuses as the check does.": numbering any tree, and writing any number into any list, which stays as it is
pub record RefusesAs (states : ℕ) (rows accepting : List ℕ) (number place : ℕ) : Type 0 where
  pub numbering : (tree : List ℕ) → number_outcome states rows accepting tree ≡ refused number place
  pub writing : (n room : ℕ) → write_outcome states rows accepting n room ≡ refused number place
  pub list : (n : ℕ) (tree : List ℕ) → write_list states rows accepting n tree ≡ tree

-- (the theorem `refuses_first`)
abbrev pub RefusesFirst : Type 0
RefusesFirst = (states : ℕ) (rows accepting : List ℕ) (number place : ℕ) → check_outcome states rows accepting ≡ refused number place
    → RefusesAs states rows accepting number place
