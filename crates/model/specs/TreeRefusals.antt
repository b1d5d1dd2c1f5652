-- Why numbering and writing a tree are refused: by which number, and at which place. Assumes nothing: these are definitions.
use Rattle.std.specs.Prelude.{ℕ, ◌≤◌, ◌<◌, ◌≡◌, ◌↔◌, List, length}
use Rattle.model.specs.Answers.{result, refused, Lent}
use Rattle.model.specs.Table.{table_of}
use Rattle.model.specs.Tree.{serial, WellFormed}
use Rattle.model.specs.Value.{tree_number}
use Rattle.model.specs.Entries.{tree_from}
use Rattle.model.specs.Check.{check_outcome, Passes}
use Rattle.model.specs.Place.{StopsAt, UnacceptedAt}
use Rattle.model.specs.Number.{number_outcome}
use Rattle.model.specs.Write.{entries_for, write_outcome, write_list}
use Rattle.model.specs.Demand3.{HasTree}

module _ (states : ℕ) (rows accepting : List ℕ) where
  -- why numbering a tree is refused: the grounds in their order, each where none before it holds
  pub data NumberRefused (tree : List ℕ) (number place : ℕ) : Type 0 where
    -- "It first refuses as the check does."
    number_as_check : check_outcome states rows accepting ≡ refused number place → NumberRefused tree number place
    -- "More than 4,096 entries is 12."
    number12 : number ≡ 12 → place ≡ 0 → (total : ℕ) → Passes states rows accepting total → 4096 < length tree → NumberRefused tree number place
    -- "For 13, each entry read opens a node, closes one, or is refused"; its place, told by what can be completed to a tree
    number13 : number ≡ 13 → (total : ℕ) → Passes states rows accepting total → length tree ≤ 4096 → StopsAt WellFormed tree place
        → NumberRefused tree number place
    -- "A tree that the table does not accept is 14."
    number14 : number ≡ 14 → (total : ℕ) → Passes states rows accepting total → length tree ≤ 4096 → (w : WellFormed tree)
        → UnacceptedAt (table_of states rows accepting) w.tree place → NumberRefused tree number place

  -- why writing the tree of a number into a list with room for this many entries is refused
  pub data TreeRefused (n room number place : ℕ) : Type 0 where
    -- "It first refuses as the check does."
    tree_as_check : check_outcome states rows accepting ≡ refused number place → TreeRefused n room number place
    -- "A number not below the total is 15."
    tree15 : number ≡ 15 → place ≡ 0 → (total : ℕ) → Passes states rows accepting total → total ≤ n → TreeRefused n room number place
    -- "A lent list shorter than the tree is 16, the place being the entries needed."
    tree16 : number ≡ 16 → (total : ℕ) → Passes states rows accepting total → n < total → (h : HasTree (table_of states rows accepting) n)
        → place ≡ length (serial h.tree) → room < place → TreeRefused n room number place

-- numbering (writing) is refused by this number, at this place, exactly if one of the grounds above holds (the theorems `number_refuses` and
-- `tree_refuses`)
abbrev pub NumberRefuses : Type 0
NumberRefuses =
    (states : ℕ) (rows accepting tree : List ℕ) (number place : ℕ)
    → (number_outcome states rows accepting tree ≡ refused number place) ↔ NumberRefused states rows accepting tree number place

abbrev pub TreeRefuses : Type 0
TreeRefuses =
    (states : ℕ) (rows accepting : List ℕ) (n room number place : ℕ)
    → (write_outcome states rows accepting n room ≡ refused number place) ↔ TreeRefused states rows accepting n room number place

-- "Where no ground stated below holds, the answer is the result." (the theorems `number_else` and `tree_else`)
abbrev pub NumberElse : Type 0
NumberElse =
    (states : ℕ) (rows accepting tree : List ℕ) → ((number place : ℕ) → NumberRefused states rows accepting tree number place → ⊥)
    → number_outcome states rows accepting tree ≡ result (tree_number (table_of states rows accepting) (tree_from tree))

abbrev pub TreeElse : Type 0
TreeElse =
    (states : ℕ) (rows accepting : List ℕ) (n room : ℕ) → ((number place : ℕ) → TreeRefused states rows accepting n room number place → ⊥)
    → write_outcome states rows accepting n room ≡ result (length (entries_for states rows accepting n))

-- what the lent list then holds (the theorem `tree_lent`)
abbrev pub TreeLent : Type 0
TreeLent =
    (states : ℕ) (rows accepting : List ℕ) (number : ℕ) (tree : List ℕ)
    → Lent (write_outcome states rows accepting number (length tree)) (entries_for states rows accepting number) tree (write_list states rows accepting number tree)
