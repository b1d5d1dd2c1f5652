-- What a change of the check leaves as it was. Numbering and writing know the check only by its answer, so this is all that they can notice of
-- it; that their own definitions do not move is seen in their text. Assumes nothing: these are definitions.
use Rattle.std.specs.Prelude.{ℕ, ◌≡◌, List}
use Rattle.model.specs.Answers.{Outcome, result}
use Rattle.model.specs.Table.{table_of}
use Rattle.model.specs.Number.{number_tree}
use Rattle.model.specs.Write.{write_tree, write_tree_list}

-- what a check answers, for any count of states and any two lists, as `check_outcome` does
abbrev pub CheckRule : Type 0
CheckRule = (states : ℕ) (rows accepting : List ℕ) → Outcome

-- checking, numbering and writing answer by one rule as by the other, and leave the same in the lent list (`number_outcome`, `write_outcome` and
-- `write_list` are these by `check_outcome`)
pub record SameAnswers (before now : CheckRule) (states : ℕ) (rows accepting : List ℕ) : Type 0 where
  pub checking : now states rows accepting ≡ before states rows accepting
  pub numbering : (tree : List ℕ) → number_tree (now states rows accepting) (table_of states rows accepting) tree
      ≡ number_tree (before states rows accepting) (table_of states rows accepting) tree
  pub writing : (number room : ℕ) → write_tree (now states rows accepting) (table_of states rows accepting) number room
      ≡ write_tree (before states rows accepting) (table_of states rows accepting) number room
  pub list : (number : ℕ) (tree : List ℕ) → write_tree_list (now states rows accepting) (table_of states rows accepting) number tree
      ≡ write_tree_list (before states rows accepting) (table_of states rows accepting) number tree

-- a table that passes by the rule before passes by the rule now with the same total, and every tree and number has the same answer
abbrev pub Conserves : (before now : CheckRule) → Type 0
Conserves before now = (states : ℕ) (rows accepting : List ℕ) (n : ℕ) → before states rows accepting ≡ result n → SameAnswers before now states rows accepting
