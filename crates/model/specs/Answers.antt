-- Answers, and document 01's number for each kind of refusal. Assumes nothing: these are definitions.
use Rattle.std.specs.Prelude.{ℕ, ◌≡◌, List, ◌++◌, length, take, drop}
use Rattle.model.specs.declared.Kind.{Kind}
use Rattle.model.specs.declared.Kind.TheVariants.{TooManyStates, CutRow, TooManyRowsOrArguments, NotInRange, ArgumentNotBelowTarget, RepeatedRow, AcceptingEntry, CountAboveLimit, LongestTreeAboveLimit, TotalAboveLimit, TreeTooLong, NotATree, NotAccepted, NumberNotBelowTotal, ShortTreeList, FaultyNames, TextTooLong, NotATerm, UnlistedName, TermTreeTooLong, ShortTermTree, UnnamedSymbol, ShortTextList}
use Rattle.model.specs.declared.Refusal.{Refusal}
use Rattle.std.specs.Prelude.{Result}
use Rattle.std.specs.Prelude.{Ok, Err}

-- "An answer is a result or a refusal with its number and place."
pub data Outcome : Type 0 where
  result : ℕ → Outcome
  refused : (number place : ℕ) → Outcome

-- the refusal numbers that "The operations and what they turn away" gives, but for 8
abbrev pub kind_number : Kind → ℕ
-- "more than 256 states is 1"
kind_number TooManyStates = 1
-- "fewer than three entries left, or fewer arguments left than counted, is 2"
kind_number CutRow = 2
-- "a row beyond the 1,024th, or more than 16 arguments, is 3"
kind_number TooManyRowsOrArguments = 3
-- "symbol 0 or above 255, or a target or argument that is no state, is 4"
kind_number NotInRange = 4
-- "an argument not below the target is 5"
kind_number ArgumentNotBelowTarget = 5
-- "the symbol and arguments of an earlier row are 6"
kind_number RepeatedRow = 6
-- "the first entry that is no state or equals an earlier entry is 7"
kind_number AcceptingEntry = 7
-- "a list longer than the count of states is 8": withdrawn (specs/Card)
-- "a count above [the limit] is 9": 18,446,744,073,709,551,615 (document 02, h)
kind_number CountAboveLimit = 9
-- "a longest tree above 4,096 entries is 10"
kind_number LongestTreeAboveLimit = 10
-- "a total above [the limit] is 11": the same
kind_number TotalAboveLimit = 11
-- "More than 4,096 entries is 12."
kind_number TreeTooLong = 12
-- "For 13, each entry read opens a node, closes one, or is refused"
kind_number NotATree = 13
-- "A tree that the table does not accept is 14."
kind_number NotAccepted = 14
-- "A number not below the total is 15."
kind_number NumberNotBelowTotal = 15
-- "A lent list shorter than the tree is 16"
kind_number ShortTreeList = 16
-- "A names list against the rules above is 17"
kind_number FaultyNames = 17
-- "A text above 65,536 bytes is 18."
kind_number TextTooLong = 18
-- "A text that is no term is 19"
kind_number NotATerm = 19
-- "A name not listed is 20"
kind_number UnlistedName = 20
-- "A tree above 4,096 entries is 21."
kind_number TermTreeTooLong = 21
-- "A short lent list is 22, with the entries needed."
kind_number ShortTermTree = 22
-- "A symbol above the count of names is 23"
kind_number UnnamedSymbol = 23
-- "A short lent list is 24, with the bytes needed."
kind_number ShortTextList = 24

-- what the code's refusals and answers say in document 01's numbers: promises are stated by outcomes
abbrev pub refused_by : Refusal → Outcome
refused_by r = refused (kind_number r.kind) r.place

abbrev pub outcome : Result ℕ Refusal → Outcome
outcome (Ok n) = result n
outcome (Err r) = refused_by r

-- "written at the front; later entries stay"; "written at the front; later bytes stay"; "A refusal writes to no lent list." A result n is
-- the length of what is written (for terms the laws `read_exactly` and `write_exactly`, for trees `write_tree_back`)
abbrev pub lent_after : Outcome → (written old : List ℕ) → List ℕ
lent_after (result n) written old = written ++ drop (length written) old
lent_after (refused number place) written old = old

-- what a lent list holds after an operation that writes at the front of it, by its answer and without `lent_after` (the laws `read_lent`,
-- `write_lent` and `tree_lent`)
pub record Lent (answer : Outcome) (written old after : List ℕ) : Type 0 where
  -- "A refusal writes to no lent list."
  pub kept : (number place : ℕ) → answer ≡ refused number place → after ≡ old
  -- "gives the count of entries written at the front"; "gives the count of bytes written at the front"
  pub front : (n : ℕ) → answer ≡ result n → (n ≡ length written) × (take n after ≡ written)
  -- "later entries stay"; "later bytes stay"
  pub later : (n : ℕ) → answer ≡ result n → drop n after ≡ drop n old
  -- the list keeps its length
  pub same : length after ≡ length old
