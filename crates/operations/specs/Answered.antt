-- What the operations on a table answer, and what the lent list then holds. Assumes nothing: these are definitions.
use Rattle.std.specs.Prelude.{ℕ, ◌≡◌, Bool, true, false, List, length}
use Rattle.model.specs.Answers.{Outcome, outcome}
use Rattle.model.specs.Check.{check_outcome}
use Rattle.model.specs.Number.{number_outcome}
use Rattle.model.specs.Write.{write_outcome, write_list}
use Rattle.std.specs.Prelude.{Result}
use Rattle.model.specs.declared.Refusal.{Refusal}
use Rattle.operations.specs.declared.Table.{Table}
use Rattle.operations.specs.declared.Task.{Task}
use Rattle.operations.specs.declared.Task.TheVariants.{Check, Number, Write}

-- what a task answers; a tree is written into a list with so much room
abbrev pub task_outcome : Task → (states : ℕ) (rows accepting : List ℕ) (room : ℕ) → Outcome
task_outcome Check states rows accepting room = check_outcome states rows accepting
task_outcome (Number tree) states rows accepting room = number_outcome states rows accepting tree.now
task_outcome (Write number) states rows accepting room = write_outcome states rows accepting number room

-- what the list for a tree then holds
abbrev pub task_list : Task → (states : ℕ) (rows accepting old : List ℕ) → List ℕ
task_list Check states rows accepting old = old
task_list (Number tree) states rows accepting old = old
task_list (Write number) states rows accepting old = write_list states rows accepting number old

-- whether the task needs to know which states are used: "no value is formed in an unused one" (document 02, c), and numbering forms values before it
-- is known whether the tree is accepted
abbrev pub task_prepares : Task → Bool
task_prepares Check = false
task_prepares (Number tree) = true
task_prepares (Write number) = false

pub record Answered (task : Task) (states : ℕ) (rows accepting old new : List ℕ) (r : Result ℕ Refusal) : Type 0 where
  pub answer : outcome r ≡ task_outcome task states rows accepting (length old)
  pub list : new ≡ task_list task states rows accepting old

abbrev pub AnsweredFor : Task → Table → (old new : List ℕ) → Result ℕ Refusal → Type 0
AnsweredFor task t = Answered task t.states t.rows.now t.accepting.now

-- writing the tree of a number: the answer, and what the lent list then holds
pub record WroteTree (states : ℕ) (rows accepting : List ℕ) (number : ℕ) (old new : List ℕ) (r : Result ℕ Refusal) : Type 0 where
  pub answer : outcome r ≡ write_outcome states rows accepting number (length old)
  pub list : new ≡ write_list states rows accepting number old
