-- One row by the grounds 2 to 5. Assumes nothing: these are definitions.
use Rattle.std.specs.Prelude.{ℕ, ◌+◌, ◌*◌, ◌<◌, max, Bool, ◌||◌, not, List, [], ◌∷◌, length, eqb, ltb, Result, Ok, Err, if◌then◌else◌}
use Rattle.model.specs.declared.Kind.{Kind}
use Rattle.model.specs.declared.Kind.TheVariants.{CutRow, TooManyRowsOrArguments, NotInRange, ArgumentNotBelowTarget}
use Rattle.model.specs.Answers.{kind_number}
use Rattle.model.specs.Table.{Row, row_at, row_start}
use Rattle.model.specs.Check.{cut, too_many, is_state, out_of_range, not_below}

-- the largest of m and the numbers
unfoldable pub largest : ℕ → List ℕ → ℕ
largest m [] = m
largest m (x ∷ xs) = largest (max m x) xs

-- the least number that all of the numbers are below
unfoldable pub above : List ℕ → ℕ
above [] = 0
above (x ∷ xs) = largest 0 (x ∷ xs) + 1

-- 4, where `top` is the least number that all arguments are below
unfoldable pub out_by : (states symbol target top : ℕ) → Bool
out_by states s q top = eqb s 0 || ltb 255 s || not (is_state states q) || ltb states top

-- row i by the grounds 3 to 5, however it is lent
unfoldable pub row_fault : (states i : ℕ) → Row → Result (Unit {0}) Kind
row_fault states i r =
    if too_many i (length r.args) then Err TooManyRowsOrArguments else
    if out_of_range states r then Err NotInRange else
    if not_below r then Err ArgumentNotBelowTarget else
    Ok tt

-- row i of a packed list, which begins at `at`, by the grounds 2 to 5
unfoldable pub row_step : (states : ℕ) (rows : List ℕ) (i at : ℕ) → Result (Unit {0}) Kind
row_step states rows i at = if cut rows at then Err CutRow else row_fault states i (row_at rows at)

abbrev pub step_ground : Result (Unit {0}) Kind → ℕ
step_ground (Ok u) = 0
step_ground (Err k) = kind_number k

-- the first of the grounds 2 to 5 that holds for row i, or 0
abbrev pub form_ground : (states : ℕ) (rows : List ℕ) → ℕ → ℕ
form_ground states rows i = step_ground (row_step states rows i (row_start rows i))

-- room for as many words as rows can be passed in a list of so many entries
abbrev pub Room : (room entries : ℕ) → Type 0
Room room entries = (n : ℕ) → n < 1024 → n * 3 < entries → n < room
