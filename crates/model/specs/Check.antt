-- "Checking a table gives the total": the ordered choice of refusals 1 to 7 and 9 to 11. Assumes nothing: these are definitions.
use Rattle.std.specs.Prelude.{ℕ, ◌-◌, ◌≡◌, Bool, true, ◌&&◌, ◌||◌, not, List, [], ◌∷◌, length, eqb, ltb, leb, if◌then◌else◌}
use Rattle.model.specs.Answers.{Outcome, result, refused}
use Rattle.model.specs.Choice.{first_faulty, any_below}
use Rattle.model.specs.Table.{Row, Table, row_start, how_many_rows, row_numbered, arg_count_at, row_is, how_many_entries, state_at, table_of}
use Rattle.model.specs.Count.{count, total, longest}
use Rattle.model.specs.Used.{is_used}

-- every one of the numbers is below n
unfoldable pub all_below : ℕ → List ℕ → Bool
all_below n [] = true
all_below n (x ∷ xs) = ltb x n && all_below n xs

-- "States are numbered from 0."
abbrev pub is_state : ℕ → ℕ → Bool
is_state states q = ltb q states

-- "fewer than three entries left, or fewer arguments left than counted", where a row begins at the entry
unfoldable pub cut : List ℕ → ℕ → Bool
cut rows at = ltb (length rows - at) 3 || ltb (length rows - at - 3) (arg_count_at rows at)

-- "a row beyond the 1,024th, or more than 16 arguments": row i with n arguments
unfoldable pub too_many : (i n : ℕ) → Bool
too_many i n = leb 1024 i || ltb 16 n

-- "symbol 0 or above 255, or a target or argument that is no state": a number below the count of states is a state
unfoldable pub out_of_range : ℕ → Row → Bool
out_of_range states r = eqb r.symbol 0 || ltb 255 r.symbol || not (is_state states r.target) || not (all_below states r.args)

-- "an argument not below the target"
unfoldable pub not_below : Row → Bool
not_below r = not (all_below r.target r.args)

-- "the symbol and arguments of an earlier row"
unfoldable pub repeated : List ℕ → ℕ → Bool
repeated rows i = any_below i (λ j. row_is (row_numbered rows j) (row_numbered rows i).symbol (row_numbered rows i).args)

-- "Within a row, in this order"
unfoldable pub row_ground : (states : ℕ) (rows : List ℕ) → ℕ → ℕ
row_ground states rows i =
    if cut rows (row_start rows i) then 2 else
    if too_many i (arg_count_at rows (row_start rows i)) then 3 else
    if out_of_range states (row_numbered rows i) then 4 else
    if not_below (row_numbered rows i) then 5 else
    if repeated rows i then 6 else 0

-- "the first entry that is no state or equals an earlier entry is 7, with its place"
unfoldable pub accepting_ground : (states : ℕ) (accepting : List ℕ) → ℕ → ℕ
accepting_ground states accepting i =
    if not (is_state states (state_at accepting i)) || any_below i (λ j. eqb (state_at accepting j) (state_at accepting i)) then 7 else 0

-- "for each, a count above [the limit] is 9, and after that a longest tree above 4,096 entries is 10"
unfoldable pub limit_ground : (limit : ℕ) → Table → ℕ → ℕ
limit_ground limit T q =
    if ltb limit (count T q) then 9 else
    if ltb 4096 (longest T q) then 10 else 0

-- "Only used states are held to the limits on count and longest tree"; "9 and 10 speak of used states only, in their old places." (document 02, c)
unfoldable pub state_ground : (limit : ℕ) → Table → ℕ → ℕ
state_ground limit T q = if is_used T q then limit_ground limit T q else 0

-- the count of states and the two lists, and what follows where they are without fault
abbrev pub lists_then : (states : ℕ) (rows accepting : List ℕ) → Outcome → Outcome
lists_then states rows accepting otherwise =
    -- "First, more than 256 states is 1."
    if ltb 256 states then refused 1 0 else
    -- "Then rows are taken in turn, and the first faulty row decides; its row number is the place."
    first_faulty (how_many_rows rows) (row_ground states rows)
    -- "Then the accepting list" ("a list longer than the count of states is 8": withdrawn, specs/Card)
    (first_faulty (how_many_entries accepting) (accepting_ground states accepting) otherwise)

-- the rest of the check, 9 to 11, with a limit for the total and a ground for the states
abbrev pub states_outcome : (limit : ℕ) → Table → (ground_of : ℕ → ℕ) → Outcome
states_outcome limit T ground_of =
    -- "Then states are taken in turn from 0, the first faulty state decides, and its number is the place"
    first_faulty T.states ground_of
    -- "Last, a total above [the limit] is 11."
    (if ltb limit (total T) then refused 11 0 else result (total T))

-- the same, with the used states held to that limit
abbrev pub counts_outcome : (limit : ℕ) → Table → Outcome
counts_outcome limit T = states_outcome limit T (state_ground limit T)

-- the check with a limit for counts and the total
unfoldable pub check_within : (limit states : ℕ) (rows accepting : List ℕ) → Outcome
check_within limit states rows accepting = lists_then states rows accepting (counts_outcome limit (table_of states rows accepting))

-- "the limit in 9 and 11 becomes 18,446,744,073,709,551,615" (document 02, h; in document 01 it was 4,294,967,295)
abbrev pub count_limit : ℕ
count_limit = 18446744073709551615

-- what checking a table answers, for any count of states and any two lists
unfoldable pub check_outcome : (states : ℕ) (rows accepting : List ℕ) → Outcome
check_outcome states rows accepting = check_within count_limit states rows accepting

-- the table passes its check, with this total
abbrev pub Passes : (states : ℕ) (rows accepting : List ℕ) (n : ℕ) → Type 0
Passes states rows accepting n = check_outcome states rows accepting ≡ result n
