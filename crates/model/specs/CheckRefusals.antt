-- Why checking a table is refused: by which number, and at which place. Assumes nothing: these are definitions.
use Rattle.std.specs.Prelude.{ℕ, ◌+◌, ◌≤◌, ◌<◌, ◌≡◌, ◌⊎◌, ◌↔◌, List, length, get_or}
use Rattle.model.specs.Answers.{result, refused}
use Rattle.model.specs.Table.{Row, arg_count_at, row_start, row_numbered, how_many_entries, state_at, table_of}
use Rattle.model.specs.Count.{total}
use Rattle.model.specs.Check.{check_outcome}
use Rattle.model.specs.Limits.{FirstBeyond, TotalBeyond}

-- ---- the grounds of a row

-- there is a row i: one begins within the list, whole or cut
abbrev pub RowBegins : (rows : List ℕ) (i : ℕ) → Type 0
RowBegins rows i = row_start rows i < length rows

-- "fewer than three entries left, or fewer arguments left than counted"
abbrev pub RowCut : (rows : List ℕ) (i : ℕ) → Type 0
RowCut rows i = (length rows < row_start rows i + 3) ⊎ (length rows < row_start rows i + 3 + arg_count_at rows (row_start rows i))

-- "a row beyond the 1,024th, or more than 16 arguments": row 1,023 is the 1,024th
abbrev pub RowTooMany : (rows : List ℕ) (i : ℕ) → Type 0
RowTooMany rows i = (1024 ≤ i) ⊎ (16 < arg_count_at rows (row_start rows i))

-- an argument of the row has the property
abbrev pub SomeArgument : Row → (ℕ → Type 0) → Type 0
SomeArgument r P = (k : ℕ) × (k < length r.args) × P (get_or r.args k 0)

-- "symbol 0 or above 255, or a target or argument that is no state"
abbrev pub RowOutOfRange : (states : ℕ) → Row → Type 0
RowOutOfRange states r = (r.symbol ≡ 0) ⊎ (255 < r.symbol) ⊎ (states ≤ r.target) ⊎ SomeArgument r (λ a. states ≤ a)

-- "an argument not below the target"
abbrev pub RowNotBelow : Row → Type 0
RowNotBelow r = SomeArgument r (λ a. r.target ≤ a)

-- "the symbol and arguments of an earlier row"
abbrev pub RowRepeated : (rows : List ℕ) (i : ℕ) → Type 0
RowRepeated rows i =
    (j : ℕ) × (j < i) × ((row_numbered rows j).symbol ≡ (row_numbered rows i).symbol) × ((row_numbered rows j).args ≡ (row_numbered rows i).args)

-- "Within a row, in this order": 2 to 6, each where none before it holds
pub data RowRefused (states : ℕ) (rows : List ℕ) (i number : ℕ) : Type 0 where
  row2 : number ≡ 2 → RowCut rows i → RowRefused states rows i number
  row3 : number ≡ 3 → (RowCut rows i → ⊥) → RowTooMany rows i → RowRefused states rows i number
  row4 : number ≡ 4 → (RowCut rows i → ⊥) → (RowTooMany rows i → ⊥) → RowOutOfRange states (row_numbered rows i) → RowRefused states rows i number
  row5 : number ≡ 5 → (RowCut rows i → ⊥) → (RowTooMany rows i → ⊥) → (RowOutOfRange states (row_numbered rows i) → ⊥)
      → RowNotBelow (row_numbered rows i) → RowRefused states rows i number
  row6 : number ≡ 6 → (RowCut rows i → ⊥) → (RowTooMany rows i → ⊥) → (RowOutOfRange states (row_numbered rows i) → ⊥)
      → (RowNotBelow (row_numbered rows i) → ⊥) → RowRepeated rows i → RowRefused states rows i number

-- none of them holds of the row
pub record FaultlessRow (states : ℕ) (rows : List ℕ) (i : ℕ) : Type 0 where
  pub not2 : RowCut rows i → ⊥
  pub not3 : RowTooMany rows i → ⊥
  pub not4 : RowOutOfRange states (row_numbered rows i) → ⊥
  pub not5 : RowNotBelow (row_numbered rows i) → ⊥
  pub not6 : RowRepeated rows i → ⊥

-- "Then rows are taken in turn, and the first faulty row decides; its row number is the place."
pub record FirstFaultyRow (states : ℕ) (rows : List ℕ) (number place : ℕ) : Type 0 where
  pub begins : RowBegins rows place
  pub before : (i : ℕ) → i < place → FaultlessRow states rows i
  pub here : RowRefused states rows place number

abbrev pub FaultlessRows : (states : ℕ) (rows : List ℕ) → Type 0
FaultlessRows states rows = (i : ℕ) → RowBegins rows i → FaultlessRow states rows i

-- ---- the ground of an accepting entry

-- an "entry that is no state or equals an earlier entry"
abbrev pub EntryFaulty : (states : ℕ) (accepting : List ℕ) (i : ℕ) → Type 0
EntryFaulty states accepting i = (states ≤ state_at accepting i) ⊎ ((j : ℕ) × (j < i) × (state_at accepting j ≡ state_at accepting i))

-- "the first entry that is no state or equals an earlier entry is 7, with its place"
pub record FirstFaultyEntry (states : ℕ) (accepting : List ℕ) (place : ℕ) : Type 0 where
  pub within : place < how_many_entries accepting
  pub before : (i : ℕ) → i < place → EntryFaulty states accepting i → ⊥
  pub here : EntryFaulty states accepting place

abbrev pub FaultlessEntries : (states : ℕ) (accepting : List ℕ) → Type 0
FaultlessEntries states accepting = (i : ℕ) → i < how_many_entries accepting → EntryFaulty states accepting i → ⊥

-- ---- the check

-- why checking a table is refused: the grounds in their order, each where none before it holds
pub data CheckRefused (states : ℕ) (rows accepting : List ℕ) (number place : ℕ) : Type 0 where
  -- "First, more than 256 states is 1."
  check1 : number ≡ 1 → place ≡ 0 → 256 < states → CheckRefused states rows accepting number place
  -- 2 to 6: "Then rows are taken in turn"
  check2to6 : states ≤ 256 → FirstFaultyRow states rows number place → CheckRefused states rows accepting number place
  -- "Then the accepting list"
  check7 : number ≡ 7 → states ≤ 256 → FaultlessRows states rows → FirstFaultyEntry states accepting place
      → CheckRefused states rows accepting number place
  -- "a list longer than the count of states is 8": withdrawn (specs/Card)
  -- 9 and 10: "Then states are taken in turn from 0, the first faulty state decides, and its number is the place"; "9 and 10 speak of used
  -- states only, in their old places." (document 02, c)
  check9to10 : states ≤ 256 → FaultlessRows states rows → FaultlessEntries states accepting → FirstBeyond (table_of states rows accepting) place number
      → CheckRefused states rows accepting number place
  -- "Last, a total above [the limit] is 11."
  check11 : number ≡ 11 → states ≤ 256 → FaultlessRows states rows → FaultlessEntries states accepting → TotalBeyond (table_of states rows accepting) place
      → CheckRefused states rows accepting number place

-- a table is refused by a number at a place exactly where that ground is the first to hold
abbrev pub CheckRefuses : Type 0
CheckRefuses =
    (states : ℕ) (rows accepting : List ℕ) (number place : ℕ) → (check_outcome states rows accepting ≡ refused number place)
    ↔ CheckRefused states rows accepting number place

-- "Where no ground stated below holds, the answer is the result.": "Checking a table gives the total."
abbrev pub CheckGives : Type 0
CheckGives =
    (states : ℕ) (rows accepting : List ℕ) (n : ℕ) → (check_outcome states rows accepting ≡ result n)
    ↔ (((number place : ℕ) → CheckRefused states rows accepting number place → ⊥) × (n ≡ total (table_of states rows accepting)))
