-- The check in its parts, and what a table that passes leaves for numbering and writing. Assumes nothing: these are definitions.
use Rattle.std.specs.Prelude.{ℕ, ◌<◌, ◌≤◌, ◌≡◌, Bool, true, List, length, get_or, take, ltb, Result, Ok, Err, if◌then◌else◌}
use Rattle.model.specs.declared.Refusal.{Refusal}
use Rattle.model.specs.Answers.{Outcome, result, refused, kind_number, refused_by, outcome}
use Rattle.model.specs.Table.{rows_of, how_many_rows}
use Rattle.model.specs.Check.{row_ground, accepting_ground, count_limit, counts_outcome, check_outcome}
use Rattle.chains.specs.First.{AllFine, FirstAt}
use Rattle.rows.specs.Words.{rows_in, nexts, afters, held_table, Held}
use Rattle.rows.specs.Walk.{Room}
use Rattle.index.specs.Hash.{Sized}
use Rattle.index.specs.Index.{Index}
use Rattle.index.specs.Taken.{AllTaken}
use Rattle.counts.specs.Chain.{InOrder, Chained, Unchained}
use Rattle.counts.specs.States.{CountRoom}
use Rattle.counts.specs.Prepared.{UsedCounts, Left}
use Rattle.table.specs.declared.CheckedRows.{CheckedRows}
use Rattle.table.specs.declared.Checked.{Checked}

-- no bucket, or no chain, has a row yet
abbrev pub Empty : List ℕ → Type 0
Empty xs = (b : ℕ) → b < length xs → get_or xs b 0 ≡ 0

-- what the rows are checked from: room for a word a row, and buckets
pub record CrowdReady (states : ℕ) (rows words heads : List ℕ) : Type 0 where
  pub few : states ≤ 256
  pub room : Room (length words) (length rows)
  pub sized : Sized (length heads)

-- and the buckets are empty
pub record RowsReady (states : ℕ) (rows words heads : List ℕ) : Type 0 where
  pub ready : CrowdReady states rows words heads
  pub none_in : Empty heads

-- the rows: none is faulty, and the first words hold them; or the first faulty one
pub record RowsChecked (states : ℕ) (rows words heads : List ℕ) (r : Result CheckedRows Refusal) : Type 0 where
  pub passed : (k : CheckedRows) → r ≡ Ok k → AllTaken k.by states rows (take k.count words) heads k.count
  pub stopped : (f : Refusal) → r ≡ Err f → FirstAt (how_many_rows rows) (row_ground states rows) f.place (kind_number f.kind)

-- the accepting list: no entry is faulty; or the first that is, refused as 7
pub record EntriesChecked (states : ℕ) (accepting : List ℕ) (r : Result (Unit {0}) Refusal) : Type 0 where
  pub passed : r ≡ Ok tt → AllFine (length accepting) (accepting_ground states accepting)
  pub stopped : (f : Refusal) → r ≡ Err f → FirstAt (length accepting) (accepting_ground states accepting) f.place 7
  pub seventh : (f : Refusal) → r ≡ Err f → kind_number f.kind ≡ 7

-- "Last, a total above [the limit] is 11."
abbrev pub total_or11 : ℕ → Outcome
total_or11 n = if ltb count_limit n then refused 11 0 else result n

-- what checking the states starts from: rows in order, an accepting list of states, and arrays with a place for each state and each row; nothing is
-- counted, chained or marked yet
pub record StatesReady (states : ℕ) (pool words accepting first counts marks : List ℕ) (used : List ℕ) (sums : List ℕ) : Type 0 where
  pub rows_held : Held pool words (length words)
  pub ordered : InOrder states (rows_in pool words)
  pub unchained : Unchained first (afters words)
  pub room : CountRoom states (rows_in pool words) first counts marks sums
  pub used_room : states ≤ length used
  pub uncounted : (a : ℕ) → get_or counts a 0 ≡ 0
  pub unmarked : (a : ℕ) → get_or used a 0 ≡ 0
  pub listed : (i : ℕ) → i < length accepting → get_or accepting i 0 < states

-- what it leaves where none is faulty: rows that are chained by target; counts, and sums of rows, of used states if it is to prepare for numbering,
-- else it may be of all states
pub record StatesCounted (prepare : Bool) (states : ℕ) (pool accepting words first counts sums : List ℕ) : Type 0 where
  pub rows_held : Held pool words (length words)
  pub chained : Chained (rows_in pool words) first (afters words)
  pub first_room : states ≤ length first
  pub counts_room : states ≤ length counts
  pub sums_room : length words ≤ length sums
  pub left : Left (held_table states pool words accepting) counts sums
  pub counted : prepare ≡ true → UsedCounts (held_table states pool words accepting) counts sums

-- "Then states are taken in turn from 0", and the total: what is answered, and what is left; the rows and their links of the index stay
pub record StatesAnswer (prepare : Bool) (states : ℕ) (pool words₀ accepting words first counts sums : List ℕ) (r : Result ℕ Refusal) : Type 0 where
  pub answer : outcome r ≡ counts_outcome count_limit (held_table states pool words₀ accepting)
  pub same : rows_in pool words ≡ rows_in pool words₀
  pub links : nexts words ≡ nexts words₀
  pub counted : (t : ℕ) → r ≡ Ok t → StatesCounted prepare states pool accepting words first counts sums

-- what a checked answer says
abbrev pub told : Result Checked Refusal → Outcome
told (Ok k) = result k.total
told (Err f) = refused_by f

-- empty buckets, no chains, counts and marks yet, room for the words of the rows, and a place for each state and each word
pub record Blank (states : ℕ) (rows words heads first counts marks : List ℕ) (used : List ℕ) (sums : List ℕ) : Type 0 where
  pub room : Room (length words) (length rows)
  pub sized : Sized (length heads)
  pub heads_empty : Empty heads
  pub first_empty : Empty first
  pub uncounted : (a : ℕ) → get_or counts a 0 ≡ 0
  pub unmarked : (a : ℕ) → get_or used a 0 ≡ 0
  pub first_room : states ≤ 256 → states ≤ length first
  pub counts_room : states ≤ 256 → states ≤ length counts
  pub marks_room : states ≤ 256 → states ≤ length marks
  pub used_room : states ≤ 256 → states ≤ length used
  pub sums_room : length words ≤ length sums

-- what a table that passes leaves for numbering and writing: its rows in words, their index and their chains by target, counts, and sums of rows
pub record Prepared (prepare : Bool) (by states : ℕ) (pool words heads accepting first counts sums : List ℕ) : Type 0 where
  pub index : Index by (rows_in pool words) heads (nexts words)
  pub left : StatesCounted prepare states pool accepting words first counts sums

-- and its rows are those of the lent list
pub record PreparedRows (prepare : Bool) (by states : ℕ) (rows accepting words heads first counts sums : List ℕ) (n : ℕ) : Type 0 where
  pub long : n ≤ length words
  pub same : rows_in rows (take n words) ≡ rows_of rows
  pub prepared : Prepared prepare by states rows (take n words) heads accepting first counts sums

-- what the check answers, and what it leaves where the table passes: the first n words hold its rows
pub record CheckAnswer (prepare : Bool) (states : ℕ) (rows accepting words heads first counts sums : List ℕ) (r : Result Checked Refusal) : Type 0 where
  pub answer : told r ≡ check_outcome states rows accepting
  pub passed : (k : Checked) → r ≡ Ok k → PreparedRows prepare k.rows.by states rows accepting words heads first counts sums k.rows.count
