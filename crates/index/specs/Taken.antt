-- Packed rows by the grounds 2 to 6, in one pass. Assumes nothing: these are definitions.
use Rattle.std.specs.Prelude.{ℕ, ◌<◌, ◌≤◌, ◌≡◌, List, length, get_or, take, Result, Ok, Err}
use Rattle.model.specs.declared.Refusal.{Refusal}
use Rattle.model.specs.Answers.{kind_number}
use Rattle.model.specs.Table.{rows_of, how_many_rows}
use Rattle.model.specs.Check.{row_ground}
use Rattle.chains.specs.First.{AllFine, FirstAt}
use Rattle.chains.specs.Chains.{Clear}
use Rattle.rows.specs.Words.{rows_in, nexts, after_in, Held}
use Rattle.rows.specs.Walk.{Room}
use Rattle.index.specs.declared.TakeError.{TakeError}
use Rattle.index.specs.declared.TakeError.TheVariants.{Refused, Crowded}
use Rattle.index.specs.Hash.{Multiplier, Sized}
use Rattle.index.specs.Index.{Index}

-- what the rows are taken from: at most 256 states, room for a word a row, and buckets that have not been written
pub record Takeable (by states : ℕ) (rows words heads : List ℕ) : Type 0 where
  pub few : states ≤ 256
  pub multiplier : Multiplier by
  pub room : Room (length words) (length rows)
  pub sized : Sized (length heads)
  pub clear : Clear (length heads) (length words) heads (nexts words)

-- none of the rows is faulty; these words hold them, with no link yet to the next row of the same target, and they are indexed
pub record AllTaken (by states : ℕ) (rows words heads : List ℕ) (n : ℕ) : Type 0 where
  pub all : n ≡ how_many_rows rows
  pub fine : AllFine n (row_ground states rows)
  pub held : Held rows words n
  pub long : length words ≡ n
  pub same : rows_in rows words ≡ rows_of rows
  pub index : Index by (rows_in rows words) heads (nexts words)
  pub free : (r : ℕ) → r < n → after_in (get_or words r 0) ≡ 0

-- all rows are taken, into the first words; or the first faulty one is found; or a bucket is said to be crowded, which more than 1,024 allowed
-- steps shut out
pub record Taken (by most states : ℕ) (rows words heads : List ℕ) (r : Result ℕ TakeError) : Type 0 where
  pub passed : (n : ℕ) → r ≡ Ok n → AllTaken by states rows (take n words) heads n
  pub stopped : (f : Refusal) → r ≡ Err (Refused f) → FirstAt (how_many_rows rows) (row_ground states rows) f.place (kind_number f.kind)
  pub crowded : r ≡ Err Crowded → most ≤ 1024
