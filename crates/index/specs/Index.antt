-- The index of rows: the rows chained by bucket, however they are lent; and one row more. Assumes nothing: these are definitions.
use Rattle.std.specs.Prelude.{ℕ, ◌+◌, ◌*◌, ◌/◌, ◌≤◌, ◌<◌, ◌≡◌, Bool, true, List, length, set, take, drop, Option, None, Result, Ok, Err}
use Rattle.model.specs.declared.Refusal.{Refusal}
use Rattle.model.specs.Answers.{refused, refused_by}
use Rattle.model.specs.Choice.{any_below}
use Rattle.model.specs.Table.{Row, row_is}
use Rattle.chains.specs.First.{first_with}
use Rattle.chains.specs.Chains.{Chains}
use Rattle.rows.specs.Words.{row_no, nexts, row_held, Held, Apart}
use Rattle.index.specs.declared.Crowded.{Crowded}
use Rattle.index.specs.declared.TakeError.{TakeError}
use Rattle.index.specs.declared.TakeError.TheVariants.{Refused, Crowded as TakeCrowded}
use Rattle.index.specs.Hash.{hash_of, Multiplier, Sized}

-- rows given by number: the first of the first n with symbol s and arguments xs
abbrev pub found_by : (ℕ → Row) → ℕ → ℕ → List ℕ → Option ℕ
found_by row n s xs = first_with (λ k. row_is (row k) s xs) n

-- "the symbol and arguments of an earlier row"
unfoldable pub repeated_by : (ℕ → Row) → ℕ → Bool
repeated_by row i = any_below i (λ j. row_is (row j) (row i).symbol (row i).args)

-- the bucket of a row
abbrev pub row_bucket : (by size : ℕ) → Row → ℕ
row_bucket by size r = hash_of by size (r.symbol + length r.args * 256) r.args

-- the first n rows are chained by bucket, and none of them repeats another
pub record IndexBy (by size room : ℕ) (row : ℕ → Row) (n : ℕ) (heads next : List ℕ) : Type 0 where
  pub chains : Chains (λ r. row_bucket by size (row r)) size room n heads next
  pub distinct : first_with (repeated_by row) n ≡ None

-- the same of a list of rows, all of them
abbrev pub row_found : List Row → ℕ → List ℕ → Option ℕ
row_found rows s xs = found_by (row_no rows) (length rows) s xs

pub record Index (by : ℕ) (rows : List Row) (heads next : List ℕ) : Type 0 where
  pub multiplier : Multiplier by
  pub sized : Sized (length heads)
  pub rows_held : IndexBy by (length heads) (length next) (row_no rows) (length rows) heads next

-- the row with a symbol and arguments, if its chain is walked at most so many steps. Crowded is said only where there are at least so many rows;
-- of when, nothing is promised: it costs time and no answer
pub record SoughtRow (found : Option ℕ) (most n : ℕ) (r : Result (Option ℕ) Crowded) : Type 0 where
  pub sought : (f : Option ℕ) → r ≡ Ok f → f ≡ found
  pub crowded : (e : Crowded) → r ≡ Err e → most ≤ n

-- what a chain is walked from: the first n words hold rows, which are chained, and b is the bucket of the key and the arguments
pub record Seeking (pool words heads : List ℕ) (n b key : ℕ) (args : List ℕ) : Type 0 where
  pub by : ℕ
  pub held : Held pool words n
  pub index : IndexBy by (length heads) (length words) (row_held pool words) n heads (nexts words)
  pub inside : b < length heads
  pub bucket : b ≡ hash_of by (length heads) key args
  pub counts : key / 256 ≡ length args

-- what a row is entered from: the rows before it are held and indexed; it has a symbol and a target below 256 and at most 16
-- arguments, and they stand in the pool
pub record Enterable (by : ℕ) (pool words heads : List ℕ) (n symbol target from : ℕ) (args : List ℕ) : Type 0 where
  pub multiplier : Multiplier by
  pub sized : Sized (length heads)
  pub held : Held pool words n
  pub index : IndexBy by (length heads) (length words) (row_held pool words) n heads (nexts words)
  pub early : n < 1024
  pub room : n < length words
  pub symbol_low : symbol < 256
  pub target_low : target < 256
  pub few : length args ≤ 16
  pub near : from < 65536
  pub inside : from + length args ≤ length pool
  pub part : args ≡ take (length args) (drop from pool)

-- row n was put and entered beside those before it
pub record RowEntered (by : ℕ) (pool words₀ heads₀ words heads : List ℕ) (n symbol target from : ℕ) (args : List ℕ) : Type 0 where
  pub word : ℕ
  pub next : ℕ
  pub parts : Apart word symbol (length args) target from next
  pub put : words ≡ set words₀ n word
  pub index : IndexBy by (length heads₀) (length words₀) (row_held pool words) (n + 1) heads (nexts words)

-- it was entered; or it has the symbol and the arguments of a row before it, and is refused; or it is said to be crowded, as above
pub record EnteredRow (by most : ℕ) (pool words₀ heads₀ words heads : List ℕ) (n symbol target from : ℕ) (args : List ℕ) (r : Result (Unit {0}) TakeError) : Type 0 where
  pub enters : r ≡ Ok tt → RowEntered by pool words₀ heads₀ words heads n symbol target from args
  pub repeats : (f : Refusal) → r ≡ Err (Refused f) → any_below n (λ j. row_is (row_held pool words₀ j) symbol args) ≡ true
  pub refusal : (f : Refusal) → r ≡ Err (Refused f) → refused_by f ≡ refused 6 n
  pub crowds : r ≡ Err TakeCrowded → most ≤ n
