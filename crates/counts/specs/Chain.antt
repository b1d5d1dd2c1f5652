-- The rows of one target, chained in their order. Assumes nothing: these are definitions.
use Rattle.std.specs.Prelude.{ℕ, zero, suc, ◌-◌, ◌<◌, ◌≤◌, ◌≡◌, List, length, get_or}
use Rattle.model.specs.Table.{Row}
use Rattle.rows.specs.Words.{row_no, rows_in, after_in, nexts, afters, Held}

abbrev pub target : List Row → ℕ → ℕ
target rows r = (row_no rows r).target

-- the rows are in range and in order: what the grounds 3 to 5 leave
pub record InOrder (states : ℕ) (rows : List Row) : Type 0 where
  pub known : (r : ℕ) → r < length rows → target rows r < states
  pub lower : (r : ℕ) → r < length rows → (k : ℕ) → k < length (row_no rows r).args → get_or (row_no rows r).args k 0 < target rows r

-- a link of a chain over n rows is 1 more than a row's number, or 0 at the end: the row to which it leads, or n
unfoldable pub leads : (link n : ℕ) → ℕ
leads zero n = n
leads (suc r) n = r

-- the link leads to the first row from m on whose target is q
pub record TargetLink (rows : List Row) (q m n link : ℕ) : Type 0 where
  pub within : leads link n ≤ n
  pub from : m ≤ leads link n
  pub inside : 0 < link → leads link n < n
  pub mine : 0 < link → target rows (leads link n) ≡ q
  pub gap : (k : ℕ) → m ≤ k → k < leads link n → target rows k ≡ q → ⊥

-- the rows from m on are chained by target: `first` has a link for each state, `after` one for each row
pub record ChainedFrom (rows : List Row) (m : ℕ) (first after : List ℕ) : Type 0 where
  pub firsts : (q : ℕ) → q < length first → TargetLink rows q m (length rows) (get_or first q 0)
  pub afters : (r : ℕ) → m ≤ r → r < length rows → TargetLink rows (target rows r) (suc r) (length rows) (get_or after r 0)

abbrev pub Chained : (rows : List Row) (first after : List ℕ) → Type 0
Chained rows first after = ChainedFrom rows 0 first after

-- the link is within the words, and each word's link leads further: so a walk along them ends
pub record Onward (words : List ℕ) (link : ℕ) : Type 0 where
  pub inside : link ≤ length words
  pub further : (r : ℕ) → r < length words → r < leads (after_in (get_or words r 0)) (length words)
  pub within : (r : ℕ) → r < length words → after_in (get_or words r 0) ≤ length words

-- of a chain in the words, the row that the link leads to, its word, and the link behind it
pub record Comes (words : List ℕ) (link r word after : ℕ) : Type 0 where
  pub here : (1 ≤ link) × (r ≡ link - 1)
  pub inside : r < length words
  pub held : word ≡ get_or words r 0
  pub next : after ≡ after_in word

-- no link yet
pub record Unchained (first after : List ℕ) : Type 0 where
  pub firsts : (q : ℕ) → q < length first → get_or first q 0 ≡ 0
  pub afters : (r : ℕ) → r < length after → get_or after r 0 ≡ 0

-- what the rows are chained from: words with no such link yet, and a place for each target
pub record Chainable (pool words first : List ℕ) : Type 0 where
  pub rows_held : Held pool words (length words)
  pub targets : (r : ℕ) → r < length words → target (rows_in pool words) r < length first
  pub unchained : Unchained first (afters words)

-- the words hold the same rows and links of the index, and now the rows of each target are chained
pub record ChainedRows (pool words₀ first₀ words first : List ℕ) : Type 0 where
  pub long : length words ≡ length words₀
  pub first_long : length first ≡ length first₀
  pub same : rows_in pool words ≡ rows_in pool words₀
  pub links : nexts words ≡ nexts words₀
  pub held : Held pool words (length words)
  pub chained : Chained (rows_in pool words) first (afters words)
