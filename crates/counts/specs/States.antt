-- Counts and longest trees, state by state, whatever they are. Assumes nothing: these are definitions.
use Rattle.std.specs.Prelude.{ℕ, ◌+◌, ◌<◌, ◌≤◌, min, ◌≡◌, List, [], map, length, get_or, leb, ltb, if◌then◌else◌}
use Rattle.model.specs.Table.{Row, Table}
use Rattle.model.specs.Count.{product, state_counts, state_longest, count, longest}
use Rattle.model.specs.Value.{earlier_rows}
use Rattle.counts.specs.declared.Counted.{Counted}
use Rattle.rows.specs.Words.{row_no}
use Rattle.counts.specs.Chain.{target, InOrder}
use Rattle.counts.specs.Marks.{top, ceiling, long_ceiling, long_in, over_in, over_of, Roomy, Tells}
use Rattle.counts.specs.Kept.{Is}

-- what a list holds for each state
abbrev pub held : List ℕ → ℕ → ℕ
held xs q = get_or xs q 0

-- what a state counts, kept to 2^64, and how many entries its longest tree has, kept to 4,097
abbrev pub held_whole : (counts marks : List ℕ) → ℕ → ℕ
held_whole counts marks q = held counts q + over_of (held marks q)

abbrev pub held_long : (marks : List ℕ) → ℕ → ℕ
held_long marks q = long_in (held marks q)

-- ---- one row

-- every argument has a place in the list
pub record ArgsPlaced (xs args : List ℕ) : Type 0 where
  pub placed : (k : ℕ) → k < length args → get_or args k 0 < length xs

-- every argument has a mark
pub record Marked (marks args : List ℕ) : Type 0 where
  pub few : length args ≤ 16
  pub placed : (k : ℕ) → k < length args → get_or args k 0 < length marks
  pub roomy : (k : ℕ) → k < length args → Roomy (held marks (get_or args k 0))

-- every argument's mark tells of what is held for it
pub record MarksTell (counts marks args : List ℕ) : Type 0 where
  pub few : length args ≤ 16
  pub counted : (k : ℕ) → k < length args → get_or args k 0 < length counts
  pub placed : (k : ℕ) → k < length args → get_or args k 0 < length marks
  pub each : (k : ℕ) → k < length args → Tells (held marks (get_or args k 0)) (held_whole counts marks (get_or args k 0)) (held_long marks (get_or args k 0))

-- no argument counts 0
pub record Some (counts args : List ℕ) : Type 0 where
  pub placed : (k : ℕ) → k < length args → get_or args k 0 < length counts
  pub some : 0 < product (map (held counts) args)

-- and the product fits
pub record Fits (counts args : List ℕ) : Type 0 where
  pub some : Some counts args
  pub fits : product (map (held counts) args) ≤ top

-- what the sum s of a row's marks tells of the product of its arguments' counts
pub record Weighable (s : ℕ) (counts args : List ℕ) : Type 0 where
  pub placed : (k : ℕ) → k < length args → get_or args k 0 < length counts
  pub some : s < 4294967296 → 0 < product (map (held counts) args)
  pub plain : s < 67108864 → product (map (held counts) args) ≤ top
  pub one : s < 1048576 → product (map (held counts) args) ≡ 1

-- what a row counts whose marks together are s, where the counts held for its arguments have that product: 0 with an argument without trees, else beyond
-- 64 bits with one that is, else the product
abbrev pub weight_by : (s product : ℕ) → ℕ
weight_by s p = if leb 1099511627776 s then 0 else (if leb 4294967296 s then ceiling else p)

-- ---- one state

-- what one state is counted from, beside the chains: the arguments of its rows have counts and marks
pub record Countable (rows : List Row) (first counts marks sums : List ℕ) (q : ℕ) : Type 0 where
  pub state : q < length first
  pub sums_room : length rows ≤ length sums
  pub marked : (r : ℕ) → r < length rows → target rows r ≡ q → MarksTell counts marks (row_no rows r).args

-- its count and its longest tree, from what is held for the states below it, and for each of its rows the sum of those before it
pub record Summed (rows : List Row) (counts marks : List ℕ) (q : ℕ) (sums₀ sums : List ℕ) (r : Counted) : Type 0 where
  pub count : Is r.count (state_counts rows (held_whole counts marks) q)
  pub longest : r.longest ≡ min (state_longest rows (held_whole counts marks) (held_long marks) q) long_ceiling
  pub long : length sums ≡ length sums₀
  pub mine : (k : ℕ) → k < length rows → target rows k ≡ q → get_or sums k 0 ≡ min (earlier_rows rows (held_whole counts marks) q k) top
  pub others : (k : ℕ) → (target rows k ≡ q → ⊥) → get_or sums k 0 ≡ get_or sums₀ k 0

-- ---- all states

-- the table of the rows; no count depends on the accepting list
abbrev pub row_table : ℕ → List Row → Table
row_table states rows = record { states = states; rows = rows; accepting = [] }

-- there is a place for each state and for each row
pub record CountRoom (states : ℕ) (rows : List Row) (first cs marks sums : List ℕ) : Type 0 where
  pub first_room : states ≤ length first
  pub cs_room : states ≤ length cs
  pub marks_room : states ≤ length marks
  pub sums_room : length rows ≤ length sums

-- what counting the states in turn starts from, beside the chains
pub record CountReady (states : ℕ) (rows : List Row) (first counts marks sums : List ℕ) : Type 0 where
  pub ordered : InOrder states rows
  pub room : CountRoom states rows first counts marks sums
  pub blank : (a : ℕ) → held counts a ≡ 0

-- the states are counted: each count and each sum of earlier rows kept to 64 bits, each longest tree to 4,097, and the mark tells which count is more;
-- what is no state counts 0
pub record CountsKnown (states : ℕ) (rows : List Row) (cs marks es : List ℕ) : Type 0 where
  pub counts : (a : ℕ) → held cs a ≡ min (count (row_table states rows) a) top
  pub overs : (a : ℕ) → a < states → over_in (held marks a) ≡ ltb top (count (row_table states rows) a)
  pub longs : (a : ℕ) → a < states → long_in (held marks a) ≡ min (longest (row_table states rows) a) long_ceiling
  pub sums : (k : ℕ) → k < length rows → get_or es k 0 ≡ min (earlier_rows rows (count (row_table states rows)) (target rows k) k) top

pub record CountedStates (states : ℕ) (rows : List Row) (cs₀ marks₀ sums₀ cs marks sums : List ℕ) : Type 0 where
  pub cs_long : length cs ≡ length cs₀
  pub marks_long : length marks ≡ length marks₀
  pub sums_long : length sums ≡ length sums₀
  pub known : CountsKnown states rows cs marks sums
