-- Rows as words: one number a row, beside the list that holds the arguments of all rows, the pool. Assumes nothing: these are definitions.
use Rattle.std.specs.Prelude.{ℕ, ◌+◌, ◌*◌, ◌/◌, ◌%◌, ◌<◌, ◌≤◌, ◌≡◌, List, map, length, get_or, take, drop}
use Rattle.model.specs.Table.{Row, Table, no_row, accepting_states}

-- a row by its parts
abbrev pub a_row : (symbol target : ℕ) → List ℕ → Row
a_row s q xs = record { symbol = s; target = q; args = xs }

-- the word of a row: its symbol (8 bits), its argument count (8), its target (8), where its arguments begin in the pool (16), and the link that
-- the index of rows keeps for it (12)
abbrev pub word_of : (symbol count target from next : ℕ) → ℕ
word_of s n q from next = s + n * 256 + q * 65536 + from * 16777216 + next * 1099511627776

-- a word with the link to the next row of the same target (the bits above), which is put when all rows are known
abbrev pub with_after : (word after : ℕ) → ℕ
with_after w after = w + after * 4503599627370496

-- a word taken apart
abbrev pub symbol_in : ℕ → ℕ
symbol_in w = w % 256

abbrev pub count_in : ℕ → ℕ
count_in w = w / 256 % 256

abbrev pub target_in : ℕ → ℕ
target_in w = w / 65536 % 256

abbrev pub from_in : ℕ → ℕ
from_in w = w / 16777216 % 65536

abbrev pub next_in : ℕ → ℕ
next_in w = w / 1099511627776 % 4096

abbrev pub after_in : ℕ → ℕ
after_in w = w / 4503599627370496

-- of all words, the links of the index, and those to the next row of the same target
abbrev pub nexts : List ℕ → List ℕ
nexts words = map next_in words

abbrev pub afters : List ℕ → List ℕ
afters words = map after_in words

-- a row's arguments are a part of the pool
abbrev pub args_in : (pool : List ℕ) → ℕ → List ℕ
args_in pool w = take (count_in w) (drop (from_in w) pool)

abbrev pub row_in : (pool : List ℕ) → ℕ → Row
row_in pool w = a_row (symbol_in w) (target_in w) (args_in pool w)

-- the rows that words hold
abbrev pub rows_in : (pool words : List ℕ) → List Row
rows_in pool words = map (row_in pool) words

-- a table of such rows
abbrev pub held_table : (states : ℕ) (pool words accepting : List ℕ) → Table
held_table states pool words accepting = record { states = states; rows = rows_in pool words; accepting = accepting_states accepting }

-- row k of a list of rows
abbrev pub row_no : List Row → ℕ → Row
row_no rows k = get_or rows k no_row

-- the arguments of a word's row are within the pool, and at most 16
pub record Inside (pool : List ℕ) (w : ℕ) : Type 0 where
  pub ends : from_in w + count_in w ≤ length pool
  pub few : count_in w ≤ 16

-- the first n words, at most 1,024, hold rows whose arguments are within the pool
pub record Held (pool words : List ℕ) (n : ℕ) : Type 0 where
  pub many : n ≤ 1024
  pub long : n ≤ length words
  pub inside : (r : ℕ) → r < n → Inside pool (get_or words r 0)

-- the row that word r holds
abbrev pub row_held : (pool words : List ℕ) → ℕ → Row
row_held pool words r = row_in pool (get_or words r 0)

-- the parts of a word are those it was made of, and it has no link to a next row of the same target
pub record Apart (w symbol count target from next : ℕ) : Type 0 where
  pub symbol_is : symbol_in w ≡ symbol
  pub count_is : count_in w ≡ count
  pub target_is : target_in w ≡ target
  pub from_is : from_in w ≡ from
  pub next_is : next_in w ≡ next
  pub after_is : after_in w ≡ 0
