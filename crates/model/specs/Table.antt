-- "The lent lists": tables, and rows packed in one list. Assumes nothing: these are definitions.
use Rattle.std.specs.Prelude.{ℕ, zero, suc, ◌+◌, ◌<◌, ◌≤◌, ◌≡◌, Bool, true, false, ◌&&◌, List, [], ◌∷◌, ◌++◌, length, get_or, take, drop, eqb, ltb, if◌then◌else◌}

-- "A row is: symbol (1 to 255), target state, argument count (0 to 16), then that many argument states."
-- (a transition of the automaton; its arity is the length of its arguments)
pub record Row : Type 0 where
  pub symbol : ℕ
  pub target : ℕ
  pub args : List ℕ

-- "A table is three things": the count of states, the rows, the accepting list
-- (a bottom-up tree automaton with an ordered list of accepting states)
pub record Table : Type 0 where
  pub states : ℕ
  pub rows : List Row
  pub accepting : List ℕ

-- "The rows, one after another in one list." (`rows_of`, below, reads them back: the law `rows_of_pack`)
unfoldable pub pack : List Row → List ℕ
pack [] = []
pack (r ∷ rs) = r.symbol ∷ r.target ∷ length r.args ∷ r.args ++ pack rs

-- Reading such a list back. The row that begins at an entry: its argument count is the third entry, its arguments come after that
abbrev pub arg_count_at : List ℕ → ℕ → ℕ
arg_count_at entries at = get_or entries (at + 2) 0

abbrev pub args_at : List ℕ → ℕ → List ℕ
args_at entries at = take (arg_count_at entries at) (drop (at + 3) entries)

abbrev pub row_at : List ℕ → ℕ → Row
row_at entries at = record { symbol = get_or entries at 0; target = get_or entries (at + 1) 0; args = args_at entries at }

-- a whole row begins at the entry: its head entries and its arguments are within the list
abbrev pub Whole : List ℕ → ℕ → Type 0
Whole entries at = at + 3 + arg_count_at entries at ≤ length entries

-- where a row begins: the first at the front, each other one after the row before it
unfoldable pub row_start : List ℕ → ℕ → ℕ
row_start entries zero = 0
row_start entries (suc i) = row_start entries i + 3 + arg_count_at entries (row_start entries i)

abbrev pub row_numbered : List ℕ → ℕ → Row
row_numbered entries i = row_at entries (row_start entries i)

-- of the numbers below n, how many have the property
unfoldable pub how_many : ℕ → (ℕ → Bool) → ℕ
how_many zero p = 0
how_many (suc n) p = (if p n then 1 else 0) + how_many n p

-- the rows of a list are those that begin within it, a cut last one too; there are no more of them than entries
unfoldable pub how_many_rows : List ℕ → ℕ
how_many_rows entries = how_many (length entries) (λ i. ltb (row_start entries i) (length entries))

unfoldable pub first_rows : List ℕ → ℕ → List Row
first_rows entries zero = []
first_rows entries (suc n) = first_rows entries n ++ (row_numbered entries n ∷ [])

unfoldable pub rows_of : List ℕ → List Row
rows_of entries = first_rows entries (how_many_rows entries)

-- "The accepting list: distinct states, in the order that matters for numbers." A lent accepting list is read by the next three alone: how
-- many entries it has, the state that entry i names, and all these states in order (the laws `states_length` and `states_at`)
abbrev pub how_many_entries : List ℕ → ℕ
how_many_entries accepting = length accepting

abbrev pub state_at : List ℕ → ℕ → ℕ
state_at accepting i = get_or accepting i 0

abbrev pub accepting_states : List ℕ → List ℕ
accepting_states accepting = accepting

-- the table that is lent
abbrev pub table_of : (states : ℕ) (rows accepting : List ℕ) → Table
table_of states rows accepting = record { states = states; rows = rows_of rows; accepting = accepting_states accepting }

-- two lists are equally long, and their entries agree one by one
unfoldable pub same_by : (agree : ℕ → ℕ → Bool) → List ℕ → List ℕ → Bool
same_by agree [] [] = true
same_by agree [] (y ∷ ys) = false
same_by agree (x ∷ xs) [] = false
same_by agree (x ∷ xs) (y ∷ ys) = agree x y && same_by agree xs ys

-- two lists are equal, entry by entry
abbrev pub same_list : List ℕ → List ℕ → Bool
same_list xs ys = same_by eqb xs ys

-- the row has this symbol and this argument list
unfoldable pub row_is : Row → ℕ → List ℕ → Bool
row_is r s xs = eqb r.symbol s && same_list r.args xs

abbrev pub no_row : Row
no_row = record { symbol = 0; target = 0; args = [] }

-- row i of the table has symbol s, target q and arguments xs
pub record IsRow (rows : List Row) (i s q : ℕ) (xs : List ℕ) : Type 0 where
  pub inside : i < length rows
  pub is : get_or rows i no_row ≡ record { symbol = s; target = q; args = xs }
