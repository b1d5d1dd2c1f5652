-- "Counting and order": counts of rows and states, the total, and the longest tree. Assumes nothing: these are definitions.
use Rattle.std.specs.Prelude.{ℕ, zero, suc, ◌+◌, ◌*◌, ◌≤◌, ◌<◌, max, ◌≡◌, ◌&&◌, List, [], ◌∷◌, ◌++◌, map, length, get_or, eqb, ltb, if◌then◌else◌}
use Rattle.model.specs.Table.{Row, Table}
use Rattle.model.specs.Tree.{Tree, serial}
use Rattle.model.specs.Reach.{Reaches}

unfoldable pub sum : List ℕ → ℕ
sum [] = 0
sum (x ∷ xs) = x + sum xs

unfoldable pub product : List ℕ → ℕ
product [] = 1
product (x ∷ xs) = x * product xs

-- "A row without arguments counts 1; any other row counts the product of its arguments' counts."
abbrev pub row_counts : (ℕ → ℕ) → Row → ℕ
row_counts c r = product (map c r.args)

-- what a row adds to a state
unfoldable pub weight : (ℕ → ℕ) → ℕ → Row → ℕ
weight c q r = if eqb r.target q then row_counts c r else 0

-- "A state counts the sum over the rows with it as target (001, equations 9 and 11)."; "A state without rows counts 0, and so does a row
-- that uses it."
unfoldable pub state_counts : List Row → (ℕ → ℕ) → ℕ → ℕ
state_counts rows c q = sum (map (weight c q) rows)

-- a count function for the states of a table, whatever the order of its states: it satisfies the equations for every state. (On the states
-- there is just one such function if arguments are states and no state lies below itself; proved where arguments are below targets: the law
-- `counts_unique`)
pub record Counts (T : Table) (c : ℕ → ℕ) : Type 0 where
  pub state : (q : ℕ) → q < T.states → c q ≡ state_counts T.rows c q

-- what each state has, from 0 up, found from what the states below it have
unfoldable pub grow : ((ℕ → ℕ) → ℕ → ℕ) → ℕ → List ℕ
grow f zero = []
grow f (suc n) = let found = grow f n in found ++ (f (λ a. get_or found a 0) n ∷ [])

-- the count of a state, where "Every argument state of a row is a lower number than its target"
unfoldable pub count : Table → ℕ → ℕ
count T q = get_or (grow (state_counts T.rows) T.states) q 0

-- "The total is the sum over the accepting list."
unfoldable pub total : Table → ℕ
total T = sum (map (count T) T.accepting)

-- the largest of a list, 0 of none
unfoldable pub largest : List ℕ → ℕ
largest [] = 0
largest (x ∷ xs) = max x (largest xs)

-- the entries of a row's longest tree, its symbol, its children's longest trees and its bar; 0 where the row has another target or no tree
unfoldable pub row_longest : (c l : ℕ → ℕ) → ℕ → Row → ℕ
row_longest c l q r = if eqb r.target q && ltb 0 (row_counts c r) then 2 + sum (map l r.args) else 0

unfoldable pub state_longest : List Row → (c l : ℕ → ℕ) → ℕ → ℕ
state_longest rows c l q = largest (map (row_longest c l q) rows)

-- how many entries a state's longest tree has, in a good table, within the limits or not (the laws `longest_tree` and `check_refuses`).
-- "A state that counts 0 has none.": then this is 0, which is no tree's length (the laws `longest_none` and `none_reaches`)
unfoldable pub longest : Table → ℕ → ℕ
longest T q = get_or (grow (state_longest T.rows (count T)) T.states) q 0

-- "A state's longest tree has the most entries among the trees that reach it."
pub record LongestTree (rows : List Row) (q entries : ℕ) : Type 0 where
  pub tree : Tree
  pub reaches : Reaches rows tree q
  pub has : length (serial tree) ≡ entries
  pub most : (t : Tree) → Reaches rows t q → length (serial t) ≤ entries
