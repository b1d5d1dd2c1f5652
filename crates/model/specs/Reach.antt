-- "Counting and order": reaching and accepting, for trees of any length. Assumes nothing: these are definitions.
use Rattle.std.specs.Prelude.{ℕ, suc, ◌<◌, List, [], ◌∷◌, length, get_or, Bool, eqb, ltb, if◌then◌else◌}
use Rattle.model.specs.Table.{Row, Table, IsRow, row_is}
use Rattle.model.specs.Tree.{Forest, Tree, empty, node, only}

-- "A tree reaches a state when its children reach the arguments of a row with its symbol, in order; the state is that row's target
-- (001, equation 2)." The trees of a forest reach states, one each, in order
pub data Reach (rows : List Row) : Forest → List ℕ → Type 0 where
  none : Reach rows empty []
  row : {s q : ℕ} {children right : Forest} {xs qs : List ℕ} (i : ℕ) → IsRow rows i s q xs → Reach rows children xs → Reach rows right qs
      → Reach rows (node s children right) (q ∷ qs)

abbrev pub Reaches : List Row → Tree → ℕ → Type 0
Reaches rows t q = Reach rows (only t) (q ∷ [])

-- "A tree is accepted if it reaches a state on the accepting list."
pub record Accepted (T : Table) (t : Tree) : Type 0 where
  pub entry : ℕ
  pub listed : entry < length T.accepting
  pub reaches : Reaches T.rows t (get_or T.accepting entry 0)

-- The same by functions, for a sound table (the laws `states_reach` and `reach_states`, with `Sound` as their premise; a table that passes its
-- check is sound, the law `passing_sound`). For a table that is not, only `Reach` says what document 01 means; the operations refuse it first.
-- The number of the first row with symbol s and arguments xs; where there is none, the count of rows
unfoldable pub row_with : List Row → ℕ → List ℕ → ℕ
row_with [] s xs = 0
row_with (r ∷ rs) s xs = if row_is r s xs then 0 else suc (row_with rs s xs)

-- the target of row i; where there is no row i, the count of states, which is no state and stands for 'reaches none'
abbrev pub target_of : Table → ℕ → ℕ
target_of T i = (get_or T.rows i (record { symbol = 0; target = T.states; args = [] })).target

-- the states that the trees of a forest reach, in order
unfoldable pub states_of : Table → Forest → List ℕ
states_of T empty = []
states_of T (node s children right) = target_of T (row_with T.rows s (states_of T children)) ∷ states_of T right

-- "its row is the one with its symbol and its children's states, in order"
abbrev pub row_of : Table → ℕ → Forest → ℕ
row_of T s children = row_with T.rows s (states_of T children)

-- "A tree's accepting state is the one it reaches"
abbrev pub state_of : Table → Tree → ℕ
state_of T t = target_of T (row_of T t.symbol t.children)

-- where a state is listed; the length of the list where it is not
unfoldable pub entry_of : List ℕ → ℕ → ℕ
entry_of [] q = 0
entry_of (a ∷ as') q = if eqb a q then 0 else suc (entry_of as' q)

-- the state is one of the list's
abbrev pub is_among : ℕ → List ℕ → Bool
is_among q xs = ltb (entry_of xs q) (length xs)
