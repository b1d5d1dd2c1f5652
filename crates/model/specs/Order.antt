-- "Counting and order": the order of accepted trees, defined on the trees. Assumes nothing: these are definitions.
use Rattle.std.specs.Prelude.{ℕ, ◌<◌, ◌≡◌, length, get_or}
use mathlib.Core.List.{List, Memᴰ}
use Rattle.model.specs.Table.{Table}
use Rattle.model.specs.Tree.{Forest, Tree, node, only}
use Rattle.model.specs.Reach.{Accepted, row_of, state_of, entry_of}

-- Trees side by side that reach the same states, in order: "if its row stands earlier; with the same row, by the first child in which they differ, compared by row and child again"
pub data Earlier (T : Table) : Forest → Forest → Type 0 where
  row : {s s' : ℕ} {k k' r r' : Forest} → row_of T s k < row_of T s' k' → Earlier T (node s k r) (node s' k' r')
  child : {s s' : ℕ} {k k' r r' : Forest} → row_of T s k ≡ row_of T s' k' → Earlier T k k' → Earlier T (node s k r) (node s' k' r')
  next : {s : ℕ} {k r r' : Forest} → Earlier T r r' → Earlier T (node s k r) (node s k r')

-- where the tree's accepting state is listed
abbrev pub listed_at : Table → Tree → ℕ
listed_at T t = entry_of T.accepting (state_of T t)

-- "one accepted tree comes before another if its accepting state is listed earlier; with the same state", as above
pub data ComesFirst (T : Table) (t u : Tree) : Type 0 where
  state : listed_at T t < listed_at T u → ComesFirst T t u
  within : state_of T t ≡ state_of T u → Earlier T (only t) (only u) → ComesFirst T t u

-- the one accepted tree comes before the other
pub record Before (T : Table) (t u : Tree) : Type 0 where
  pub first : Accepted T t
  pub second : Accepted T u
  pub comes : ComesFirst T t u

-- there are exactly n things with the property: a list of n different things whose members are just those
pub record Exactly {A : Type 0} (P : A → Type 0) (n : ℕ) : Type 0 where
  pub list : List A
  pub many : length list ≡ n
  pub different : (i j : ℕ) (d : A) → i < n → j < n → get_or list i d ≡ get_or list j d → i ≡ j
  pub each : (i : ℕ) (d : A) → i < n → P (get_or list i d)
  pub every : (a : A) → P a → Memᴰ a list

-- "How many accepted trees come before a tree is counted over those trees by this order, not taken from the sums above."
abbrev pub ComeBefore : Table → Tree → ℕ → Type 0
ComeBefore T t n = Exactly (λ u. Before T u t) n
