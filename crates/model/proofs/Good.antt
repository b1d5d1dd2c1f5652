-- What a table that passes its check is like, as propositions.
use Rattle.std.specs.Prelude.{if◌then◌else◌}
use Prim.Native.Nat.{ℕ, zero, suc, ◌≤◌, ◌<◌, suc-le-suc}
use mathlib.Core.Path.{◌≡◌, refl, sym, ◌∙◌}
use mathlib.Core.List.{List, [], ◌∷◌}
use mathlib.Core.Bool.{Bool, true, false}
use mathlib.Core.Logic.{◌⊎◌, inl, inr}
use native.Mathlib.Omega.{arith}
use native.Mathlib.Nat.{not-suc-le-zero, le_of_suc-le-suc, eq-or-lt_of_le}
use lib.ListN.{length, get_or}
use lib.Dec.{eqb}
use borrow.Author.Tests.{eqb-true, eqb-false}
use Rattle.model.specs.Table.{Row, Table, no_row}
use Rattle.model.specs.Count.{count, total, longest}
use Rattle.model.specs.Used.{is_used}

-- every entry is below n
abbrev pub AllBelow : ℕ → List ℕ → Type 0
AllBelow n xs = (i : ℕ) → i < length xs → get_or xs i 0 < n

pub below_none : (n : ℕ) → AllBelow n []
below_none n i l = absurd (not-suc-le-zero l)

pub below_cons : (n x : ℕ) (xs : List ℕ) → x < n → AllBelow n xs → AllBelow n (x ∷ xs)
below_cons n x xs l h zero m = l
below_cons n x xs l h (suc i) m = h i (le_of_suc-le-suc m)

pub below_first : (n x : ℕ) (xs : List ℕ) → AllBelow n (x ∷ xs) → x < n
below_first n x xs h = h 0 (omega arith)

pub below_rest : (n x : ℕ) (xs : List ℕ) → AllBelow n (x ∷ xs) → AllBelow n xs
below_rest n x xs h i l = h (suc i) (omega arith)

-- "Every argument state of a row is a lower number than its target"
abbrev pub Ordered : List Row → Type 0
Ordered rows = (i : ℕ) → i < length rows → AllBelow (get_or rows i no_row).target (get_or rows i no_row).args

-- no two rows with the same symbol and the same arguments
abbrev pub Distinct : List Row → Type 0
Distinct rows = (i j : ℕ) → i < length rows → j < length rows → (get_or rows i no_row).symbol ≡ (get_or rows j no_row).symbol
    → (get_or rows i no_row).args ≡ (get_or rows j no_row).args → i ≡ j

-- "distinct states"
abbrev pub Once : List ℕ → Type 0
Once xs = (i j : ℕ) → i < length xs → j < length xs → get_or xs i 0 ≡ get_or xs j 0 → i ≡ j

-- things of which no two have the same number below n are n at most
pub pigeon : (m n : ℕ) (f : ℕ → ℕ) → ((i : ℕ) → i < m → f i < n) → ((i j : ℕ) → i < m → j < m → f i ≡ f j → i ≡ j) → m ≤ n
pigeon zero n f b d = omega arith
pigeon (suc m) zero f b d = absurd (not-suc-le-zero (b 0 (omega arith)))
pigeon (suc m) (suc n) f b d = suc-le-suc (pigeon m n moved low single)
  where
    -- what had the number n takes the last one's
    moved : ℕ → ℕ
    moved i = if eqb (f i) n then f m else f i

    less : (i : ℕ) → i < suc m → (f i ≡ n → ⊥) → f i < n
    less i l h = go (eq-or-lt_of_le (le_of_suc-le-suc (b i l)))
      where
        go : (f i ≡ n) ⊎ (f i < n) → f i < n
        go (inl e) = absurd (h e)
        go (inr k) = k

    low : (i : ℕ) → i < m → moved i < n
    low i l = go (eqb (f i) n) (eqb-true (f i) n) (eqb-false (f i) n)
      where
        go : (t : Bool) → (t ≡ true → f i ≡ n) → (t ≡ false → f i ≡ n → ⊥) → (if t then f m else f i) < n
        go true y z = less m (omega arith) (λ e. let k : i ≡ m = d i m (omega arith) (omega arith) (y refl ∙ sym e) in omega arith)
        go false y z = less i (omega arith) (z refl)

    single : (i j : ℕ) → i < m → j < m → moved i ≡ moved j → i ≡ j
    single i j li lj = go (eqb (f i) n) (eqb (f j) n) (eqb-true (f i) n) (eqb-true (f j) n)
      where
        go : (t u : Bool) → (t ≡ true → f i ≡ n) → (u ≡ true → f j ≡ n) → (if t then f m else f i) ≡ (if u then f m else f j) → i ≡ j
        go true true y z e = d i j (omega arith) (omega arith) (y refl ∙ sym (z refl))
        go true false y z e = let k : m ≡ j = d m j (omega arith) (omega arith) e in absurd (omega arith)
        go false true y z e = let k : i ≡ m = d i m (omega arith) (omega arith) e in absurd (omega arith)
        go false false y z e = d i j (omega arith) (omega arith) e

-- a sound table, whatever its size and the order of its states: targets and arguments are states, no two rows have the same symbol and the
-- same arguments, accepting entries are distinct states
pub record Sound (T : Table) : Type 0 where
  pub symbols : (i : ℕ) → i < length T.rows → (1 ≤ (get_or T.rows i no_row).symbol) × ((get_or T.rows i no_row).symbol ≤ 255)
  pub targets : (i : ℕ) → i < length T.rows → (get_or T.rows i no_row).target < T.states
  pub args : (i : ℕ) → i < length T.rows → AllBelow T.states (get_or T.rows i no_row).args
  pub distinct : Distinct T.rows
  pub listed : AllBelow T.states T.accepting
  pub once : Once T.accepting

-- a good table: a sound one in which arguments stand below targets
pub record Good (T : Table) : Type 0 where
  pub sound : Sound T
  pub ordered : Ordered T.rows

-- a table within document 01's limits, with counts of used states and a total up to a limit
pub record Within (limit : ℕ) (T : Table) : Type 0 where
  pub few_states : T.states ≤ 256
  pub few_rows : length T.rows ≤ 1024
  pub few_args : (i : ℕ) → i < length T.rows → length (get_or T.rows i no_row).args ≤ 16
  pub small_counts : (q : ℕ) → is_used T q ≡ true → count T q ≤ limit
  pub small_trees : (q : ℕ) → is_used T q ≡ true → longest T q ≤ 4096
  pub small_total : total T ≤ limit
