-- Counts and longest trees kept to a ceiling on the way: each state's is right up to the ceiling, whatever the states below it had, and which states
-- are used is the same.
use Rattle.std.specs.Prelude.{if◌then◌else◌}
use Prim.Native.Nat.{ℕ, zero, suc, ◌+◌, ◌*◌, ◌≤◌, ◌<◌, min, max}
use mathlib.Core.Path.{◌≡◌, refl, ap, sym, ◌∙◌}
use mathlib.Core.Bool.{Bool, true, false, ◌&&◌, ◌||◌}
use mathlib.Core.List.{List, [], ◌∷◌, map}
use mathlib.Core.Logic.{◌⊎◌, inl, inr}
use native.Mathlib.Omega.{arith}
use native.Mathlib.Decide.{dec_le}
use native.Mathlib.Nat.{mul-zero, mul_comm, le-mul_of_pos_right, min-eq_left, min-eq_right, le_of_lt, lt_of_not-le, eq-zero-or-pos, mul-pos}
use lib.ListN.{length, get_or, take}
use lib.Dec.{eqb, ltb}
use borrow.Author.Tests.{lt-ltb, le-ltb}
use Rattle.model.specs.Choice.{any_below}
use Rattle.model.specs.Table.{Row, Table, no_row}
use Rattle.model.specs.Count.{sum, product, row_counts, weight, state_counts, largest, row_longest, state_longest}
use Rattle.model.specs.Value.{earlier_rows}
use Rattle.model.specs.Reach.{is_among}
use Rattle.model.specs.Used.{used_by, state_used}
use Rattle.model.proofs.Counting.{map_agree}
use Rattle.model.proofs.Used.{any_same}

-- what is kept of a number
abbrev pub cap : (top : ℕ) → (ℕ → ℕ) → ℕ → ℕ
cap top c a = min (c a) top

-- a product kept to a number may be kept to it on the way: 0 stays 0, and what is above stays above
pub kept_left : (l m n : ℕ) → min (min m l * n) l ≡ min (m * n) l
kept_left l m zero = simp mul-zero
kept_left l m (suc n) = go (dec_le m l)
  where
    go : Dec (m ≤ l) → min (min m l * suc n) l ≡ min (m * suc n) l
    go (yes h) = rw (min-eq_left h)
    go (no h) =
        let gt : l < m = lt_of_not-le h in
        let a : l ≤ l * suc n = le-mul_of_pos_right l (omega arith) in
        let b : m ≤ m * suc n = le-mul_of_pos_right m (omega arith) in
        rw (min-eq_right (le_of_lt gt)) (omega arith)

pub kept_times : (l m n m' n' : ℕ) → min m l ≡ min m' l → min n l ≡ min n' l → min (m * n) l ≡ min (m' * n') l
kept_times l m n m' n' e f =
    sym (kept_left l m n) ∙ ap (λ (x : ℕ). min (x * n) l) e ∙ kept_left l m' n ∙ ap (λ (x : ℕ). min x l) (mul_comm m' n)
    ∙ sym (kept_left l n m') ∙ ap (λ (x : ℕ). min (x * m') l) f ∙ kept_left l n' m' ∙ ap (λ (x : ℕ). min x l) (mul_comm n' m')

module _ (top : ℕ) where
  -- lists that are the same up to the ceiling, entry by entry
  sums_kept : {A : Type 0} (f g : A → ℕ) (xs : List A) → ((a : A) → min (f a) top ≡ min (g a) top) → min (sum (map f xs)) top ≡ min (sum (map g xs)) top
  unfolding sum
  sums_kept f g [] h = refl
  sums_kept f g (x ∷ xs) h = omega (arith, h x, sums_kept f g xs h)

  earlier_sums : {A : Type 0} (f g : A → ℕ) (xs : List A) (i : ℕ) → ((a : A) → min (f a) top ≡ min (g a) top)
      → min (sum (take i (map f xs))) top ≡ min (sum (take i (map g xs))) top
  unfolding sum
  earlier_sums f g [] zero h = refl
  earlier_sums f g [] (suc i) h = refl
  earlier_sums f g (x ∷ xs) zero h = refl
  earlier_sums f g (x ∷ xs) (suc i) h = omega (arith, h x, earlier_sums f g xs i h)

  largest_kept : {A : Type 0} (f g : A → ℕ) (xs : List A) → ((a : A) → min (f a) top ≡ min (g a) top) → min (largest (map f xs)) top ≡ min (largest (map g xs)) top
  unfolding largest
  largest_kept f g [] h = refl
  largest_kept f g (x ∷ xs) h =
      apart (f x) (largest (map f xs)) ∙ ap (λ (n : ℕ). max n (min (largest (map f xs)) top)) (h x) ∙ ap (max (min (g x) top)) (largest_kept f g xs h)
      ∙ sym (apart (g x) (largest (map g xs)))
    where
      apart : (m n : ℕ) → min (max m n) top ≡ max (min m top) (min n top)
      apart m n = omega arith

  product_kept : (c : ℕ → ℕ) (xs : List ℕ) → min (product (map (cap top c) xs)) top ≡ min (product (map c xs)) top
  unfolding product
  product_kept c [] = refl
  product_kept c (x ∷ xs) = kept_times top (cap top c x) _ (c x) _ (omega arith) (product_kept c xs)

  weight_kept : (c : ℕ → ℕ) (q : ℕ) (r : Row) → min (weight (cap top c) q r) top ≡ min (weight c q r) top
  unfolding weight
  weight_kept c q r = go (eqb r.target q)
    where
      go : (b : Bool) → min (if b then row_counts (cap top c) r else 0) top ≡ min (if b then row_counts c r else 0) top
      go true = product_kept c r.args
      go false = refl

  -- a state's count, from kept counts of the states below it
  pub state_kept : (rows : List Row) (c : ℕ → ℕ) (q : ℕ) → min (state_counts rows (cap top c) q) top ≡ min (state_counts rows c q) top
  unfolding state_counts
  state_kept rows c q = sums_kept (weight (cap top c) q) (weight c q) rows (weight_kept c q)

  -- the counts of the rows before one
  pub earlier_kept : (rows : List Row) (c : ℕ → ℕ) (q i : ℕ) → min (earlier_rows rows (cap top c) q i) top ≡ min (earlier_rows rows c q i) top
  unfolding earlier_rows
  earlier_kept rows c q i = earlier_sums (weight (cap top c) q) (weight c q) rows i (weight_kept c q)

  -- a longest tree, from kept ones of the states below
  pub longest_kept : (rows : List Row) (c l : ℕ → ℕ) (q : ℕ) → min (state_longest rows c (cap top l) q) top ≡ min (state_longest rows c l q) top
  unfolding state_longest row_longest
  longest_kept rows c l q = largest_kept (row_longest c (cap top l) q) (row_longest c l q) rows (λ r. here r (eqb r.target q && ltb 0 (row_counts c r)))
    where
      here : (r : Row) (b : Bool) → min (if b then 2 + sum (map (cap top l) r.args) else 0) top ≡ min (if b then 2 + sum (map l r.args) else 0) top
      here r true = omega (arith, sums_kept (cap top l) l r.args (λ a. omega arith))
      here r false = refl

-- ---- what is above 0

-- numbers that are above 0 together
abbrev pub Alike : (c d : ℕ → ℕ) → Type 0
Alike c d = (a : ℕ) → ltb 0 (c a) ≡ ltb 0 (d a)

-- what is kept to a ceiling above 0
pub kept_alike : (top : ℕ) → 0 < top → (c : ℕ → ℕ) → Alike (cap top c) c
kept_alike top p c a = go (eq-zero-or-pos (c a))
  where
    go : (c a ≡ 0) ⊎ (0 < c a) → ltb 0 (min (c a) top) ≡ ltb 0 (c a)
    go (inl z) = le-ltb 0 (min (c a) top) (omega arith) ∙ sym (le-ltb 0 (c a) (omega arith))
    go (inr y) = lt-ltb 0 (min (c a) top) (omega arith) ∙ sym (lt-ltb 0 (c a) y)

times_alike : (m n m' n' : ℕ) → ltb 0 m ≡ ltb 0 m' → ltb 0 n ≡ ltb 0 n' → ltb 0 (m * n) ≡ ltb 0 (m' * n')
times_alike m n m' n' e f = both m n ∙ ap (λ (b : Bool). b && ltb 0 n) e ∙ ap (λ (b : Bool). ltb 0 m' && b) f ∙ sym (both m' n')
  where
    both : (m n : ℕ) → ltb 0 (m * n) ≡ (ltb 0 m && ltb 0 n)
    both m n = go (eq-zero-or-pos m) (eq-zero-or-pos n)
      where
        go : (m ≡ 0) ⊎ (0 < m) → (n ≡ 0) ⊎ (0 < n) → ltb 0 (m * n) ≡ (ltb 0 m && ltb 0 n)
        go (inl z) y = rw z (let w : 0 * n ≡ 0 = omega arith in rw w)
        go (inr p) (inl z) = rw (z, mul-zero m, lt-ltb 0 m p)
        go (inr p) (inr y) = rw (lt-ltb 0 m p, lt-ltb 0 n y) (lt-ltb 0 (m * n) (mul-pos p y))

pub row_alike : (c d : ℕ → ℕ) → Alike c d → (xs : List ℕ) → ltb 0 (product (map c xs)) ≡ ltb 0 (product (map d xs))
unfolding product
row_alike c d h [] = refl
row_alike c d h (x ∷ xs) = times_alike (c x) (product (map c xs)) (d x) (product (map d xs)) (h x) (row_alike c d h xs)

-- the same states are used
pub used_alike : (T : Table) (c d : ℕ → ℕ) (u : ℕ → Bool) → Alike c d → (q : ℕ) → state_used T c u q ≡ state_used T d u q
unfolding state_used
used_alike T c d u h q =
    ap (λ (b : Bool). (b && is_among q T.accepting) || any_below (length T.rows) (λ i. used_by c u q (get_or T.rows i no_row))) (h q)
    ∙ ap (λ (b : Bool). (ltb 0 (d q) && is_among q T.accepting) || b)
    (any_same (length T.rows) (λ i. used_by c u q (get_or T.rows i no_row)) (λ i. used_by d u q (get_or T.rows i no_row))
    (λ i l. ap (λ (b : Bool). is_among q (get_or T.rows i no_row).args && (b && u (get_or T.rows i no_row).target)) (row_alike c d h (get_or T.rows i no_row).args)))

-- and the same rows have longest trees
pub longest_alike : (rows : List Row) (c d l : ℕ → ℕ) → Alike c d → (q : ℕ) → state_longest rows c l q ≡ state_longest rows d l q
unfolding state_longest row_longest
longest_alike rows c d l h q =
    ap largest (map_agree (row_longest c l q) (row_longest d l q) no_row rows (λ i k. here (get_or rows i no_row)))
  where
    here : (r : Row) → (if eqb r.target q && ltb 0 (row_counts c r) then 2 + sum (map l r.args) else 0) ≡ (if eqb r.target q && ltb 0 (row_counts d r) then 2 + sum (map l r.args) else 0)
    here r = ap (λ (b : Bool). if eqb r.target q && b then 2 + sum (map l r.args) else 0) (row_alike c d h r.args)
