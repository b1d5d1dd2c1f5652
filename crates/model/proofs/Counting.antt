-- Laws of sums, products and largest entries, of lists grown state by state, and so of counts and longest trees.
use Rattle.std.specs.Prelude.{if◌then◌else◌}
use Prim.Native.Nat.{ℕ, zero, suc, ◌+◌, ◌*◌, ◌≤◌, ◌<◌, max}
use mathlib.Core.Path.{◌≡◌, refl, ap, sym, ◌∙◌}
use mathlib.Core.Bool.{Bool, true, false, ◌&&◌}
use mathlib.Core.List.{List, [], ◌∷◌, map}
use mathlib.Core.Logic.{◌⊎◌, inl, inr}
use native.Mathlib.Omega.{arith}
use native.Mathlib.Decide.{dec_le}
use native.Mathlib.Nat.{mul-pos, not-suc-le-zero, le_of_suc-le-suc, eq-or-lt_of_le, lt_of_not-le, zero-add}
use lib.ListN.{length, get_or, take, length-append, get_or-append, get_or-eq_default}
use lib.Seq.{get_or_at}
use lib.Dec.{eqb, ltb}
use borrow.Author.Tests.{eqb-true, eq-eqb, ne_eqb, ltb-true, lt-ltb}
use Rattle.model.specs.Table.{Row, Table, no_row, IsRow}
use Rattle.model.specs.Count.{sum, product, row_counts, weight, state_counts, Counts, grow, count, total, largest, row_longest, state_longest, longest}
use Rattle.model.proofs.Choice.{and_true}
use Rattle.model.proofs.Good.{AllBelow, Ordered}

-- ---- entries

-- inside a list the default does not matter
pub get_d_any : {A : Type 0} (xs : List A) (i : ℕ) (d e : A) → i < length xs → get_or xs i d ≡ get_or xs i e
get_d_any [] i d e h = absurd (not-suc-le-zero h)
get_d_any (x ∷ xs) zero d e h = refl
get_d_any (x ∷ xs) (suc i) d e h = get_d_any xs i d e (le_of_suc-le-suc h)

pub get_d_map : {A B : Type 0} (f : A → B) (xs : List A) (i : ℕ) (d : A) (e : B) → i < length xs → get_or (map f xs) i e ≡ f (get_or xs i d)
get_d_map f [] i d e h = absurd (not-suc-le-zero h)
get_d_map f (x ∷ xs) zero d e h = refl
get_d_map f (x ∷ xs) (suc i) d e h = get_d_map f xs i d e (le_of_suc-le-suc h)

-- functions that agree on the entries
pub map_agree : {A B : Type 0} (f g : A → B) (d : A) (xs : List A) → ((i : ℕ) → i < length xs → f (get_or xs i d) ≡ g (get_or xs i d)) → map f xs ≡ map g xs
map_agree f g d [] h = refl
map_agree f g d (x ∷ xs) h =
    let e : f x ≡ g x = h 0 (omega arith) in
    let t : map f xs ≡ map g xs = map_agree f g d xs (λ i l. h (suc i) (omega arith)) in
    cc

-- ---- sums

-- one entry more
pub sum_take_suc : (xs : List ℕ) (i : ℕ) → sum (take (suc i) xs) ≡ sum (take i xs) + get_or xs i 0
unfolding sum
sum_take_suc [] zero = omega arith
sum_take_suc [] (suc i) = omega arith
sum_take_suc (x ∷ xs) zero = omega arith
sum_take_suc (x ∷ xs) (suc i) = omega (arith, sum_take_suc xs i)

pub sum_place : (xs : List ℕ) (i : ℕ) → sum (take i xs) + get_or xs i 0 ≤ sum xs
unfolding sum
sum_place [] zero = omega arith
sum_place [] (suc i) = omega arith
sum_place (x ∷ xs) zero = omega arith
sum_place (x ∷ xs) (suc i) = omega (arith, sum_place xs i)

pub sum_take_le : (xs : List ℕ) (i : ℕ) → sum (take i xs) ≤ sum xs
sum_take_le xs i = omega (arith, sum_place xs i)

pub sum_entry : (xs : List ℕ) (i : ℕ) → get_or xs i 0 ≤ sum xs
sum_entry xs i = omega (arith, sum_place xs i)

-- a sum above 0 has an entry above 0
pub sum_pos : (xs : List ℕ) → 0 < sum xs → (i : ℕ) × (i < length xs) × (0 < get_or xs i 0)
unfolding sum
sum_pos [] l = absurd (not-suc-le-zero l)
sum_pos (zero ∷ xs) l = let p = sum_pos xs (omega arith) in (suc p.0, omega arith, p.2)
sum_pos (suc x ∷ xs) l = (0, omega arith, omega arith)

-- ---- products

-- two factors of a product that is above a number are above 0
pub factors_pos : (a b h : ℕ) → h < a * b → (0 < a) × (0 < b)
factors_pos zero b h l = (omega arith, omega arith)
factors_pos (suc a) zero h l = (omega arith, omega arith)
factors_pos (suc a) (suc b) h l = (omega arith, omega arith)

-- ---- the largest

-- numbers above 0 have a product above 0
pub factors_some : (c : ℕ → ℕ) (xs : List ℕ) → ((j : ℕ) → j < length xs → 0 < c (get_or xs j 0)) → 0 < product (map c xs)
unfolding product
factors_some c [] h = omega arith
factors_some c (x ∷ xs) h = mul-pos (h 0 (omega arith)) (factors_some c xs (λ j l. h (suc j) (omega arith)))

pub largest_take_suc : (xs : List ℕ) (i : ℕ) → largest (take (suc i) xs) ≡ max (largest (take i xs)) (get_or xs i 0)
unfolding largest
largest_take_suc [] zero = omega arith
largest_take_suc [] (suc i) = omega arith
largest_take_suc (x ∷ xs) zero = omega arith
largest_take_suc (x ∷ xs) (suc i) = omega (arith, largest_take_suc xs i)

pub largest_entry : (xs : List ℕ) (i : ℕ) → get_or xs i 0 ≤ largest xs
unfolding largest
largest_entry [] i = omega arith
largest_entry (x ∷ xs) zero = omega arith
largest_entry (x ∷ xs) (suc i) = omega (arith, largest_entry xs i)

-- a largest above 0 is an entry
pub largest_at : (xs : List ℕ) → 0 < largest xs → (i : ℕ) × (i < length xs) × (get_or xs i 0 ≡ largest xs)
unfolding largest
largest_at [] l = absurd (not-suc-le-zero l)
largest_at (x ∷ xs) l = go (dec_le (largest xs) x) (largest_at xs)
  where
    go : Dec (largest xs ≤ x) → (0 < largest xs → (i : ℕ) × (i < length xs) × (get_or xs i 0 ≡ largest xs))
        → (i : ℕ) × (i < suc (length xs)) × (get_or (x ∷ xs) i 0 ≡ max x (largest xs))
    go (yes h) ih = (0, omega arith, omega arith)
    go (no h) ih = let m : x < largest xs = lt_of_not-le h in let p = ih (omega arith) in (suc p.0, omega arith, omega (arith, p.2))

-- ---- lists grown state by state

module _ (F : (ℕ → ℕ) → ℕ → ℕ) where
  pub grow_length : (n : ℕ) → length (grow F n) ≡ n
  unfolding grow
  grow_length zero = refl
  grow_length (suc n) = simp length-append (omega (arith, grow_length n))

  pub grow_step : (n q : ℕ) → q < n → get_or (grow F (suc n)) q 0 ≡ get_or (grow F n) q 0
  unfolding grow
  grow_step n q l = get_or-append (grow F n) _ 0 q (rw (grow_length n) l)

  pub grow_last : (n : ℕ) → get_or (grow F (suc n)) n 0 ≡ F (λ a. get_or (grow F n) a 0) n
  unfolding grow
  grow_last n = get_or_at (grow F n) _ [] 0 n (grow_length n)

  -- what is found stays
  pub grow_stays : (n m q : ℕ) → q < n → n ≤ m → get_or (grow F m) q 0 ≡ get_or (grow F n) q 0
  grow_stays n zero q l h = absurd (omega arith)
  grow_stays n (suc m) q l h = go (eq-or-lt_of_le h) (grow_stays n m q l)
    where
      go : (n ≡ suc m) ⊎ (n < suc m) → (n ≤ m → get_or (grow F m) q 0 ≡ get_or (grow F n) q 0) → get_or (grow F (suc m)) q 0 ≡ get_or (grow F n) q 0
      go (inl e) ih = rw e
      go (inr k) ih = grow_step m q (omega arith) ∙ ih (omega arith)

  -- where F looks only below a state, each entry is F of the entries
  pub grow_eqn : ((c d : ℕ → ℕ) (q : ℕ) → ((a : ℕ) → a < q → c a ≡ d a) → F c q ≡ F d q)
      → (n q : ℕ) → q < n → get_or (grow F n) q 0 ≡ F (λ a. get_or (grow F n) a 0) q
  grow_eqn local n q l = grow_stays (suc q) n q (omega arith) l ∙ grow_last q ∙ local _ _ q (λ a la. sym (grow_stays q n a la (omega arith)))

-- ---- one state: what it has depends only on the states below it

pub map_below : (c d : ℕ → ℕ) (q : ℕ) (xs : List ℕ) → ((a : ℕ) → a < q → c a ≡ d a) → AllBelow q xs → map c xs ≡ map d xs
map_below c d q xs e h = map_agree c d 0 xs (λ i l. e (get_or xs i 0) (h i l))

pub row_counts_local : (c d : ℕ → ℕ) (q : ℕ) (r : Row) → ((a : ℕ) → a < q → c a ≡ d a) → AllBelow q r.args → row_counts c r ≡ row_counts d r
row_counts_local c d q r e h = ap product (map_below c d q r.args e h)

pub weight_local : (c d : ℕ → ℕ) (q : ℕ) (r : Row) → ((a : ℕ) → a < q → c a ≡ d a) → AllBelow r.target r.args → weight c q r ≡ weight d q r
unfolding weight
weight_local c d q r e h = go (eqb r.target q) (eqb-true r.target q)
  where
    go : (b : Bool) → (b ≡ true → r.target ≡ q) → (if b then row_counts c r else 0) ≡ (if b then row_counts d r else 0)
    go true t = row_counts_local c d q r e (λ i l. rw (t refl) at (h i l))
    go false t = refl

pub state_counts_local : (rows : List Row) → Ordered rows → (c d : ℕ → ℕ) (q : ℕ) → ((a : ℕ) → a < q → c a ≡ d a) → state_counts rows c q ≡ state_counts rows d q
unfolding state_counts
state_counts_local rows o c d q e = ap sum (map_agree (weight c q) (weight d q) no_row rows (λ i l. weight_local c d q (get_or rows i no_row) e (o i l)))

pub row_longest_local : (c d l m : ℕ → ℕ) (q : ℕ) (r : Row) → ((a : ℕ) → a < q → c a ≡ d a) → ((a : ℕ) → a < q → l a ≡ m a)
    → AllBelow r.target r.args → row_longest c l q r ≡ row_longest d m q r
unfolding row_longest
row_longest_local c d l m q r e f h = go (eqb r.target q) (eqb-true r.target q)
  where
    go : (b : Bool) → (b ≡ true → r.target ≡ q)
        → (if b && ltb 0 (row_counts c r) then 2 + sum (map l r.args) else 0) ≡ (if b && ltb 0 (row_counts d r) then 2 + sum (map m r.args) else 0)
    go true t =
        let y : AllBelow q r.args = λ i k. rw (t refl) at (h i k) in
        rw (row_counts_local c d q r e y, map_below l m q r.args f y)
    go false t = refl

pub state_longest_local : (rows : List Row) → Ordered rows → (c d l m : ℕ → ℕ) (q : ℕ) → ((a : ℕ) → a < q → c a ≡ d a) → ((a : ℕ) → a < q → l a ≡ m a)
    → state_longest rows c l q ≡ state_longest rows d m q
unfolding state_longest
state_longest_local rows o c d l m q e f =
    ap largest (map_agree (row_longest c l q) (row_longest d m q) no_row rows (λ i k. row_longest_local c d l m q (get_or rows i no_row) e f (o i k)))

-- ---- one row among the others

-- a row adds its count to its target
pub weight_at : (c : ℕ → ℕ) {rows : List Row} {i s q : ℕ} {xs : List ℕ} → IsRow rows i s q xs → get_or (map (weight c q) rows) i 0 ≡ product (map c xs)
unfolding weight
weight_at c {rows} {i} {s} {q} {xs} w = rw (get_d_map (weight c q) rows i no_row 0 w.inside, w.is, eq-eqb q q refl)

pub row_counts_le : (c : ℕ → ℕ) {rows : List Row} {i s q : ℕ} {xs : List ℕ} → IsRow rows i s q xs → product (map c xs) ≤ state_counts rows c q
unfolding state_counts
row_counts_le c {rows} {i} {q} w = omega (arith, sum_entry (map (weight c q) rows) i, weight_at c w)

-- a row that adds to a state has it as target
pub weight_pos : (c : ℕ → ℕ) (rows : List Row) (q h i : ℕ) → i < length rows → h < get_or (map (weight c q) rows) i 0
    → ((get_or rows i no_row).target ≡ q) × (h < row_counts c (get_or rows i no_row))
unfolding weight
weight_pos c rows q h i l p =
    go (eqb (get_or rows i no_row).target q) (eqb-true (get_or rows i no_row).target q) (rw (get_d_map (weight c q) rows i no_row 0 l) at p)
  where
    go : (b : Bool) → (b ≡ true → (get_or rows i no_row).target ≡ q) → h < (if b then row_counts c (get_or rows i no_row) else 0)
        → ((get_or rows i no_row).target ≡ q) × (h < row_counts c (get_or rows i no_row))
    go true e m = (e refl, m)
    go false e m = absurd (not-suc-le-zero m)

-- a row with trees gives its target a tree of this many entries
pub row_longest_at : (c l : ℕ → ℕ) {rows : List Row} {i s q : ℕ} {xs : List ℕ} → IsRow rows i s q xs → 0 < product (map c xs)
    → get_or (map (row_longest c l q) rows) i 0 ≡ 2 + sum (map l xs)
unfolding row_longest
row_longest_at c l {rows} {i} {s} {q} {xs} w h =
    rw (get_d_map (row_longest c l q) rows i no_row 0 w.inside, w.is, eq-eqb q q refl, lt-ltb 0 (product (map c xs)) h)

pub row_longest_pos : (c l : ℕ → ℕ) (rows : List Row) (q i : ℕ) → i < length rows → 0 < get_or (map (row_longest c l q) rows) i 0
    → ((get_or rows i no_row).target ≡ q) × (0 < row_counts c (get_or rows i no_row)) × (get_or (map (row_longest c l q) rows) i 0 ≡ 2 + sum (map l (get_or rows i no_row).args))
unfolding row_longest
row_longest_pos c l rows q i h p =
    let e = get_d_map (row_longest c l q) rows i no_row 0 h in
    rw e (go (eqb r.target q && ltb 0 (row_counts c r)) (and_true (eqb r.target q) (ltb 0 (row_counts c r))) (rw e at p))
  where
    r : Row
    r = get_or rows i no_row

    go : (b : Bool) → (b ≡ true → (eqb r.target q ≡ true) × (ltb 0 (row_counts c r) ≡ true)) → 0 < (if b then 2 + sum (map l r.args) else 0)
        → (r.target ≡ q) × (0 < row_counts c r) × ((if b then 2 + sum (map l r.args) else 0) ≡ 2 + sum (map l r.args))
    go true t p = (eqb-true r.target q (t refl).0, ltb-true 0 (row_counts c r) (t refl).1, refl)
    go false t p = absurd (not-suc-le-zero p)

-- ---- counts and longest trees of a table

pub count_eqn : (T : Table) → Ordered T.rows → (q : ℕ) → q < T.states → count T q ≡ state_counts T.rows (count T) q
unfolding count
count_eqn T o q l = grow_eqn (state_counts T.rows) (state_counts_local T.rows o) T.states q l

pub count_counts : (T : Table) → Ordered T.rows → Counts T (count T)
count_counts T o = record { state = count_eqn T o }

pub longest_eqn : (T : Table) → Ordered T.rows → (q : ℕ) → q < T.states → longest T q ≡ state_longest T.rows (count T) (longest T) q
unfolding longest
longest_eqn T o q l =
    grow_eqn (state_longest T.rows (count T)) (λ c d a e. state_longest_local T.rows o (count T) (count T) c d a (λ b lb. refl) e) T.states q l

-- what is no state counts 0, and has no longest tree
pub count_beyond : (T : Table) (q : ℕ) → T.states ≤ q → count T q ≡ 0
unfolding count
count_beyond T q l = get_or-eq_default (grow (state_counts T.rows) T.states) 0 (omega (arith, grow_length (state_counts T.rows) T.states))

pub longest_beyond : (T : Table) (q : ℕ) → T.states ≤ q → longest T q ≡ 0
unfolding longest
longest_beyond T q l =
    get_or-eq_default (grow (state_longest T.rows (count T)) T.states) 0 (omega (arith, grow_length (state_longest T.rows (count T)) T.states))

-- a function that satisfies the equations is the count
pub counts_unique : (T : Table) → Ordered T.rows → (c d : ℕ → ℕ) → Counts T c → Counts T d → (q : ℕ) → q < T.states → c q ≡ d q
counts_unique T o c d e f q l = go (suc q) q (omega arith) l
  where
    go : (n q : ℕ) → q < n → q < T.states → c q ≡ d q
    go zero q h l = absurd (not-suc-le-zero h)
    go (suc n) q h l = e.state q l ∙ state_counts_local T.rows o c d q (λ a la. go n a (omega arith) (omega arith)) ∙ sym (f.state q l)

-- "A state without rows counts 0"
pub rowless_counts : (rows : List Row) (c : ℕ → ℕ) (q : ℕ) → ((i : ℕ) → i < length rows → (get_or rows i no_row).target ≡ q → ⊥) → state_counts rows c q ≡ 0
unfolding state_counts sum weight
rowless_counts [] c q h = refl
rowless_counts (r ∷ rows) c q h = rw (ne_eqb r.target q (h 0 (omega arith)), zero-add) (rowless_counts rows c q (λ i l. h (suc i) (omega arith)))

pub total_is : (T : Table) → total T ≡ sum (map (count T) T.accepting)
unfolding total
total_is T = refl
