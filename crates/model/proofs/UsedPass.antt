-- The used states found in one pass over the rows, from the highest target down: what a loop over the states holds.
use Prim.Native.Nat.{ℕ, zero, suc, ◌≤◌, ◌<◌}
use mathlib.Core.Path.{◌≡◌, refl, ap, ◌∙◌}
use mathlib.Core.Bool.{Bool, true, false, ◌&&◌, ◌||◌}
use native.Mathlib.Omega.{arith}
use lib.ListN.{length, get_or}
use lib.Dec.{eqb, ltb, leb}
use borrow.Author.Tests.{leb-true, le-leb, lt-leb, eq-eqb, ne_eqb}
use Rattle.model.specs.Choice.{any_below}
use Rattle.model.specs.Table.{Row, Table, no_row}
use Rattle.model.specs.Count.{row_counts}
use Rattle.model.specs.Reach.{is_among}
use Rattle.model.specs.Used.{used_by, state_used}
use Rattle.model.proofs.Good.{Ordered}
use Rattle.model.proofs.Choice.{any_none}
use Rattle.model.proofs.Values.{Three, lt, eq, gt, three}
use Rattle.model.proofs.Used.{any_same, among_place}

-- row i
abbrev at : Table → ℕ → Row
at T i = get_or T.rows i no_row

-- the state is an argument of row i, which counts more than 0 and has the target m
abbrev pub named_by : Table → (c : ℕ → ℕ) → (m q i : ℕ) → Bool
named_by T c m q i = eqb (at T i).target m && (is_among q (at T i).args && ltb 0 (row_counts c (at T i)))

-- what the accepting list, and the rows with targets from m on, say of a state
unfoldable pub used_since : Table → (c : ℕ → ℕ) (u : ℕ → Bool) → (m q : ℕ) → Bool
used_since T c u m q =
    (ltb 0 (c q) && is_among q T.accepting) || any_below (length T.rows) (λ i. leb m (at T i).target && used_by c u q (at T i))

-- either of two tests
any_or : (n : ℕ) (p q : ℕ → Bool) → any_below n (λ i. p i || q i) ≡ (any_below n p || any_below n q)
unfolding any_below
any_or zero p q = refl
any_or (suc n) p q = ap (λ (b : Bool). b || (p n || q n)) (any_or n p q) ∙ swap (any_below n p) (any_below n q) (p n) (q n)
  where
    swap : (a b c d : Bool) → ((a || b) || (c || d)) ≡ ((a || c) || (b || d))
    swap true b c d = refl
    swap false true true d = refl
    swap false true false d = refl
    swap false false c d = refl

any_and : (n : ℕ) (b : Bool) (p : ℕ → Bool) → any_below n (λ i. b && p i) ≡ (b && any_below n p)
any_and n true p = refl
any_and n false p = any_none n (λ i. false) (λ i l. refl)

-- a target from m on is m or higher
target_next : (u : ℕ → Bool) (m t : ℕ) (a k : Bool)
    → (leb m t && (a && (k && u t))) ≡ ((leb (suc m) t && (a && (k && u t))) || (u m && (eqb t m && (a && k))))
target_next u m t a k = go (three t m)
  where
    none_or : (x y : Bool) → x ≡ (x || (y && false))
    none_or true y = refl
    none_or false true = refl
    none_or false false = refl

    turn : (x y z : Bool) → (x && (y && z)) ≡ (z && (x && y))
    turn true true true = refl
    turn true true false = refl
    turn true false true = refl
    turn true false false = refl
    turn false y true = refl
    turn false y false = refl

    go : Three (t < m) (t ≡ m) (m < t) → (leb m t && (a && (k && u t))) ≡ ((leb (suc m) t && (a && (k && u t))) || (u m && (eqb t m && (a && k))))
    go (lt l) = rw (lt-leb m t l, lt-leb (suc m) t (omega arith), ne_eqb t m (λ e. omega arith)) (none_or false (u m))
    go (eq e) = rw (e, le-leb m m (omega arith), lt-leb (suc m) m (omega arith), eq-eqb m m refl) (turn a k (u m))
    go (gt l) = rw (le-leb m t (omega arith), le-leb (suc m) t l, ne_eqb t m (λ e. omega arith)) (none_or (a && (k && u t)) (u m))

-- only the marks of the targets from m on are looked at
pub since_local : (T : Table) (c : ℕ → ℕ) (u v : ℕ → Bool) (m q : ℕ) → ((a : ℕ) → m ≤ a → u a ≡ v a) → used_since T c u m q ≡ used_since T c v m q
unfolding used_since
since_local T c u v m q h =
    ap (λ (b : Bool). (ltb 0 (c q) && is_among q T.accepting) || b)
    (any_same (length T.rows) (λ i. leb m (at T i).target && used_by c u q (at T i)) (λ i. leb m (at T i).target && used_by c v q (at T i)) (λ i l. go i (leb m (at T i).target) (leb-true m (at T i).target)))
  where
    go : (i : ℕ) (b : Bool) → (b ≡ true → m ≤ (at T i).target) → (b && used_by c u q (at T i)) ≡ (b && used_by c v q (at T i))
    go i true y = ap (λ (x : Bool). is_among q (at T i).args && (ltb 0 (row_counts c (at T i)) && x)) (h (at T i).target (y refl))
    go i false y = refl

module _ (T : Table) (c : ℕ → ℕ) (u : ℕ → Bool) where
  -- before the first row: the listed states that have trees
  pub since_listed : ((i : ℕ) → i < length T.rows → (get_or T.rows i no_row).target < T.states) → (q : ℕ) → used_since T c u T.states q ≡ (ltb 0 (c q) && is_among q T.accepting)
  unfolding used_since
  since_listed targets q =
      ap (λ (b : Bool). (ltb 0 (c q) && is_among q T.accepting) || b)
      (any_none (length T.rows) (λ i. leb T.states (at T i).target && used_by c u q (at T i))
      (λ i l. ap (λ (b : Bool). b && used_by c u q (at T i)) (lt-leb T.states (at T i).target (targets i l))))
      ∙ last (ltb 0 (c q) && is_among q T.accepting)
    where
      last : (b : Bool) → (b || false) ≡ b
      last true = refl
      last false = refl

  -- all rows that name a state have higher targets: from there down nothing more is said of it
  pub since_own : Ordered T.rows → (m q : ℕ) → m ≤ suc q → used_since T c u m q ≡ state_used T c u q
  unfolding used_since state_used
  since_own ordered m q h =
      ap (λ (b : Bool). (ltb 0 (c q) && is_among q T.accepting) || b)
      (any_same (length T.rows) (λ i. leb m (at T i).target && used_by c u q (at T i)) (λ i. used_by c u q (at T i)) (λ i l. here i l (is_among q (at T i).args) (among_place q (at T i).args)))
    where
      here : (i : ℕ) → i < length T.rows → (b : Bool) → (b ≡ true → (j : ℕ) × (j < length (at T i).args) × (get_or (at T i).args j 0 ≡ q))
          → (leb m (at T i).target && (b && (ltb 0 (row_counts c (at T i)) && u (at T i).target))) ≡ (b && (ltb 0 (row_counts c (at T i)) && u (at T i).target))
      here i l true y =
          let p = y refl in
          let k : m ≤ (at T i).target = omega (arith, ordered i l p.0 p.1, p.2) in
          ap (λ (b : Bool). b && (ltb 0 (row_counts c (at T i)) && u (at T i).target)) (le-leb m (at T i).target k)
      here i l false y = never (leb m (at T i).target)
        where
          never : (b : Bool) → (b && false) ≡ false
          never true = refl
          never false = refl

  -- one target more: where it is unused nothing changes, where it is used the arguments of its rows that count more than 0 are used too
  pub since_next : (m q : ℕ) → used_since T c u m q ≡ (used_since T c u (suc m) q || (u m && any_below (length T.rows) (named_by T c m q)))
  unfolding used_since
  since_next m q =
      ap (λ (b : Bool). first || b)
      (any_same (length T.rows) (λ i. leb m (at T i).target && used_by c u q (at T i)) (λ i. (leb (suc m) (at T i).target && used_by c u q (at T i)) || (u m && named_by T c m q i)) (λ i l. row_next i)
      ∙ any_or (length T.rows) (λ i. leb (suc m) (at T i).target && used_by c u q (at T i)) (λ i. u m && named_by T c m q i)
      ∙ ap (λ (b : Bool). any_below (length T.rows) (λ i. leb (suc m) (at T i).target && used_by c u q (at T i)) || b) (any_and (length T.rows) (u m) (named_by T c m q)))
      ∙ or_assoc first (any_below (length T.rows) (λ i. leb (suc m) (at T i).target && used_by c u q (at T i))) (u m && any_below (length T.rows) (named_by T c m q))
    where
      first : Bool
      first = ltb 0 (c q) && is_among q T.accepting

      or_assoc : (x y z : Bool) → (x || (y || z)) ≡ ((x || y) || z)
      or_assoc true y z = refl
      or_assoc false y z = refl

      row_next : (i : ℕ) → (leb m (at T i).target && used_by c u q (at T i)) ≡ ((leb (suc m) (at T i).target && used_by c u q (at T i)) || (u m && named_by T c m q i))
      row_next i = target_next u m (at T i).target (is_among q (at T i).args) (ltb 0 (row_counts c (at T i)))
