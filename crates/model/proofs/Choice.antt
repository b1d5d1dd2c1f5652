-- Laws of choosing: by a test, by the first that is faulty, and of some number below another having a property.
use Rattle.std.specs.Prelude.{if◌then◌else◌}
use Prim.Native.Nat.{ℕ, zero, suc, ◌+◌, ◌<◌, ◌≤◌}
use mathlib.Core.Path.{◌≡◌, refl, sym, ap, ◌∙◌}
use mathlib.Core.Bool.{Bool, true, false, ◌&&◌, ◌||◌}
use mathlib.Core.Logic.{◌⊎◌, inl, inr}
use native.Mathlib.Omega.{arith}
use native.Mathlib.Nat.{not-suc-le-zero, le_of_suc-le-suc, eq-or-lt_of_le, eq-zero-or-pos}
use lib.Dec.{ltb}
use borrow.Author.Tests.{ltb-true, ltb-false}
use Rattle.model.specs.Answers.{Outcome, result, refused}
use Rattle.model.specs.Choice.{refuse_on, first_faulty, any_below}

pub if_yes : {A : Type 0} (b : Bool) (x y : A) → b ≡ true → (if b then x else y) ≡ x
if_yes b x y e = rw e

pub if_no : {A : Type 0} (b : Bool) (x y : A) → b ≡ false → (if b then x else y) ≡ y
if_no b x y e = rw e

-- a result behind a refusal: the refusal's test does not hold
pub if_result : (b : Bool) (k p t : ℕ) (o : Outcome) → (if b then refused k p else o) ≡ result t → (b ≡ false) × (o ≡ result t)
if_result true k p t o e = let z : ◌≡◌ {A = ℕ} 0 1 = cc in absurd (omega arith)
if_result false k p t o e = (refl, e)

-- a result before a refusal: the test holds
pub else_result : (b : Bool) (k p t : ℕ) (o : Outcome) → (if b then o else refused k p) ≡ result t → (b ≡ true) × (o ≡ result t)
else_result true k p t o e = (refl, e)
else_result false k p t o e = let z : ◌≡◌ {A = ℕ} 0 1 = cc in absurd (omega arith)

-- the same refusal: the same number and the same place
pub refused_number : {a b c d : ℕ} → refused a b ≡ refused c d → a ≡ c
refused_number e = cc

pub refused_place : {a b c d : ℕ} → refused a b ≡ refused c d → b ≡ d
refused_place e = cc

-- a refusal behind a test: the test holds, and it is that refusal; or what follows is the refusal
pub if_refused : (b : Bool) (m q k p : ℕ) (o : Outcome) → (if b then refused m q else o) ≡ refused k p
    → ((b ≡ true) × (k ≡ m) × (p ≡ q)) ⊎ ((b ≡ false) × (o ≡ refused k p))
if_refused true m q k p o e = inl (refl, sym (refused_number e), sym (refused_place e))
if_refused false m q k p o e = inr (refl, e)

-- an answer that is no refusal, and no result but one: it is that result
pub result_only : (o : Outcome) (n : ℕ) → ((t : ℕ) → o ≡ result t → t ≡ n) → ((k p : ℕ) → o ≡ refused k p → ⊥) → o ≡ result n
result_only (result t) n f h = ap result (f t refl)
result_only (refused k p) n f h = absurd (h k p refl)

-- an answer that is no result, and no refusal but one: it is that refusal
pub refused_only : (o : Outcome) (k p : ℕ) → ((t : ℕ) → o ≡ result t → ⊥) → ((m q : ℕ) → o ≡ refused m q → (m ≡ k) × (q ≡ p)) → o ≡ refused k p
refused_only (result t) k p h f = absurd (h t refl)
refused_only (refused m q) k p h f = let e = f m q refl in rw (e.0, e.1)

-- grounds that each give their refusal: there is one at most
pub ground_alone : (R : ℕ → ℕ → Type 0) (o : Outcome) → ((k p : ℕ) → R k p → o ≡ refused k p) → (k p m q : ℕ) → R k p → R m q → (k ≡ m) × (p ≡ q)
ground_alone R o h k p m q f g = let e = sym (h k p f) ∙ h m q g in (refused_number e, refused_place e)

-- two places, neither before the other
pub one_place : (p q : ℕ) → (p < q → ⊥) → (q < p → ⊥) → p ≡ q
one_place p q f g = go (ltb p q) (ltb q p) (ltb-true p q) (ltb-true q p) (ltb-false p q) (ltb-false q p)
  where
    go : (a b : Bool) → (a ≡ true → p < q) → (b ≡ true → q < p) → (a ≡ false → q ≤ p) → (b ≡ false → p ≤ q) → p ≡ q
    go true b h k m n = absurd (f (h refl))
    go false true h k m n = absurd (g (k refl))
    go false false h k m n = omega (arith, m refl, n refl)

-- the refusal behind a test that holds
pub if_place : (b : Bool) (m q p : ℕ) (o : Outcome) → b ≡ true → p ≡ q → (if b then refused m q else o) ≡ refused m p
if_place b m q p o e d = rw (e, d)

-- a ground that holds: its test does, and it has its number
pub if_some : (b : Bool) (n : ℕ) → 0 < (if b then n else 0) → (b ≡ true) × ((if b then n else 0) ≡ n)
if_some true n p = (refl, refl)
if_some false n p = absurd (not-suc-le-zero p)

-- no ground where there is a ground first: its test does not hold
pub if_zero : (b : Bool) (k n : ℕ) → (if b then suc k else n) ≡ 0 → (b ≡ false) × (n ≡ 0)
if_zero true k n e = absurd (omega arith)
if_zero false k n e = (refl, e)

-- tests joined
pub or_false : (a b : Bool) → (a || b) ≡ false → (a ≡ false) × (b ≡ false)
or_false true b e = let z : ◌≡◌ {A = ℕ} 0 1 = cc in absurd (omega arith)
or_false false b e = (refl, e)

pub or_none : (a b : Bool) → a ≡ false → b ≡ false → (a || b) ≡ false
or_none a b e f = rw (e, f)

pub or_left : (a b : Bool) → a ≡ true → (a || b) ≡ true
or_left a b e = rw e

pub or_right : (a b : Bool) → b ≡ true → (a || b) ≡ true
or_right true b e = refl
or_right false b e = e

pub or_true : (a b : Bool) → (a || b) ≡ true → (a ≡ true) ⊎ (b ≡ true)
or_true true b e = inl refl
or_true false b e = inr e

pub and_true : (a b : Bool) → (a && b) ≡ true → (a ≡ true) × (b ≡ true)
and_true true b e = (refl, e)
and_true false b e = let z : ◌≡◌ {A = ℕ} 0 1 = cc in absurd (omega arith)

pub and_both : (a b : Bool) → a ≡ true → b ≡ true → (a && b) ≡ true
and_both a b e f = rw (e, f)

pub not_both : (b : Bool) → b ≡ true → b ≡ false → ⊥
not_both b e f = let z : ◌≡◌ {A = ℕ} 0 1 = cc in absurd (omega arith)

pub is_false : (b : Bool) → (b ≡ true → ⊥) → b ≡ false
is_false true h = absurd (h refl)
is_false false h = refl

-- a ground refuses, 0 does not
pub refuse_none : (k p : ℕ) (o : Outcome) → k ≡ 0 → refuse_on k p o ≡ o
unfolding refuse_on
refuse_none k p o e = rw e

pub refuse_some : (k p : ℕ) (o : Outcome) → 0 < k → refuse_on k p o ≡ refused k p
unfolding refuse_on
refuse_some zero p o l = absurd (not-suc-le-zero l)
refuse_some (suc k) p o l = refl

-- where none is faulty, what follows decides
pub no_fault : (n : ℕ) (g : ℕ → ℕ) (o : Outcome) → ((i : ℕ) → i < n → g i ≡ 0) → first_faulty n g o ≡ o
unfolding first_faulty
no_fault zero g o h = refl
no_fault (suc n) g o h = no_fault n g (refuse_on (g n) n o) (λ i l. h i (omega arith)) ∙ refuse_none (g n) n o (h n (omega arith))

-- the first faulty one decides
pub first_fault : (n i : ℕ) (g : ℕ → ℕ) (o : Outcome) → i < n → ((j : ℕ) → j < i → g j ≡ 0) → 0 < g i → first_faulty n g o ≡ refused (g i) i
unfolding first_faulty
first_fault zero i g o l h p = absurd (not-suc-le-zero l)
first_fault (suc n) i g o l h p = go (eq-or-lt_of_le (le_of_suc-le-suc l)) (λ m. first_fault n i g (refuse_on (g n) n o) m h p)
  where
    go : (i ≡ n) ⊎ (i < n) → (i < n → first_faulty n g (refuse_on (g n) n o) ≡ refused (g i) i) → first_faulty n g (refuse_on (g n) n o) ≡ refused (g i) i
    go (inl e) ih = rw (← e) (no_fault i g (refuse_on (g i) i o) h ∙ refuse_some (g i) i o p)
    go (inr m) ih = ih m

-- by its ground, where that is known
pub fault_refused : (n i k : ℕ) (g : ℕ → ℕ) (o : Outcome) → i < n → ((j : ℕ) → j < i → g j ≡ 0) → g i ≡ k → 0 < k → refused k i ≡ first_faulty n g o
fault_refused n i k g o l h e p = ap (λ (v : ℕ). refused v i) (sym e) ∙ sym (first_fault n i g o l h (rw e p))

-- no ground below i and none at i: none below i + 1
pub none_more : (i : ℕ) (g : ℕ → ℕ) → ((j : ℕ) → j < i → g j ≡ 0) → g i ≡ 0 → (j : ℕ) → j < i + 1 → g j ≡ 0
none_more i g h e j l = go (eq-or-lt_of_le (let le : j ≤ i = omega arith in le))
  where
    go : (j ≡ i) ⊎ (j < i) → g j ≡ 0
    go (inl d) = rw d e
    go (inr m) = h j m

-- the first of n numbers that has a ground, or none has
pub data First (n : ℕ) (g : ℕ → ℕ) : Type 0 where
  nowhere : ((i : ℕ) → i < n → g i ≡ 0) → First n g
  first : (i : ℕ) → i < n → ((j : ℕ) → j < i → g j ≡ 0) → 0 < g i → First n g

pub first_of : (n : ℕ) (g : ℕ → ℕ) → First n g
first_of zero g = nowhere (λ i l. absurd (not-suc-le-zero l))
first_of (suc n) g = go (first_of n g) (eq-zero-or-pos (g n))
  where
    go : First n g → (g n ≡ 0) ⊎ (0 < g n) → First (suc n) g
    go (first i l h p) d = first i (omega arith) h p
    go (nowhere h) (inr p) = first n (omega arith) h p
    go (nowhere h) (inl e) = nowhere (λ i l. last i (eq-or-lt_of_le (le_of_suc-le-suc l)))
      where
        last : (i : ℕ) → (i ≡ n) ⊎ (i < n) → g i ≡ 0
        last i (inl d) = rw d e
        last i (inr m) = h i m

-- either none is faulty and what follows decides, or the first faulty one does
pub data Decided (n : ℕ) (g : ℕ → ℕ) (o r : Outcome) : Type 0 where
  clear : ((i : ℕ) → i < n → g i ≡ 0) → r ≡ o → Decided n g o r
  faulty : (i : ℕ) → i < n → ((j : ℕ) → j < i → g j ≡ 0) → 0 < g i → r ≡ refused (g i) i → Decided n g o r

pub decided : (n : ℕ) (g : ℕ → ℕ) (o : Outcome) → Decided n g o (first_faulty n g o)
decided n g o = go (first_of n g)
  where
    go : First n g → Decided n g o (first_faulty n g o)
    go (nowhere h) = clear h (no_fault n g o h)
    go (first i l h p) = faulty i l h p (first_fault n i g o l h p)

-- a result behind things taken in turn: none of them is faulty
pub no_fault_back : (n t : ℕ) (g : ℕ → ℕ) (o : Outcome) → first_faulty n g o ≡ result t → ((i : ℕ) → i < n → g i ≡ 0) × (o ≡ result t)
no_fault_back n t g o e = go (decided n g o)
  where
    go : Decided n g o (first_faulty n g o) → ((i : ℕ) → i < n → g i ≡ 0) × (o ≡ result t)
    go (clear h d) = (h, sym d ∙ e)
    go (faulty i l h p d) = let z : ◌≡◌ {A = ℕ} 0 1 = cc in absurd (omega arith)

-- some number below n has the property
pub any_true : (n i : ℕ) (p : ℕ → Bool) → i < n → p i ≡ true → any_below n p ≡ true
unfolding any_below
any_true zero i p l e = absurd (not-suc-le-zero l)
any_true (suc n) i p l e = go (eq-or-lt_of_le (le_of_suc-le-suc l)) (λ m. any_true n i p m e)
  where
    go : (i ≡ n) ⊎ (i < n) → (i < n → any_below n p ≡ true) → (any_below n p || p n) ≡ true
    go (inl d) ih = or_right (any_below n p) (p n) (rw d at e)
    go (inr m) ih = or_left (any_below n p) (p n) (ih m)

pub any_false : (n : ℕ) (p : ℕ → Bool) → any_below n p ≡ false → (i : ℕ) → i < n → p i ≡ false
any_false n p e i l = is_false (p i) (λ y. not_both (any_below n p) (any_true n i p l y) e)

pub any_none : (n : ℕ) (p : ℕ → Bool) → ((i : ℕ) → i < n → p i ≡ false) → any_below n p ≡ false
unfolding any_below
any_none zero p h = refl
any_none (suc n) p h = or_none (any_below n p) (p n) (any_none n p (λ i l. h i (omega arith))) (h n (omega arith))

pub any_some : (n : ℕ) (p : ℕ → Bool) → any_below n p ≡ true → (i : ℕ) × (i < n) × (p i ≡ true)
unfolding any_below
any_some zero p e = let z : ◌≡◌ {A = ℕ} 0 1 = cc in absurd (omega arith)
any_some (suc n) p e = go (or_true (any_below n p) (p n) e) (any_some n p)
  where
    go : (any_below n p ≡ true) ⊎ (p n ≡ true) → (any_below n p ≡ true → (i : ℕ) × (i < n) × (p i ≡ true)) → (i : ℕ) × (i < suc n) × (p i ≡ true)
    go (inl a) ih = let s = ih a in (s.0, omega (arith, s.1), s.2)
    go (inr a) ih = (n, omega arith, a)
