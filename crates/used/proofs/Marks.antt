-- Marking the states that lists and rows name. Assumes nothing.
use Prim.Native.Nat.{ℕ, ◌+◌, ◌*◌, ◌<◌, ◌≤◌}
use mathlib.Core.Path.{◌≡◌, refl, sym, ap, ◌∙◌}
use mathlib.Core.Bool.{Bool, true, false, ◌&&◌, ◌||◌}
use mathlib.Core.List.{List, [], ◌∷◌, map}
use mathlib.Core.Logic.{◌⊎◌, inl, inr}
use Rattle.std.specs.Prelude.{Option, Some, None, MatchOption}
use Rattle.std.specs.Option.{unwrap_or}
use Rattle.std.specs.List.{list_all}
use Rattle.std.proofs.lemmas.Grind.{get_or_default_zero}
use native.Mathlib.Nat.{pos_of_ne-zero, zero-mul, mul-zero, mul-pos, eq-zero-or-pos}
use native.Mathlib.Decide.{dec_le}
use native.Mathlib.Omega.{arith}
use native.Mathlib.Numerals.{add-one}
use lib.ListN.{length, get_or, set, length-set}
use lib.Seq.{get_or-set_same, get_or-set_other}
use lib.Dec.{eqb, ltb}
use borrow.Author.Tests.{eqb-true, eqb-false, lt-ltb, eq-eqb}
use Rattle.model.specs.Choice.{any_below}
use Rattle.model.specs.Count.{product}
use Rattle.model.specs.Reach.{is_among}
use Rattle.model.proofs.Choice.{any_true, any_some}
use Rattle.model.proofs.Counting.{factors_some}
use Rattle.model.proofs.Used.{among_place, place_among}
use Rattle.counts.specs.States.{held}
use Rattle.used.specs.Marked.{is_set, Placed, NoneEmpty, MarkedToo, AllMarked, PassedBy}

-- ---- tests

pub same_test : (a b : Bool) → (a ≡ true → b ≡ true) → (b ≡ true → a ≡ true) → a ≡ b
same_test true b h k = sym (h refl)
same_test false true h k = k refl
same_test false false h k = refl

pub or_none : (b : Bool) → b ≡ (b || false)
or_none true = refl
or_none false = refl

pub or_assoc : (x y z : Bool) → ((x || y) || z) ≡ (x || (y || z))
or_assoc true y z = refl
or_assoc false y z = refl

-- ---- a product above 0

-- what stands in the list is a state
pub item_placed : {n x : ℕ} {xs : List ℕ} → Placed n xs → (k : ℕ) → k < length xs → x ≡ get_or xs k x → x < n
item_placed {n} {x} {xs} p k l e = rw (e ∙ get_or_default_zero xs k x l) (p.placed k l)

-- it is above 0 where each factor is
pub all_counted : (cs args : List ℕ) → list_all (λ a. ltb 0 (held cs a)) args ≡ ltb 0 (product (map (held cs) args))
unfolding product
all_counted cs [] = refl
all_counted cs (a ∷ args) = ap (λ (b : Bool). ltb 0 (held cs a) && b) (all_counted cs args) ∙ go (eq-zero-or-pos (held cs a)) (eq-zero-or-pos (product (map (held cs) args)))
  where
    P : ℕ
    P = product (map (held cs) args)

    go : (held cs a ≡ 0) ⊎ (0 < held cs a) → (P ≡ 0) ⊎ (0 < P) → (ltb 0 (held cs a) && ltb 0 P) ≡ ltb 0 (held cs a * P)
    go (inl z) y = rw (z, zero-mul P)
    go (inr x) (inl z) = rw (z, lt-ltb 0 (held cs a) x, mul-zero (held cs a))
    go (inr x) (inr y) = rw (lt-ltb 0 (held cs a) x, lt-ltb 0 P y, lt-ltb 0 (held cs a * P) (mul-pos x y))

-- ---- the states of a list

-- one of the first i entries is the state
abbrev pub names : List ℕ → (i q : ℕ) → Bool
names xs i q = any_below i (λ j. eqb (get_or xs j 0) q)

names_all : (xs : List ℕ) (i q : ℕ) → i ≤ length xs → length xs ≤ i → names xs i q ≡ is_among q xs
names_all xs i q a b = same_test (names xs i q) (is_among q xs)
    (λ e. let p = any_some i (λ j. eqb (get_or xs j 0) q) e in place_among q p.0 xs (omega (arith, p.1)) (eqb-true (get_or xs p.0 0) q p.2))
    (λ e. let p = among_place q xs e in any_true i p.0 (λ j. eqb (get_or xs j 0) q) (omega (arith, p.1)) (eq-eqb (get_or xs p.0 0) q p.2))

-- any number but 0 is a mark
pub is_marked : {x : ℕ} → (x ≡ 0 → ⊥) → ltb 0 x ≡ true
is_marked {x} n = lt-ltb 0 x (pos_of_ne-zero n)

pub not_marked : {x : ℕ} → x ≡ 0 → ltb 0 x ≡ false
not_marked e = ap (ltb 0) e

pub set_mark : (used : List ℕ) (a q : ℕ) → a < length used → is_set (set used a 1) q ≡ (is_set used q || eqb a q)
set_mark used a q l = go (eqb a q) (eqb-true a q) (eqb-false a q)
  where
    yes_or : (b : Bool) → (b || true) ≡ true
    yes_or true = refl
    yes_or false = refl

    go : (b : Bool) → (b ≡ true → a ≡ q) → (b ≡ false → a ≡ q → ⊥) → is_set (set used a 1) q ≡ (is_set used q || b)
    go true y n = ap (is_set (set used a 1)) (sym (y refl)) ∙ ap (ltb 0) (get_or-set_same used a 1 0 l) ∙ sym (yes_or (is_set used q))
    go false y n = ap (ltb 0) (get_or-set_other used a q 1 0 (λ e. n refl (sym e))) ∙ or_none (is_set used q)

-- ---- the listed states that pass a test, marked in turn

module _ (xs : List ℕ) (t : ℕ → Bool) where
  -- one of the first i entries is the state, and it passes
  abbrev pub picked : (i q : ℕ) → Bool
  picked i q = t q && names xs i q

  pub picks_begin : (used : List ℕ) → MarkedToo (picked 0) used used
  unfolding any_below
  picks_begin used = record { long = refl; each = λ q. or_none (is_set used q) ∙ ap (λ (b : Bool). is_set used q || b) (none (t q)) }
    where
      none : (b : Bool) → false ≡ (b && false)
      none true = refl
      none false = refl

  module _ (old used : List ℕ) (i a : ℕ) (e : a ≡ get_or xs i 0) (m : MarkedToo (picked i) old used) where
    -- the entry passes
    pub picks_go : t a ≡ true → a < length old → MarkedToo (picked (i + 1)) old (set used a 1)
    unfolding any_below
    picks_go y l =
        rw (add-one i)
        (record {
          long = length-set used a 1 ∙ m.long;
          each = λ q.
              set_mark used a q (omega (arith, m.long))
              ∙ ap (λ (b : Bool). b || eqb a q) (m.each q)
              ∙ ap (λ (x : ℕ). (is_set old q || (t q && names xs i q)) || eqb x q) e
              ∙ here q (eqb (get_or xs i 0) q) (eqb-true (get_or xs i 0) q);
        })
      where
        yes : (o x : Bool) → ((o || (true && x)) || true) ≡ (o || (true && (x || true)))
        yes true x = refl
        yes false true = refl
        yes false false = refl

        no : (o x y : Bool) → ((o || (y && x)) || false) ≡ (o || (y && (x || false)))
        no true x y = refl
        no false true true = refl
        no false true false = refl
        no false false true = refl
        no false false false = refl

        here : (q : ℕ) (b : Bool) → (b ≡ true → get_or xs i 0 ≡ q) → ((is_set old q || (t q && names xs i q)) || b) ≡ (is_set old q || (t q && (names xs i q || b)))
        here q false z = no (is_set old q) (names xs i q) (t q)
        here q true z = let n : t q ≡ true = ap t (sym (e ∙ z refl)) ∙ y in rw n (yes (is_set old q) (names xs i q))

    -- it does not
    pub picks_skip : t a ≡ false → MarkedToo (picked (i + 1)) old used
    unfolding any_below
    picks_skip n =
        rw (add-one i) (record { long = m.long; each = λ q. m.each q ∙ ap (λ (b : Bool). is_set old q || b) (here q (eqb (get_or xs i 0) q) (eqb-true (get_or xs i 0) q)) })
      where
        here : (q : ℕ) (b : Bool) → (b ≡ true → get_or xs i 0 ≡ q) → (t q && names xs i q) ≡ (t q && (names xs i q || b))
        here q false z = ap (λ (b : Bool). t q && b) (or_none (names xs i q))
        here q true z = let f : t q ≡ false = ap t (sym (e ∙ z refl)) ∙ n in rw f

  pub picks_end : (old used : List ℕ) (i : ℕ) → i ≤ length xs → length xs ≤ i → MarkedToo (picked i) old used → MarkedToo (λ q. t q && is_among q xs) old used
  picks_end old used i a b m = record { long = m.long; each = λ q. m.each q ∙ ap (λ (x : Bool). is_set old q || (t q && x)) (names_all xs i q a b) }

-- those that have trees
abbrev pub some : List ℕ → ℕ → Bool
some cs q = ltb 0 (held cs q)

module _ (accepting cs : List ℕ) where
  module _ (old used : List ℕ) (i a : ℕ) where
    pub listed_skip : a ≡ get_or accepting i 0 → get_or cs a 0 ≡ 0 → MarkedToo (picked accepting (some cs) i) old used → MarkedToo (picked accepting (some cs) (i + 1)) old used
    listed_skip e z m = picks_skip accepting (some cs) old used i a e m (ap (ltb 0) z)

    pub listed_go : a ≡ get_or accepting i 0 → a < length old → (get_or cs a 0 ≡ 0 → ⊥) → MarkedToo (picked accepting (some cs) i) old used
        → MarkedToo (picked accepting (some cs) (i + 1)) old (set used a 1)
    listed_go e l z m = picks_go accepting (some cs) old used i a e m (lt-ltb 0 (get_or cs a 0) (pos_of_ne-zero z)) l

-- ---- the state that is next to mark

-- the states from `low` on and before the next one are passed, all up to m where there is none
module _ (cs : List ℕ) (used : List ℕ) (low m : ℕ) (g : PassedBy cs used low m) where
  abbrev pub Passes : ℕ → Type 0
  Passes k = 0 < held cs k → is_set used k ≡ true

  up_to : (n : ℕ) → ((k : ℕ) → low ≤ k → k < n → Passes k) → AllMarked cs used n
  up_to n h = record { marked = λ a l p. go a l p (dec_le low a) }
    where
      go : (a : ℕ) → a < n → 0 < held cs a → Dec (low ≤ a) → is_set used a ≡ true
      go a l p (yes y) = h a y l p
      go a l p (no y) = g.passed.marked a (omega arith) p

  pub passed_by : (r : Option ℕ) (n : ℕ) → n ≡ unwrap_or r m
      → MatchOption r ((k : ℕ) → low ≤ k → k < m → Passes k) (λ i. (low ≤ i) × (i < m) × Unit {0} × ((k : ℕ) → low ≤ k → k < i → Passes k)) → AllMarked cs used n × (n ≤ m)
  passed_by None n e h = rw e (up_to m h, omega arith)
  passed_by (Some i) n e h = rw e (up_to i h.3, omega arith)

-- a row whose arguments have trees counts more than 0
pub row_some : (full : Bool) (cs args : List ℕ) → NoneEmpty full cs → Placed (length cs) args → full ≡ true → true ≡ ltb 0 (product (map (held cs) args))
row_some full cs args s p e =
    sym (lt-ltb 0 (product (map (held cs) args)) (factors_some (held cs) args (λ k l. s.some e (get_or args k 0) (p.placed k l))))
