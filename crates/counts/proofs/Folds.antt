-- A fold over a list: what its closure may be asked, and what comes of it. Assumes nothing.
use Rattle.std.specs.Prelude.{Option, Some, None, MatchOption}
use Prim.Native.Nat.{ℕ, ◌+◌, ◌*◌, ◌<◌, ◌≤◌}
use mathlib.Core.Path.{◌≡◌, refl, sym, subst, ap, ◌∙◌}
use mathlib.Core.List.{List, [], ◌∷◌, ◌++◌, map}
use native.Mathlib.Nat.{mul_assoc, mul-one}
use native.Mathlib.Omega.{arith}
use lib.ListN.{length, get_or, length-append}
use lib.Seq.{get_or-append_seam}
use Rattle.model.specs.Count.{sum, product}
use Rattle.std.specs.List.{FoldsTo}
use Rattle.std.specs.Iterator.{Yields, YieldsThen, Drains, AlwaysYields, CallableAtEachTurn}
use Rattle.std.proofs.iter.Yields.{gives_left, gives_Drains}
use Rattle.std.proofs.lemmas.Fn.{chained_keeps, serves_by}
use Rattle.std.proofs.lemmas.List.{map_push}
use Rattle.std.proofs.lemmas.Iterator.{YieldsList}

-- J holds of the items so far and of what they were folded to
module _ {S A B C F : Type 0} {steps : S → Option A → S → Type 0} {v : A → B} {s : S} {all : List B} (road : YieldsList steps v s all)
    (R : F × C → A → F × C → Type 0) (f : F) (a : C) (J : List B → C → Type 0) (begins : J [] a)
    (turn : (ys : List B) (n : C) (x : A) (q : F × C) → J ys n → R (f, n) x q → (q.0 ≡ f) × J (ys ++ v x ∷ []) q.1) where
  keeps : (xs : List A) (q : F × C) (x : A) (w : F × C) → (q.0 ≡ f) × J (map v xs) q.1 → R q x w → (w.0 ≡ f) × J (map v (xs ++ x ∷ [])) w.1
  keeps xs q x w j r =
      let k = turn (map v xs) q.1 x w j.1 (subst (λ (g : F). R (g, q.1) x w) j.0 r) in
      (k.0, subst (λ (l : List B). J l w.1) (sym (map_push v xs x)) k.1)

  so_far : (xs : List A) (q : F × C) → FoldsTo {P = F × C} R (f, a) xs q → (q.0 ≡ f) × J (map v xs) q.1
  so_far xs q c = chained_keeps {P = F × C} R (λ ys p. (p.0 ≡ f) × J (map v ys) p.1) keeps xs (f, a) q (refl, begins) c

  -- the items before an item, it, and the others
  here : (xs : List A) (t u : S) (x : A) → Yields steps s xs t → steps t (Some x) u → (more : List B) × (all ≡ map v xs ++ v x ∷ more)
  here xs t u x y e = let m = gives_left steps v xs all s t road.runs y in go m.0 m.1 m.2
    where
      go : (more : List B) → all ≡ map v xs ++ more → AlwaysYields steps v t more → (more : List B) × (all ≡ map v xs ++ v x ∷ more)
      go [] k w = absurd (w x u e)
      go (z ∷ more) k w = (more, k ∙ ap (λ (b : B). map v xs ++ b ∷ more) (sym (w.1 x u e).0))

  -- what each call needs may follow from the item's place
  pub serves_along : (Q : F × C → A → Type 0) → ((ys : List B) (n : C) (x : A) (more : List B) → all ≡ ys ++ v x ∷ more → J ys n → Q (f, n) x)
      → CallableAtEachTurn {P = F × C} steps R Q s (f, a)
  serves_along Q asks = serves_by {P = F × C} R (λ ys p. (p.0 ≡ f) × J (map v ys) p.1) keeps steps Q s (f, a) (refl, begins)
      (λ xs t q x u y e j. let m = here xs t u x y e in subst (λ (g : F). Q (g, q.1) x) (sym j.0) (asks (map v xs) q.1 x m.0 m.1 j.1))

  -- `fold`
  pub fold_gives : (r : C) → (xs : List A) × (f' : F) × Drains steps s xs × FoldsTo {P = F × C} R (f, a) xs (f', r) → J all r
  fold_gives r ran = subst (λ (l : List B). J l r) (gives_Drains steps v ran.0 all s road.runs ran.2) (so_far ran.0 (ran.1, r) ran.3).1

  -- `try_fold`: all items came, or it ended at one
  module _ (Whole : C → Type 0) (Broken : F → C → A → Type 0) (Z : Type 0) (u : S) (whole : (n : C) → J all n → Whole n → Z)
      (broken : (ys : List B) (n : C) (x : A) (more : List B) → all ≡ ys ++ v x ∷ more → J ys n → Broken f n x → Z) where
    pub try_fold_gives : (xs : List A) × (o : Option A) × (f' : F) × (n : C) × YieldsThen steps s xs o u × FoldsTo {P = F × C} R (f, a) xs (f', n)
        × MatchOption o (Whole n) (λ x. Broken f' n x) → Z
    try_fold_gives ran = go ran.0 ran.1 ran.2 ran.3 ran.4 (so_far ran.0 (ran.2, ran.3) ran.5) ran.6
      where
        go : (xs : List A) (o : Option A) (f' : F) (n : C) → YieldsThen steps s xs o u → (f' ≡ f) × J (map v xs) n → MatchOption o (Whole n) (λ x. Broken f' n x) → Z
        go xs None f' n y j m = whole n (subst (λ (l : List B). J l n) (gives_Drains steps v xs all s road.runs (u, y)) j.1) m
        go xs (Some x) f' n y j m = let k = here xs y.0 u x y.1 y.2 in broken (map v xs) n x k.0 k.1 j.1 (subst (λ (g : F). Broken g n x) j.0 m)

-- ---- sums and products of a list, item by item

-- what holds at each place holds of an item
pub of_item : (P : ℕ → Type 0) {all : List ℕ} (ys : List ℕ) (x : ℕ) (more : List ℕ) → all ≡ ys ++ x ∷ more → ((k : ℕ) → k < length all → P (get_or all k 0)) → P x
of_item P {all} ys x more e h =
    let room : length ys < length all = omega (arith, ap length e, length-append ys (x ∷ more)) in
    subst P (ap (λ (l : List ℕ). get_or l (length ys) 0) e ∙ get_or-append_seam ys x more 0) (h (length ys) room)

module _ (h : ℕ → ℕ) where
  pub sum_none : sum (map h []) ≡ 0
  unfolding sum
  sum_none = refl

  pub sum_split : (ys : List ℕ) (x : ℕ) (more : List ℕ) → sum (map h (ys ++ x ∷ more)) ≡ sum (map h ys) + (h x + sum (map h more))
  unfolding sum
  sum_split [] x more = omega arith
  sum_split (y ∷ ys) x more = omega (arith, sum_split ys x more)

  pub sum_push : (ys : List ℕ) (x : ℕ) → sum (map h (ys ++ x ∷ [])) ≡ sum (map h ys) + h x
  sum_push ys x = omega (arith, sum_split ys x [], sum_none)

  pub sum_before : (ys : List ℕ) (x : ℕ) (more : List ℕ) {all : List ℕ} → all ≡ ys ++ x ∷ more → sum (map h ys) + h x ≤ sum (map h all)
  sum_before ys x more e = rw e (omega (arith, sum_split ys x more))

  pub product_none : product (map h []) ≡ 1
  unfolding product
  product_none = refl

  pub product_split : (ys : List ℕ) (x : ℕ) (more : List ℕ) → product (map h (ys ++ x ∷ more)) ≡ (product (map h ys) * h x) * product (map h more)
  unfolding product
  product_split [] x more = omega arith
  product_split (y ∷ ys) x more = omega (arith, ap (λ (n : ℕ). h y * n) (product_split ys x more), mul_assoc (h y) (product (map h ys) * h x) (product (map h more)), mul_assoc (h y) (product (map h ys)) (h x))

  pub product_push : (ys : List ℕ) (x : ℕ) → product (map h (ys ++ x ∷ [])) ≡ product (map h ys) * h x
  product_push ys x = product_split ys x [] ∙ ap (λ (n : ℕ). product (map h ys) * h x * n) product_none ∙ mul-one (product (map h ys) * h x)
