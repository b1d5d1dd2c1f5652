-- Laws of the first number with a property, and of 'some number below'. Assumes nothing.
use Prim.Native.Nat.{ℕ, zero, suc, ◌+◌, ◌<◌}
use mathlib.Core.Path.{◌≡◌, refl, sym, ◌∙◌}
use mathlib.Core.Bool.{Bool, true, false, ◌||◌}
use native.Mathlib.Omega.{arith}
use native.Mathlib.Numerals.{add-one}
use lib.Dec.{ltb}
use borrow.Author.Tests.{ltb-true, ltb-false}
use Rattle.model.specs.Choice.{any_below}
use Rattle.std.specs.Prelude.{Option, Some, None, is_some}
use Rattle.chains.specs.First.{or_else, first_with}

-- a number is not nothing
pub apart : {A : Type 0} (r : ℕ) → Some r ≡ None → A
apart r h = let z : ◌≡◌ {A = ℕ} 0 1 = cc in absurd (omega arith)

module _ (p : ℕ → Bool) where
  -- where no number below n has the property, nothing is found
  pub none_first : (n : ℕ) → ((k : ℕ) → k < n → p k ≡ true → ⊥) → first_with p n ≡ None
  unfolding first_with or_else
  none_first zero f = refl
  none_first (suc n) f = rw (none_first n (λ k lt. f k (omega arith))) (go (p n) (f n (omega arith)))
    where
      go : (t : Bool) → (t ≡ true → ⊥) → or_else None t n ≡ None
      go true ne = absurd (ne refl)
      go false ne = refl

  -- a number with the property, before which none has it, is the one found
  pub first_at : (n r : ℕ) → r < n → p r ≡ true → ((k : ℕ) → k < r → p k ≡ true → ⊥) → first_with p n ≡ Some r
  unfolding first_with or_else
  first_at zero r lt e f = absurd (omega arith)
  first_at (suc n) r lt e f = go (ltb r n) refl (λ h. first_at n r h e f)
    where
      go : (t : Bool) → ltb r n ≡ t → (r < n → first_with p n ≡ Some r) → or_else (first_with p n) (p n) n ≡ Some r
      go true q ih = rw (ih (ltb-true r n q))
      go false q ih =
          let same : n ≡ r = omega (arith, ltb-false r n q) in
          rw (same, none_first r f, e)

  -- where nothing is found, no number below n has the property
  pub first_none : (n : ℕ) → first_with p n ≡ None → (k : ℕ) → k < n → p k ≡ true → ⊥
  unfolding first_with or_else
  first_none zero e k lt t = absurd (omega arith)
  first_none (suc n) e k lt t = go (first_with p n) (p n) refl refl e (λ h. first_none n h k)
    where
      go : (o : Option ℕ) (s : Bool) → first_with p n ≡ o → p n ≡ s → or_else o s n ≡ None → (first_with p n ≡ None → k < n → p k ≡ true → ⊥) → ⊥
      go (Some r) s u v h ih = apart r h
      go None true u v h ih = apart n h
      go None false u v h ih = last (ltb k n) refl
        where
          last : (b : Bool) → ltb k n ≡ b → ⊥
          last true q = ih u (ltb-true k n q) t
          last false q =
              let same : k ≡ n = omega (arith, ltb-false k n q) in
              let y : p n ≡ true = rw same at t in
              let z : ◌≡◌ {A = ℕ} 0 1 = cc in
              omega arith

  -- the number found is below n, has the property, and none before it has
  pub first_is : (n r : ℕ) → first_with p n ≡ Some r → (r < n) × (p r ≡ true) × ((k : ℕ) → k < r → p k ≡ true → ⊥)
  unfolding first_with or_else
  first_is zero r e = apart r (sym e)
  first_is (suc n) r e = go (first_with p n) (p n) refl refl e (first_is n r)
    where
      go : (o : Option ℕ) (s : Bool) → first_with p n ≡ o → p n ≡ s → or_else o s n ≡ Some r
          → (first_with p n ≡ Some r → (r < n) × (p r ≡ true) × ((k : ℕ) → k < r → p k ≡ true → ⊥))
          → (r < suc n) × (p r ≡ true) × ((k : ℕ) → k < r → p k ≡ true → ⊥)
      go (Some j) s u v h ih = let x = ih (u ∙ h) in (omega (arith, x.0), x.1, x.2)
      go None true u v h ih =
          let same : n ≡ r = cc in
          (omega arith, (rw same at v), rw same at (first_none n u))
      go None false u v h ih = apart r (sym h)

  -- nothing below n and not n: nothing below n + 1
  pub first_more : (n : ℕ) → first_with p n ≡ None → p n ≡ false → first_with p (n + 1) ≡ None
  unfolding first_with or_else
  first_more n e f = rw (add-one n, e, f)

  -- some number below n has the property just where a first one is found
  pub any_first : (n : ℕ) → any_below n p ≡ is_some (first_with p n)
  unfolding any_below first_with or_else
  any_first zero = refl
  any_first (suc n) = rw (any_first n) (go (first_with p n) (p n))
    where
      go : (o : Option ℕ) (t : Bool) → is_some o || t ≡ is_some (or_else o t n)
      go (Some r) t = refl
      go None true = refl
      go None false = refl
