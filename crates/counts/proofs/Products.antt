-- Products that are not 0, factor by factor. Assumes nothing.
use Prim.Native.Nat.{ℕ, ◌*◌, ◌<◌, ◌≤◌}
use mathlib.Core.Path.{◌≡◌, sym, ap, ◌∙◌}
use mathlib.Core.List.{List, ◌∷◌, ◌++◌, map}
use mathlib.Core.Logic.{◌⊎◌, inl, inr}
use native.Mathlib.Nat.{mul-zero, eq-zero-or-pos, le-mul_of_pos_right}
use native.Mathlib.Omega.{arith}
use lib.ListN.{length}
use Rattle.model.specs.Count.{product}
use Rattle.counts.specs.States.{held, Some}
use Rattle.counts.proofs.Folds.{of_item, product_split}

-- a factor is no more than a product that is not 0, and is not 0
factor_le : (x r p : ℕ) → 0 < p → x * r ≡ p → x ≤ p
factor_le x r p pos e = go (eq-zero-or-pos r)
  where
    go : (r ≡ 0) ⊎ (0 < r) → x ≤ p
    go (inl z) = absurd (omega (arith, sym e ∙ ap (λ (n : ℕ). x * n) z ∙ mul-zero x))
    go (inr q) = omega (arith, le-mul_of_pos_right x q)

module _ {counts args : List ℕ} (f : Some counts args) (ys : List ℕ) (x : ℕ) (more : List ℕ) (e : args ≡ ys ++ x ∷ more) where
  pub factor_placed : x < length counts
  factor_placed = of_item (λ a. a < length counts) ys x more e f.placed

  -- no product on the way is more than the whole
  pub factor_below : (n : ℕ) → n ≡ product (map (held counts) ys) → n * held counts x ≤ product (map (held counts) args)
  factor_below n j =
      rw j (factor_le _ _ _ f.some (sym (ap (λ (l : List ℕ). product (map (held counts) l)) e ∙ product_split (held counts) ys x more)))
