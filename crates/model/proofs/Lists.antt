-- Laws of lists walked in a loop: what is left from an entry on, and two lists compared. Assumes nothing.
use Prim.Native.Nat.{ℕ, zero, suc, ◌+◌, ◌<◌, ◌≤◌}
use mathlib.Core.Path.{◌≡◌, refl, ap}
use mathlib.Core.Bool.{Bool, true, false, ◌&&◌, and-false}
use mathlib.Core.List.{List, [], ◌∷◌, ◌++◌}
use native.Mathlib.Omega.{arith}
use native.Mathlib.Nat.{not-suc-le-zero, le_of_suc-le-suc}
use native.Mathlib.Numerals.{add-one}
use lib.ListN.{length, get_or, drop, drop_of_length-le}
use lib.Seq.{drop-cons}
use Rattle.std.specs.List.{list_all, zip}
use Rattle.model.specs.Table.{same_by}
use Rattle.model.proofs.Choice.{and_true, and_both, not_both}

pub drop_next : (l : List ℕ) (i : ℕ) → i < length l → drop i l ≡ get_or l i 0 ∷ drop (i + 1) l
drop_next l i lt = rw (add-one, drop-cons l i 0)

-- ---- two lists compared, entry by entry

module _ (agree : ℕ → ℕ → Bool) where
  -- the loop that compares: one entry more, the end, and two lengths
  pub same_step : (a b : List ℕ) (i : ℕ) → i < length a → i < length b
      → same_by agree (drop i a) (drop i b) ≡ agree (get_or a i 0) (get_or b i 0) && same_by agree (drop (i + 1) a) (drop (i + 1) b)
  unfolding same_by
  same_step a b i la lb = rw (drop_next a i la, drop_next b i lb)

  pub same_end : (a b : List ℕ) (i : ℕ) → length a ≤ i → length b ≤ i → same_by agree (drop i a) (drop i b) ≡ true
  unfolding same_by
  same_end a b i la lb = rw (drop_of_length-le a {i = i} la, drop_of_length-le b {i = i} lb)

  -- place by place
  pub same_each : (a b : List ℕ) → length a ≡ length b → list_all (λ p. agree p.0 p.1) (zip a b) ≡ same_by agree a b
  unfolding same_by
  same_each [] [] e = refl
  same_each [] (y ∷ b) e = absurd (omega arith)
  same_each (x ∷ a) [] e = absurd (omega arith)
  same_each (x ∷ a) (y ∷ b) e = ap (λ (t : Bool). agree x y && t) (same_each a b (omega arith))

  pub same_length : (a b : List ℕ) → (length a ≡ length b → ⊥) → same_by agree a b ≡ false
  unfolding same_by
  same_length [] [] ne = absurd (ne refl)
  same_length [] (y ∷ ys) ne = refl
  same_length (x ∷ xs) [] ne = refl
  same_length (x ∷ xs) (y ∷ ys) ne = rw (same_length xs ys (λ e. ne (ap suc e)), and-false)

  -- exactly the lists that are as long, and agree at each place
  pub same_long : (a b : List ℕ) → same_by agree a b ≡ true → length a ≡ length b
  unfolding same_by
  same_long [] [] e = refl
  same_long [] (y ∷ b) e = absurd (not_both false e refl)
  same_long (x ∷ a) [] e = absurd (not_both false e refl)
  same_long (x ∷ a) (y ∷ b) e = ap suc (same_long a b (and_true (agree x y) (same_by agree a b) e).1)

  pub same_at : (a b : List ℕ) → same_by agree a b ≡ true → (i : ℕ) → i < length a → agree (get_or a i 0) (get_or b i 0) ≡ true
  unfolding same_by
  same_at [] b e i l = absurd (not-suc-le-zero l)
  same_at (x ∷ a) [] e i l = absurd (not_both false e refl)
  same_at (x ∷ a) (y ∷ b) e zero l = (and_true (agree x y) (same_by agree a b) e).0
  same_at (x ∷ a) (y ∷ b) e (suc i) l = same_at a b (and_true (agree x y) (same_by agree a b) e).1 i (le_of_suc-le-suc l)

  pub at_same : (a b : List ℕ) → length a ≡ length b → ((i : ℕ) → i < length a → agree (get_or a i 0) (get_or b i 0) ≡ true) → same_by agree a b ≡ true
  unfolding same_by
  at_same [] [] e h = refl
  at_same [] (y ∷ b) e h = absurd (omega arith)
  at_same (x ∷ a) [] e h = absurd (omega arith)
  at_same (x ∷ a) (y ∷ b) e h = and_both (agree x y) (same_by agree a b) (h 0 (omega arith)) (at_same a b (omega arith) (λ i l. h (suc i) (omega arith)))

  -- a list with itself, where each entry agrees with itself
  pub same_self : ((x : ℕ) → agree x x ≡ true) → (a : List ℕ) → same_by agree a a ≡ true
  same_self h a = at_same a a refl (λ i l. h (get_or a i 0))

  -- lists put together
  pub same_append : (a b c d : List ℕ) → same_by agree a b ≡ true → same_by agree c d ≡ true → same_by agree (a ++ c) (b ++ d) ≡ true
  unfolding same_by
  same_append [] [] c d e f = f
  same_append [] (y ∷ b) c d e f = absurd (not_both false e refl)
  same_append (x ∷ a) [] c d e f = absurd (not_both false e refl)
  same_append (x ∷ a) (y ∷ b) c d e f =
      let p = and_true (agree x y) (same_by agree a b) e in
      and_both (agree x y) (same_by agree (a ++ c) (b ++ d)) p.0 (same_append a b c d p.1 f)
