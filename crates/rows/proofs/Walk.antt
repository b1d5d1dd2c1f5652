-- Laws of one row by the grounds 2 to 5. Assumes nothing.
use Rattle.std.specs.Prelude.{Result, Ok, Err, if◌then◌else◌}
use Prim.Native.Nat.{ℕ, zero, suc, ◌+◌, ◌-◌, ◌<◌, ◌≤◌, max}
use mathlib.Core.Path.{◌≡◌, refl, sym, ◌∙◌}
use mathlib.Core.Bool.{Bool, true, false, ◌&&◌, not}
use mathlib.Core.List.{List, [], ◌∷◌}
use native.Mathlib.Omega.{arith}
use lib.ListN.{length, get_or, take, drop, drop_of_length-le}
use lib.Dec.{ltb}
use borrow.Author.Tests.{ltb-true, ltb-false, lt-ltb, le-ltb}
use Rattle.model.specs.declared.Kind.{Kind}
use Rattle.model.specs.declared.Kind.TheVariants.{CutRow, TooManyRowsOrArguments, NotInRange, ArgumentNotBelowTarget}
use Rattle.model.specs.Table.{Row, row_at, row_start, row_numbered, arg_count_at, args_at, Whole}
use Rattle.model.specs.Check.{all_below, cut, too_many, out_of_range, not_below, repeated, row_ground}
use Rattle.model.proofs.Choice.{and_true, and_both}
use Rattle.model.proofs.Lists.{drop_next}
use Rattle.model.proofs.Rows.{args_length}
use Rattle.model.proofs.Checked.{not_cut, not_too_many, InRange, not_out_of_range}
use Rattle.rows.specs.Words.{a_row}
use Rattle.rows.specs.Walk.{largest, above, out_by, row_fault, row_step, step_ground, form_ground}

-- the part of the rows that the code lends is the row's arguments
pub part_is : (rows : List ℕ) (at a n : ℕ) → at ≡ a → n ≡ arg_count_at rows at → take (at + 3 + n - (at + 3)) (drop (at + 3) rows) ≡ args_at rows a
part_is rows at a n e f =
    let g : at + 3 + n - (at + 3) ≡ arg_count_at rows at = omega (arith, f) in
    rw (g, e)

-- ---- the largest argument

pub largest_step : (m : ℕ) (l : List ℕ) (i : ℕ) → i < length l → largest m (drop i l) ≡ largest (max m (get_or l i 0)) (drop (i + 1) l)
unfolding largest
largest_step m l i lt = rw (drop_next l i lt)

pub largest_end : (m : ℕ) (l : List ℕ) (i : ℕ) → length l ≤ i → largest m (drop i l) ≡ m
unfolding largest
largest_end m l i ge = rw (drop_of_length-le l {i = i} ge)

pub above_none : (l : List ℕ) → length l ≡ 0 → 0 ≡ above l
unfolding above
above_none [] e = refl
above_none (x ∷ xs) e = absurd (omega arith)

pub above_some : (l : List ℕ) → (length l ≡ 0 → ⊥) → largest 0 l + 1 ≡ above l
unfolding above
above_some [] ne = absurd (ne refl)
above_some (x ∷ xs) ne = refl

max_below : (m x n : ℕ) → ltb (max m x) n ≡ ltb m n && ltb x n
max_below m x n = go (ltb m n) refl (ltb x n) refl
  where
    go : (a : Bool) → ltb m n ≡ a → (b : Bool) → ltb x n ≡ b → ltb (max m x) n ≡ a && b
    go true p true q = lt-ltb (max m x) n (omega (arith, ltb-true m n p, ltb-true x n q))
    go true p false q = le-ltb (max m x) n (omega (arith, ltb-false x n q))
    go false p b q = le-ltb (max m x) n (omega (arith, ltb-false m n p))

and_assoc : (a b c : Bool) → (a && b) && c ≡ a && (b && c)
and_assoc true b c = refl
and_assoc false b c = refl

largest_below : (m : ℕ) (xs : List ℕ) (n : ℕ) → ltb (largest m xs) n ≡ ltb m n && all_below n xs
unfolding largest all_below
largest_below m [] n = go (ltb m n)
  where
    go : (a : Bool) → a ≡ a && true
    go true = refl
    go false = refl
largest_below m (x ∷ xs) n = largest_below (max m x) xs n ∙ rw (max_below m x n) (and_assoc (ltb m n) (ltb x n) (all_below n xs))

-- some argument is not below n just where n is below `above`
pub all_below_lem : (n : ℕ) (xs : List ℕ) → not (all_below n xs) ≡ ltb n (above xs)
unfolding above all_below
all_below_lem n [] = sym (le-ltb n 0 (omega arith))
all_below_lem n (x ∷ xs) = go (ltb top n) refl (all_below n (x ∷ xs)) refl (largest_below 0 (x ∷ xs) n)
  where
    top : ℕ
    top = largest 0 (x ∷ xs)

    go : (a : Bool) → ltb top n ≡ a → (b : Bool) → all_below n (x ∷ xs) ≡ b → ltb top n ≡ ltb 0 n && all_below n (x ∷ xs) → not (all_below n (x ∷ xs)) ≡ ltb n (top + 1)
    go true p b q e =
        let t = and_true (ltb 0 n) (all_below n (x ∷ xs)) (sym e ∙ p) in
        rw t.1 (sym (le-ltb n (top + 1) (omega (arith, ltb-true top n p))))
    go false p false q e = rw q (sym (lt-ltb n (top + 1) (omega (arith, ltb-false top n p))))
    go false p true q e =
        let t = and_true (ltb x n) (all_below n xs) q in
        let z : ltb 0 n ≡ true = lt-ltb 0 n (omega (arith, ltb-true x n t.0)) in
        let y : false ≡ true = sym p ∙ e ∙ and_both (ltb 0 n) (all_below n (x ∷ xs)) z q in
        let w : ◌≡◌ {A = ℕ} 0 1 = cc in
        absurd (omega arith)

-- the grounds 4 and 5 by it
pub out_by_lem : (states s q : ℕ) (xs : List ℕ) → out_of_range states (a_row s q xs) ≡ out_by states s q (above xs)
unfolding out_of_range out_by
out_by_lem states s q xs = rw (all_below_lem states xs)

pub not_below_by : (s q : ℕ) (xs : List ℕ) → not_below (a_row s q xs) ≡ ltb q (above xs)
unfolding not_below
not_below_by s q xs = all_below_lem q xs

-- what the tests say of a row, in their order
module _ (states i s q : ℕ) (xs : List ℕ) (top : ℕ) (e : top ≡ above xs) where
  out_at : (d : Bool) → out_by states s q top ≡ d → out_of_range states (a_row s q xs) ≡ d
  out_at d h = out_by_lem states s q xs ∙ rw e at h

  below_at : (f : Bool) → ltb q top ≡ f → not_below (a_row s q xs) ≡ f
  below_at f h = not_below_by s q xs ∙ rw e at h

  pub fault_4 : too_many i (length xs) ≡ false → out_by states s q top ≡ true → Err NotInRange ≡ row_fault states i (a_row s q xs)
  unfolding row_fault
  fault_4 b d = rw (b, out_at true d)

  pub fault_5 : too_many i (length xs) ≡ false → out_by states s q top ≡ false → q < top → Err ArgumentNotBelowTarget ≡ row_fault states i (a_row s q xs)
  unfolding row_fault
  fault_5 b d l = rw (b, out_at false d, below_at true (lt-ltb q top l))

  pub fault_none : too_many i (length xs) ≡ false → out_by states s q top ≡ false → top ≤ q → Ok (tt {0}) ≡ row_fault states i (a_row s q xs)
  unfolding row_fault
  fault_none b d l = rw (b, out_at false d, below_at false (le-ltb q top l))

pub fault_3 : (states i s q : ℕ) (xs : List ℕ) → too_many i (length xs) ≡ true → Err TooManyRowsOrArguments ≡ row_fault states i (a_row s q xs)
unfolding row_fault
fault_3 states i s q xs b = rw b

-- a row that is not cut
pub whole_step : (states : ℕ) (rows : List ℕ) (i at : ℕ) (xs : List ℕ) (o : Result (Unit {0}) Kind) → cut rows at ≡ false → xs ≡ args_at rows at
    → o ≡ row_fault states i (a_row (get_or rows at 0) (get_or rows (at + 1) 0) xs) → o ≡ row_step states rows i at
unfolding row_step
whole_step states rows i at xs o c e h = rw c (rw e at h)

-- ---- a row that is passed

pub record Stepped (states : ℕ) (rows : List ℕ) (i at : ℕ) : Type 0 where
  pub whole : Whole rows at
  pub early : i < 1024
  pub few : arg_count_at rows at ≤ 16
  pub symbol : get_or rows at 0 < 256
  pub target : get_or rows (at + 1) 0 < states

pub passes : (states i : ℕ) (r : Row) → row_fault states i r ≡ Ok (tt {0}) → (i < 1024) × (length r.args ≤ 16) × InRange states r
unfolding row_fault
passes states i r e = go (too_many i (length r.args)) refl (out_of_range states r) refl (not_below r) e
  where
    go : (b : Bool) → too_many i (length r.args) ≡ b → (d : Bool) → out_of_range states r ≡ d → (f : Bool)
        → (if b then Err TooManyRowsOrArguments else if d then Err NotInRange else if f then Err ArgumentNotBelowTarget else Ok (tt {0})) ≡ Ok (tt {0})
        → (i < 1024) × (length r.args ≤ 16) × InRange states r
    go true q d p f h = let z : ◌≡◌ {A = ℕ} 0 1 = cc in absurd (omega arith)
    go false q true p f h = let z : ◌≡◌ {A = ℕ} 0 1 = cc in absurd (omega arith)
    go false q false p f h = let t = not_too_many i (length r.args) q in (t.0, t.1, not_out_of_range states r p)

pub stepped : (states : ℕ) (rows : List ℕ) (i at : ℕ) → row_step states rows i at ≡ Ok (tt {0}) → Stepped states rows i at
unfolding row_step
stepped states rows i at e = go (cut rows at) refl e
  where
    go : (a : Bool) → cut rows at ≡ a → (if a then Err CutRow else row_fault states i (row_at rows at)) ≡ Ok (tt {0}) → Stepped states rows i at
    go true p h = let z : ◌≡◌ {A = ℕ} 0 1 = cc in absurd (omega arith)
    go false p h =
        let w = not_cut rows at p in
        let t = passes states i (row_at rows at) h in
        record {
          whole = w;
          early = t.0;
          few = omega (arith, t.1, args_length rows at w);
          symbol = omega (arith, t.2.high);
          target = t.2.target_fits;
        }

-- ---- the grounds of document 01

-- a row's ground is that of its form, or else 6 where it repeats an earlier row
unfoldable pub form_else : (form : ℕ) → Bool → ℕ
form_else zero b = if b then 6 else 0
form_else (suc k) b = suc k

pub ground_is : (states : ℕ) (rows : List ℕ) (i : ℕ) → row_ground states rows i ≡ form_else (form_ground states rows i) (repeated rows i)
unfolding row_ground row_step row_fault form_else
ground_is states rows i = whole (cut rows (row_start rows i)) refl
  where
    go : (b c d : Bool)
        → (if b then 3 else if c then 4 else if d then 5 else if repeated rows i then 6 else 0)
        ≡ form_else (step_ground (if b then Err TooManyRowsOrArguments else if c then Err NotInRange else if d then Err ArgumentNotBelowTarget else Ok (tt {0}))) (repeated rows i)
    go true c d = refl
    go false true d = refl
    go false false true = refl
    go false false false = refl

    whole : (a : Bool) → cut rows (row_start rows i) ≡ a → (if a then 2 else if too_many i (arg_count_at rows (row_start rows i)) then 3 else if out_of_range states (row_numbered rows i) then 4 else if not_below (row_numbered rows i) then 5 else if repeated rows i then 6 else 0)
        ≡ form_else (step_ground (if a then Err CutRow else row_fault states i (row_numbered rows i))) (repeated rows i)
    whole true e = refl
    whole false e =
        rw (args_length rows (row_start rows i) (not_cut rows (row_start rows i) e))
        (go (too_many i (arg_count_at rows (row_start rows i))) (out_of_range states (row_numbered rows i)) (not_below (row_numbered rows i)))
