-- What marks tell, and what their sum over a row's arguments tells. Assumes nothing.
use Rattle.std.specs.Prelude.{if◌then◌else◌, Option, Some as counted}
use Prim.Native.Nat.{ℕ, suc, ◌+◌, ◌*◌, ◌%◌, ◌^◌, ◌<◌, ◌≤◌, min}
use mathlib.Core.Path.{◌≡◌, refl, sym, ap, ◌∙◌}
use mathlib.Core.List.{List, [], ◌∷◌, ◌++◌, map}
use mathlib.Core.Logic.{◌⊎◌, inl, inr}
use native.Mathlib.Nat.{mul-zero, zero-mul, mul_comm, mul-pos, mul-le-mul, le_trans, le_of_eq, eq-zero-or-pos, le-mul_of_pos_right, lt_of_not-le}
use native.Mathlib.Decide.{dec_le}
use native.Mathlib.Omega.{arith}
use lib.ListN.{length, get_or}
use lib.Dec.{ltb}
use lib.Pow.{pow-add, pow_mono}
use borrow.Author.Tests.{lt-ltb, le-ltb, le-leb, lt-leb}
use Rattle.model.specs.Count.{sum, product}
use Rattle.counts.specs.Marks.{top, ceiling, long_in, bits_in, empty_in, Roomy, Tells}
use Rattle.counts.specs.Kept.{Is}
use Rattle.counts.specs.States.{held, held_whole, held_long, Marked, MarksTell, Weighable, weight_by}
use Rattle.counts.proofs.KeptCounts.{is_same}
use Rattle.counts.proofs.Folds.{of_item, sum_split}

-- ---- one mark

-- a mark is its parts
mark_parts : (m : ℕ) → Roomy m → m ≡ long_in m + 1048576 * bits_in m + 1099511627776 * empty_in m
mark_parts m r = omega (arith, r.empty)

-- ---- sums of parts

module _ (f : ℕ → ℕ) where
  abbrev longs : List ℕ → ℕ
  longs xs = sum (map (λ q. long_in (f q)) xs)

  abbrev bits : List ℕ → ℕ
  bits xs = sum (map (λ q. bits_in (f q)) xs)

  abbrev empties : List ℕ → ℕ
  empties xs = sum (map (λ q. empty_in (f q)) xs)

  -- the sum's parts are the sums of the parts, and have their room
  record Apart (xs : List ℕ) : Type 0 where
    pub whole : sum (map f xs) ≡ longs xs + 1048576 * bits xs + 1099511627776 * empties xs
    pub long : longs xs ≤ 4097 * length xs
    pub bit : bits xs ≤ 4096 * length xs
    pub empty : empties xs ≤ length xs

  apart : (xs : List ℕ) → ((k : ℕ) → k < length xs → Roomy (f (get_or xs k 0))) → Apart xs
  unfolding sum
  apart [] h = record { whole = refl; long = omega arith; bit = omega arith; empty = omega arith }
  apart (x ∷ xs) h =
      let a = apart xs (λ k l. h (suc k) (omega arith)) in
      let r : Roomy (f x) = h 0 (omega arith) in
      let e = mark_parts (f x) r in
      record {
        whole = omega (arith, a.whole, e);
        long = omega (arith, a.long, r.long);
        bit = omega (arith, a.bit, r.bits);
        empty = omega (arith, a.empty, r.empty);
      }

-- ---- products, by what the marks f tell of the counts g and the longest trees l

module _ (f g l : ℕ → ℕ) where
  abbrev Each : List ℕ → Type 0
  Each xs = (k : ℕ) → k < length xs → Tells (f (get_or xs k 0)) (g (get_or xs k 0)) (l (get_or xs k 0))

  rest : (x : ℕ) (xs : List ℕ) → Each (x ∷ xs) → Each xs
  rest x xs h = λ k m. h (suc k) (omega arith)

  here : (x : ℕ) (xs : List ℕ) → Each (x ∷ xs) → Tells (f x) (g x) (l x)
  here x xs h = h 0 (omega arith)

  -- a state without trees among them: nothing
  empty_none : (xs : List ℕ) → Each xs → 0 < empties f xs → product (map g xs) ≡ 0
  unfolding sum product
  empty_none [] h p = absurd (omega arith)
  empty_none (x ∷ xs) h p = go (eq-zero-or-pos (empty_in (f x))) (empty_none xs (rest x xs h))
    where
      go : (empty_in (f x) ≡ 0) ⊎ (0 < empty_in (f x)) → (0 < empties f xs → product (map g xs) ≡ 0) → g x * product (map g xs) ≡ 0
      go (inl z) ih = ap (λ (n : ℕ). g x * n) (ih (omega arith)) ∙ mul-zero (g x)
      go (inr y) ih = ap (λ (n : ℕ). n * product (map g xs)) ((here x xs h).none y).0 ∙ zero-mul _

  empty_some : (xs : List ℕ) → Each xs → empties f xs ≡ 0 → 0 < product (map g xs)
  unfolding sum product
  empty_some [] h p = omega arith
  empty_some (x ∷ xs) h p = mul-pos ((here x xs h).some (omega arith)).0 (empty_some xs (rest x xs h) (omega arith))

  -- few bits: the product has no more
  bits_bound : (xs : List ℕ) → Each xs → bits f xs ≤ 64 → product (map g xs) ≤ 2 ^ bits f xs
  unfolding sum product
  bits_bound [] h p = omega arith
  bits_bound (x ∷ xs) h p = go (here x xs h).bits (bits_bound xs (rest x xs h) (omega arith))
    where
      go : ((bits_in (f x) ≤ 64) × (g x ≤ 2 ^ bits_in (f x)) × (g x ≤ top)) ⊎ ((bits_in (f x) ≡ 4096) × (ceiling ≤ g x)) → product (map g xs) ≤ 2 ^ bits f xs
          → g x * product (map g xs) ≤ 2 ^ (bits_in (f x) + bits f xs)
      go (inl y) ih = le_trans (mul-le-mul y.1 ih) (le_of_eq (sym (pow-add 2 (bits_in (f x)) (bits f xs))))
      go (inr y) ih = absurd (omega (arith, y.0))

  -- more bits than these can have within 64 each: one of them is beyond, and so is the product
  bits_beyond : (xs : List ℕ) → Each xs → empties f xs ≡ 0 → 64 * length xs < bits f xs → ceiling ≤ product (map g xs)
  unfolding sum product
  bits_beyond [] h z p = absurd (omega arith)
  bits_beyond (x ∷ xs) h z p = go (here x xs h).bits (bits_beyond xs (rest x xs h) (omega arith))
    where
      some : 0 < g x
      some = ((here x xs h).some (omega arith)).0

      go : ((bits_in (f x) ≤ 64) × (g x ≤ 2 ^ bits_in (f x)) × (g x ≤ top)) ⊎ ((bits_in (f x) ≡ 4096) × (ceiling ≤ g x)) → (64 * length xs < bits f xs → ceiling ≤ product (map g xs))
          → ceiling ≤ g x * product (map g xs)
      go (inl y) ih = le_trans (ih (omega (arith, y.0))) (rw (mul_comm (g x) (product (map g xs))) (le-mul_of_pos_right (product (map g xs)) some))
      go (inr y) ih = le_trans y.1 (le-mul_of_pos_right (g x) (empty_some xs (rest x xs h) (omega arith)))

  -- the longest trees of arguments that have trees
  longs_same : (xs : List ℕ) → Each xs → empties f xs ≡ 0 → longs f xs ≡ sum (map l xs)
  unfolding sum
  longs_same [] h z = refl
  longs_same (x ∷ xs) h z = let e : long_in (f x) ≡ l x = ((here x xs h).some (omega arith)).1 in omega (arith, longs_same xs (rest x xs h) (omega arith), e)

-- fewer bits than one beyond has: none is, and the counts held are the counts
exact : (counts marks xs : List ℕ) → bits (held marks) xs < 4096 → product (map (held counts) xs) ≡ product (map (held_whole counts marks) xs)
unfolding sum product
exact counts marks [] h = refl
exact counts marks (x ∷ xs) h =
    let e : held counts x ≡ held_whole counts marks x = omega arith in
    ap (λ (n : ℕ). n * product (map (held counts) xs)) e ∙ ap (λ (n : ℕ). held_whole counts marks x * n) (exact counts marks xs (omega arith))

-- ---- a row

-- what the sum of a row's marks tells, by the sum
by_empty : (s p : ℕ) → 1099511627776 ≤ s → weight_by s p ≡ 0
by_empty s p l = rw (le-leb 1099511627776 s l)

by_beyond : (s p : ℕ) → s < 1099511627776 → 4294967296 ≤ s → weight_by s p ≡ ceiling
by_beyond s p l m = rw (lt-leb 1099511627776 s l, le-leb 4294967296 s m)

by_product : (s p : ℕ) → s < 4294967296 → weight_by s p ≡ p
by_product s p l = rw (lt-leb 1099511627776 s (omega arith), lt-leb 4294967296 s l)

pub weighed_none : (s p : ℕ) → 1099511627776 ≤ s → Is (counted 0) (weight_by s p)
weighed_none s p l = let e = by_empty s p l in (omega (arith, e), sym e)

pub marks_placed : {counts marks args : List ℕ} → MarksTell counts marks args → Marked marks args
marks_placed t = record { few = t.few; placed = t.placed; roomy = λ k l. (t.each k l).roomy }

module _ {counts marks args : List ℕ} (t : MarksTell counts marks args) {s : ℕ} (e : s ≡ 2 + sum (map (held marks) args)) where
  abbrev whole : ℕ → ℕ
  whole q = held_whole counts marks q

  parts : Apart (held marks) args
  parts = apart (held marks) args (λ k l. (t.each k l).roomy)

  none : 1099511627776 ≤ s → product (map whole args) ≡ 0
  none p = empty_none (held marks) whole (held_long marks) args t.each (omega (arith, parts.whole, parts.long, parts.bit, parts.empty, t.few))

  no_empties : s < 1099511627776 → empties (held marks) args ≡ 0
  no_empties p = omega (arith, parts.whole, parts.long, parts.bit, parts.empty, t.few)

  some : s < 1099511627776 → 0 < product (map whole args)
  some p = empty_some (held marks) whole (held_long marks) args t.each (no_empties p)

  beyond : s < 1099511627776 → 4294967296 ≤ s → ceiling ≤ product (map whole args)
  beyond p q =
      let b : 64 * length args < bits (held marks) args = omega (arith, parts.whole, parts.long, parts.bit, parts.empty, t.few) in
      bits_beyond (held marks) whole (held_long marks) args t.each (no_empties p) b

  same : s < 4294967296 → product (map (held counts) args) ≡ product (map whole args)
  same p = exact counts marks args (omega (arith, parts.whole, parts.long, parts.bit, parts.empty, t.few))

  -- at most as many bits as stand in the sum
  few_bits : (b : ℕ) → bits (held marks) args ≤ b → b ≤ 64 → product (map whole args) ≤ 2 ^ b
  few_bits b l h = le_trans (bits_bound (held marks) whole (held_long marks) args t.each (omega arith)) (pow_mono l)

  pub weighable : Weighable s counts args
  weighable = record {
    placed = t.counted;
    some = λ p. rw (same p) (some (omega arith));
    plain = λ p.
        let v : product (map whole args) ≤ 2 ^ 63 = few_bits 63 (omega (arith, parts.whole, parts.long, parts.bit, parts.empty, t.few)) (omega arith) in
        omega (arith, same (omega arith), v);
    one = λ p.
        let v : product (map whole args) ≤ 2 ^ 0 = few_bits 0 (omega (arith, parts.whole, parts.long, parts.bit, parts.empty, t.few)) (omega arith) in
        omega (arith, same (omega arith), v, some (omega arith));
  }

  -- the row counts what the sum tells, kept
  weight_same : min (weight_by s (product (map (held counts) args))) ceiling ≡ min (product (map whole args)) ceiling
  weight_same = go (dec_le 1099511627776 s) (dec_le 4294967296 s)
    where
      go : Dec (1099511627776 ≤ s) → Dec (4294967296 ≤ s) → min (weight_by s (product (map (held counts) args))) ceiling ≡ min (product (map whole args)) ceiling
      go (yes y) d = ap (λ (n : ℕ). min n ceiling) (by_empty s _ y ∙ sym (none y))
      go (no y) (yes z) = let l = lt_of_not-le y in omega (arith, by_beyond s (product (map (held counts) args)) l z, beyond l z)
      go (no y) (no z) = let l = lt_of_not-le z in ap (λ (n : ℕ). min n ceiling) (by_product s _ l ∙ same l)

  pub weight_is : (k : Option ℕ) → Is k (weight_by s (product (map (held counts) args))) → Is k (product (map (held_whole counts marks) args))
  weight_is k i = is_same k _ _ i weight_same

  -- and the entries of its longest tree stand in the sum
  pub longer_told : (if ltb s 1099511627776 then s % 1048576 else 0) ≡ (if ltb 0 (product (map (held_whole counts marks) args)) then 2 + sum (map (held_long marks) args) else 0)
  longer_told = go (dec_le 1099511627776 s)
    where
      long : s < 1099511627776 → s % 1048576 ≡ 2 + sum (map (held_long marks) args)
      long p = omega (arith, no_empties p, parts.whole, parts.long, t.few, longs_same (held marks) whole (held_long marks) args t.each (no_empties p))

      go : Dec (1099511627776 ≤ s) → (if ltb s 1099511627776 then s % 1048576 else 0) ≡ (if ltb 0 (product (map (held_whole counts marks) args)) then 2 + sum (map (held_long marks) args) else 0)
      go (yes y) = rw (le-ltb s 1099511627776 y, none y)
      go (no y) =
          let l : s < 1099511627776 = lt_of_not-le y in
          rw (lt-ltb s 1099511627776 l, lt-ltb 0 (product (map (held_whole counts marks) args)) (some l)) (long l)

-- ---- the sum, mark by mark

module _ {marks args : List ℕ} (m : Marked marks args) (ys : List ℕ) (x : ℕ) (more : List ℕ) (e : args ≡ ys ++ x ∷ more) where
  pub mark_placed : x < length marks
  mark_placed = of_item (λ a. a < length marks) ys x more e m.placed

  -- sixteen marks fit
  pub mark_fits : (n : ℕ) → n ≡ 2 + sum (map (held marks) ys) → n + held marks x < 2 ^ 64
  mark_fits n j =
      let a = apart (held marks) args m.roomy in
      let s : sum (map (held marks) args) ≡ sum (map (held marks) ys) + (held marks x + sum (map (held marks) more)) = ap (λ (l : List ℕ). sum (map (held marks) l)) e ∙ sum_split (held marks) ys x more in
      omega (arith, a.whole, a.long, a.bit, a.empty, m.few, s)
