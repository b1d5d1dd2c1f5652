-- Laws of words: one taken apart, and the rows that words hold. Assumes nothing.
use Prim.Native.Nat.{ℕ, zero, suc, ◌+◌, ◌-◌, ◌<◌}
use mathlib.Core.Path.{◌≡◌, refl, ap}
use mathlib.Core.List.{List, [], ◌∷◌, map}
use native.Mathlib.Omega.{arith}
use lib.ListN.{length, get_or, set, take, drop, length-drop, length-map}
use lib.Seq.{length-take-le}
use Rattle.model.specs.Table.{no_row}
use Rattle.model.proofs.Counting.{get_d_map}
use Rattle.rows.specs.Words.{a_row, word_of, with_after, symbol_in, count_in, target_in, from_in, next_in, after_in, nexts, afters, args_in, row_in, rows_in, row_no, Inside, row_held, Apart}

-- ---- one word

pub apart : (s n q from next : ℕ) → s < 256 → n < 256 → q < 256 → from < 65536 → next < 4096 → Apart (word_of s n q from next) s n q from next
apart s n q from next ls ln lq lf lk = record {
  symbol_is = omega arith;
  count_is = omega arith;
  target_is = omega arith;
  from_is = omega arith;
  next_is = omega arith;
  after_is = omega arith;
}

-- the row of a word by its parts
pub row_of_lem : (pool : List ℕ) {w s n q from next : ℕ} → Apart w s n q from next → row_in pool w ≡ a_row s q (take n (drop from pool))
row_of_lem pool a = rw (a.symbol_is, a.count_is, a.target_is, a.from_is)

-- the part of the pool that the code lends is the row's arguments
pub part_is : (pool : List ℕ) (w : ℕ) → take (from_in w + count_in w - from_in w) (drop (from_in w) pool) ≡ args_in pool w
part_is pool w = let e : from_in w + count_in w - from_in w ≡ count_in w = omega arith in rw e

-- as many as the word says
pub args_long : (pool : List ℕ) (w : ℕ) → Inside pool w → length (args_in pool w) ≡ count_in w
args_long pool w i = length-take-le (count_in w) (drop (from_in w) pool) (rw (length-drop (from_in w) pool) (omega (arith, i.ends)))

-- a link put on top changes none of the other parts
module _ (w after : ℕ) where
  symbol_kept : symbol_in (with_after w after) ≡ symbol_in w
  symbol_kept = omega arith

  count_kept : count_in (with_after w after) ≡ count_in w
  count_kept = omega arith

  target_kept : target_in (with_after w after) ≡ target_in w
  target_kept = omega arith

  from_kept : from_in (with_after w after) ≡ from_in w
  from_kept = omega arith

  pub next_kept : next_in (with_after w after) ≡ next_in w
  next_kept = omega arith

  pub after_put : after_in (with_after w after) ≡ after_in w + after
  after_put = omega arith

  pub row_kept : (pool : List ℕ) → row_in pool (with_after w after) ≡ row_in pool w
  row_kept pool = rw (symbol_kept, count_kept, target_kept, from_kept)

  pub inside_kept : (pool : List ℕ) → Inside pool w → Inside pool (with_after w after)
  inside_kept pool i = record { ends = rw (from_kept, count_kept) i.ends; few = rw count_kept i.few }

-- ---- rows in words

-- one entry set, and then each entry mapped
pub map_set : {A B : Type 0} (f : A → B) (xs : List A) (i : ℕ) (y : A) → map f (set xs i y) ≡ set (map f xs) i (f y)
map_set f [] i y = refl
map_set f (x ∷ xs) zero y = refl
map_set {B = B} f (x ∷ xs) (suc i) y = ap (λ (zs : List B). f x ∷ zs) (map_set f xs i y)

module _ (pool words : List ℕ) where
  pub rows_long : length (rows_in pool words) ≡ length words
  rows_long = length-map words (row_in pool)

  pub row_held_lem : (r : ℕ) → r < length words → row_no (rows_in pool words) r ≡ row_held pool words r
  row_held_lem r l = get_d_map (row_in pool) words r 0 no_row l

-- the links of word r
pub next_at : (words : List ℕ) (r : ℕ) → r < length words → get_or (nexts words) r 0 ≡ next_in (get_or words r 0)
next_at words r l = get_d_map next_in words r 0 0 l

pub after_at : (words : List ℕ) (r : ℕ) → r < length words → get_or (afters words) r 0 ≡ after_in (get_or words r 0)
after_at words r l = get_d_map after_in words r 0 0 l
