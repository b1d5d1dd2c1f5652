-- Laws of the hash: the last arguments, and four more. Assumes nothing.
use Prim.Native.Nat.{ℕ, ◌*◌, ◌-◌, ◌%◌, ◌<◌, ◌≤◌}
use mathlib.Core.Path.{◌≡◌, refl}
use mathlib.Core.List.{List, [], ◌∷◌}
use native.Mathlib.Omega.{arith}
use native.Mathlib.Nat.{mod-lt, div-lt_iff_lt-mul, mul-lt-mul_of_pos_right, mul_comm}
use lib.ListN.{length, get_or, take, drop, length-drop}
use Rattle.std.proofs.lemmas.List.{take_all}
use Rattle.index.specs.Hash.{two, four, fours, mix, mix_all, spread_over}

-- the last arguments: none, one, two or three
pub rest_none : (by h : ℕ) (l : List ℕ) → length l < 1 → h ≡ mix_all by h (fours l)
unfolding fours mix_all
rest_none by h [] lt = refl
rest_none by h (a ∷ l) lt = absurd (omega arith)

pub rest_one : (by h : ℕ) (l : List ℕ) → 1 ≤ length l → length l < 2 → mix by h (get_or l 0 0) ≡ mix_all by h (fours l)
unfolding fours mix_all
rest_one by h [] ge lt = absurd (omega arith)
rest_one by h (a ∷ []) ge lt = refl
rest_one by h (a ∷ b ∷ l) ge lt = absurd (omega arith)

pub rest_two : (by h : ℕ) (l : List ℕ) → 2 ≤ length l → length l < 3 → mix by h (two (get_or l 0 0) (get_or l 1 0)) ≡ mix_all by h (fours l)
unfolding fours mix_all
rest_two by h [] ge lt = absurd (omega arith)
rest_two by h (a ∷ []) ge lt = absurd (omega arith)
rest_two by h (a ∷ b ∷ []) ge lt = refl
rest_two by h (a ∷ b ∷ c ∷ l) ge lt = absurd (omega arith)

pub rest_three : (by h : ℕ) (l : List ℕ) → 3 ≤ length l → length l ≤ 3 → mix by (mix by h (two (get_or l 0 0) (get_or l 1 0))) (get_or l 2 0) ≡ mix_all by h (fours l)
unfolding fours mix_all
rest_three by h [] ge lt = absurd (omega arith)
rest_three by h (a ∷ []) ge lt = absurd (omega arith)
rest_three by h (a ∷ b ∷ []) ge lt = absurd (omega arith)
rest_three by h (a ∷ b ∷ c ∷ []) ge lt = refl
rest_three by h (a ∷ b ∷ c ∷ d ∷ l) ge lt = absurd (omega arith)

-- and four more
pub fours_step : (by h : ℕ) (l : List ℕ) → 4 ≤ length l
    → mix_all by (mix by h (four (get_or l 0 0) (get_or l 1 0) (get_or l 2 0) (get_or l 3 0))) (fours (drop 4 l)) ≡ mix_all by h (fours l)
unfolding fours mix_all
fours_step by h [] ge = absurd (omega arith)
fours_step by h (a ∷ []) ge = absurd (omega arith)
fours_step by h (a ∷ b ∷ []) ge = absurd (omega arith)
fours_step by h (a ∷ b ∷ c ∷ []) ge = absurd (omega arith)
fours_step by h (a ∷ b ∷ c ∷ d ∷ l) ge = refl

-- the arguments behind the first four
pub behind_four : (l : List ℕ) → take (length l - 4) (drop 4 l) ≡ drop 4 l
behind_four l = take_all (length l - 4) (drop 4 l) (rw (length-drop 4 l) (omega arith))

pub spread_below : (by size h : ℕ) → 0 < size → spread_over by size h < size
spread_below by size h pos =
    let k : 0 < 4294967296 = omega arith in
    let l : h * by % 4294967296 * size < size * 4294967296 =
    rw (mul_comm size 4294967296) (mul-lt-mul_of_pos_right (mod-lt (h * by) k) pos) in
    (div-lt_iff_lt-mul {k = 4294967296} {x = h * by % 4294967296 * size} {y = size} k).1 l
