-- How many bytes from `-` to `z` come first, by the zeros below the lowest mark. Assumes nothing.
use Rattle.std.specs.Prelude.{if◌then◌else◌}
use Prim.Native.Nat.{ℕ, zero, suc, ◌+◌, ◌-◌, ◌*◌, ◌/◌, ◌%◌}
use mathlib.Core.Path.{◌≡◌, refl, ap, ◌∙◌}
use mathlib.Core.Bool.{Bool, true, false}
use native.Mathlib.Omega.{arith}
use lib.Bits.{bit_and}
use lib.Count.{count_trailing_zeros}
use Rattle.words.specs.Words.{is_inner, lanes, marked, inner_ahead}
use Rattle.words.proofs.Formulas.{outer, outer_is}

even : (k n : ℕ) → count_trailing_zeros (suc k) (n * 2) ≡ suc (count_trailing_zeros k n)
unfolding count_trailing_zeros
even k n = let e : n * 2 % 2 ≡ 0 = omega arith in let f : n * 2 / 2 ≡ n = omega arith in rw (e, f)

odd : (k n : ℕ) → count_trailing_zeros (suc k) (n * 2 + 1) ≡ 0
unfolding count_trailing_zeros
odd k n = let e : (n * 2 + 1) % 2 ≡ 1 = omega arith in rw e

seven : (k n : ℕ) → count_trailing_zeros (suc (suc (suc (suc (suc (suc (suc k))))))) (n * 2 * 2 * 2 * 2 * 2 * 2 * 2) ≡ 7 + count_trailing_zeros k n
seven k n = rw (even (suc (suc (suc (suc (suc (suc k)))))) (n * 2 * 2 * 2 * 2 * 2 * 2), even (suc (suc (suc (suc (suc k))))) (n * 2 * 2 * 2 * 2 * 2), even (suc (suc (suc (suc k)))) (n * 2 * 2 * 2 * 2), even (suc (suc (suc k))) (n * 2 * 2 * 2), even (suc (suc k)) (n * 2 * 2), even (suc k) (n * 2), even k n) (omega arith)

-- eight digits a byte
digits : ℕ → ℕ
digits zero = zero
digits (suc m) = suc (suc (suc (suc (suc (suc (suc (suc (digits m))))))))

-- a byte without a mark, and one with it
without_mark : (k n : ℕ) → count_trailing_zeros (suc (suc (suc (suc (suc (suc (suc (suc k)))))))) (n * 256 + 0) ≡ 8 + count_trailing_zeros k n
without_mark k n =
    let e : n * 256 + 0 ≡ (n * 2) * 2 * 2 * 2 * 2 * 2 * 2 * 2 = omega arith in
    ap (λ (x : ℕ). count_trailing_zeros (suc (suc (suc (suc (suc (suc (suc (suc k)))))))) x) e ∙ seven (suc k) (n * 2) ∙ (let f = even k n in omega (arith, f))

with_mark : (k n : ℕ) → count_trailing_zeros (suc (suc (suc (suc (suc (suc (suc (suc k)))))))) (n * 256 + 128) ≡ 7
with_mark k n =
    let e : n * 256 + 128 ≡ (n * 2 + 1) * 2 * 2 * 2 * 2 * 2 * 2 * 2 = omega arith in
    ap (λ (x : ℕ). count_trailing_zeros (suc (suc (suc (suc (suc (suc (suc (suc k)))))))) x) e ∙ seven (suc k) (n * 2 + 1) ∙ ap (λ (x : ℕ). 7 + x) (odd k n)

marks : (m x : ℕ) → count_trailing_zeros (digits m) (lanes outer m x) / 8 ≡ inner_ahead m x
unfolding digits lanes outer inner_ahead count_trailing_zeros
marks zero x = refl
marks (suc m) x = go (is_inner (x % 256)) (marks m (x / 256))
  where
    go : (t : Bool) → count_trailing_zeros (digits m) (lanes outer m (x / 256)) / 8 ≡ inner_ahead m (x / 256)
        → count_trailing_zeros (suc (suc (suc (suc (suc (suc (suc (suc (digits m))))))))) (lanes outer m (x / 256) * 256 + (if t then 0 else 128)) / 8
        ≡ (if t then suc (inner_ahead m (x / 256)) else 0)
    go true h = rw (without_mark (digits m) (lanes outer m (x / 256))) (omega (arith, h))
    go false h = rw (with_mark (digits m) (lanes outer m (x / 256))) (omega arith)

pub zeros_ahead : (x r : ℕ) → r ≡ lanes (marked 45 122) 8 x → count_trailing_zeros 64 (bit_and (0xffff_ffff_ffff_ffff - r) 0x8080_8080_8080_8080) / 8 ≡ inner_ahead 8 x
unfolding digits
zeros_ahead x r e = ap (λ (n : ℕ). count_trailing_zeros 64 n / 8) (outer_is x r e) ∙ marks 8 x
