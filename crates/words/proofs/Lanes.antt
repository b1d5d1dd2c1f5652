-- What an operation on a number does to each of its bytes. Assumes nothing.
use Prim.Native.Nat.{ℕ, zero, suc, ◌+◌, ◌*◌, ◌/◌, ◌%◌, ◌^◌, ◌<◌}
use mathlib.Core.Path.{◌≡◌, refl, sym, ap, ap₂, ◌∙◌}
use mathlib.Core.Bool.{false, not}
use native.Mathlib.Nat.{mod-lt, div-add-mod', mul-div_cancel_left}
use native.Mathlib.Omega.{arith}
use lib.Arith.{digits_div, digits_mod}
use lib.Dec.{eqb, leb}
use lib.Bits.{bit_and, bit_or, bit_xor, and_block, or_block, xor_block}
use borrow.Author.Tests.{eqb-true, leb-false, not-false}
use Rattle.model.specs.Choice.{any_below}
use Rattle.model.proofs.Choice.{any_false}
use Rattle.words.specs.Words.{lanes}

-- bytes to bytes
abbrev pub Small : (ℕ → ℕ) → Type 0
Small f = (b : ℕ) → b < 256 → f b < 256

-- both by computing at the 256 bytes
pub small : (f : ℕ → ℕ) → any_below 256 (λ b. leb 256 (f b)) ≡ false → Small f
small f h b l = leb-false 256 (f b) (any_false 256 (λ x. leb 256 (f x)) h b l)

pub equal : (f g : ℕ → ℕ) → any_below 256 (λ b. not (eqb (f b) (g b))) ≡ false → (b : ℕ) → b < 256 → f b ≡ g b
equal f g h b l = eqb-true (f b) (g b) (not-false _ (any_false 256 (λ x. not (eqb (f x) (g x))) h b l))

pub byte : (x : ℕ) → x % 256 < 256
byte x = mod-lt x (omega arith)

pub ext : (f g : ℕ → ℕ) → ((b : ℕ) → b < 256 → f b ≡ g b) → (m x : ℕ) → lanes f m x ≡ lanes g m x
unfolding lanes
ext f g e zero x = refl
ext f g e (suc m) x = ap₂ (λ (p q : ℕ). p * 256 + q) (ext f g e m (x / 256)) (e (x % 256) (byte x))

pub whole : (m x : ℕ) → x < 256 ^ m → lanes (λ b. b) m x ≡ x
unfolding lanes
whole zero x h = omega arith
whole (suc m) x h = ap (λ (n : ℕ). n * 256 + x % 256) (whole m (x / 256) (omega arith)) ∙ div-add-mod' x 256

-- one after the other
pub twice : (f g : ℕ → ℕ) → Small g → (m x : ℕ) → lanes f m (lanes g m x) ≡ lanes (λ b. f (g b)) m x
unfolding lanes
twice f g s zero x = refl
twice f g s (suc m) x =
    let h = s (x % 256) (byte x) in
    (λ i. lanes f m (digits_div (lanes g m (x / 256)) h i) * 256 + f (digits_mod (lanes g m (x / 256)) h i))
    ∙ ap (λ (n : ℕ). n * 256 + f (g (x % 256))) (twice f g s m (x / 256))

-- the same byte in all eight places
pub same_byte : (c x : ℕ) → lanes (λ b. c) 8 x ≡ c * 0x0101_0101_0101_0101
unfolding lanes
same_byte c x = omega arith

pub bound : (f : ℕ → ℕ) → Small f → (m x : ℕ) → lanes f m x < 256 ^ m
unfolding lanes
bound f s zero x = omega arith
bound f s (suc m) x = omega (arith, bound f s m (x / 256), s (x % 256) (byte x))

pub add : (f g : ℕ → ℕ) (m x : ℕ) → lanes f m x + lanes g m x ≡ lanes (λ b. f b + g b) m x
unfolding lanes
add f g zero x = refl
add f g (suc m) x = omega (arith, add f g m (x / 256))

times : (k : ℕ) (f : ℕ → ℕ) (m x : ℕ) → k * lanes f m x ≡ lanes (λ b. k * f b) m x
unfolding lanes
times k f zero x = omega arith
times k f (suc m) x = omega (arith, times k f m (x / 256))

-- a quarter, of bytes that are four times something
pub quarter : (f : ℕ → ℕ) → any_below 256 (λ b. not (eqb (f b) (4 * (f b / 4)))) ≡ false → (m x : ℕ) → lanes f m x / 4 ≡ lanes (λ b. f b / 4) m x
quarter f h m x =
    ap (λ (n : ℕ). n / 4) (ext f (λ b. 4 * (f b / 4)) (equal f (λ b. 4 * (f b / 4)) h) m x ∙ sym (times 4 (λ b. f b / 4) m x))
    ∙ mul-div_cancel_left (lanes (λ b. f b / 4) m x) (omega arith)

-- the operations on bits
module _ (op : ℕ → ℕ → ℕ) (start : op 0 0 ≡ 0)
    (block : (k a b r s : ℕ) → r < 2 ^ k → s < 2 ^ k → op (a * 2 ^ k + r) (b * 2 ^ k + s) ≡ op a b * 2 ^ k + op r s) where
  bits : (f g : ℕ → ℕ) → Small f → Small g → (m x : ℕ) → op (lanes f m x) (lanes g m x) ≡ lanes (λ b. op (f b) (g b)) m x
  unfolding lanes
  bits f g s t zero x = start
  bits f g s t (suc m) x =
      block 8 (lanes f m (x / 256)) (lanes g m (x / 256)) (f (x % 256)) (g (x % 256)) (s (x % 256) (byte x)) (t (x % 256) (byte x))
      ∙ ap (λ (n : ℕ). n * 256 + op (f (x % 256)) (g (x % 256))) (bits f g s t m (x / 256))

pub and : (f g : ℕ → ℕ) → Small f → Small g → (m x : ℕ) → bit_and (lanes f m x) (lanes g m x) ≡ lanes (λ b. bit_and (f b) (g b)) m x
and = bits bit_and refl and_block

pub or : (f g : ℕ → ℕ) → Small f → Small g → (m x : ℕ) → bit_or (lanes f m x) (lanes g m x) ≡ lanes (λ b. bit_or (f b) (g b)) m x
or = bits bit_or refl or_block

pub xor : (f g : ℕ → ℕ) → Small f → Small g → (m x : ℕ) → bit_xor (lanes f m x) (lanes g m x) ≡ lanes (λ b. bit_xor (f b) (g b)) m x
xor = bits bit_xor refl xor_block
