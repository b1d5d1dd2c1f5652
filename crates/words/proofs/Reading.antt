-- Bytes of a list read as one number, and taken from it again. Assumes nothing.
use Prim.Native.Nat.{ℕ, zero, suc, ◌+◌, ◌-◌, ◌*◌, ◌%◌, ◌^◌, ◌<◌, ◌≤◌}
use mathlib.Core.Path.{◌≡◌, refl, sym, ap, ◌∙◌}
use mathlib.Core.List.{List, [], ◌∷◌, ◌++◌}
use native.Mathlib.Nat.{pow-suc, one-le-pow, mul-le-mul_left}
use native.Mathlib.Nat as nat
use native.Mathlib.Omega.{arith}
use lib.Arith.{digits_lt, digits_mod}
use lib.Pow.{pow-add}
use lib.ListN.{length, take, drop, get_or, length-drop, length-take, take-append-drop}
use lib.Seq.{take-add, take_all, drop-drop, drop-cons, length-take-le, get_or-take, get_or-drop}
use Rattle.std.specs.Int.{w64, byte_worth, sum_through, from_le_bytes}
use Rattle.std.proofs.Common.{replicate}
use Rattle.std.proofs.lemmas.List.{get_or-append_right, get_or_append_left, drop-replicate, length-replicate}
use mathlib.Core.Bool.{Bool, true, false}
use lib.Dec.{ltb}
use borrow.Author.Tests.{ltb-true, ltb-false}
use lib.ListN.{length-append}
use Rattle.words.specs.Words.{packed, Word}

-- every entry is a byte
abbrev pub Bytes : List ℕ → Type 0
Bytes l = (i : ℕ) → i < length l → get_or l i 0 < 256

pub others : (b : ℕ) (bs : List ℕ) → Bytes (b ∷ bs) → Bytes bs
others b bs p i l = p (suc i) (omega arith)

pub taken : (n : ℕ) (xs : List ℕ) → Bytes xs → Bytes (take n xs)
taken n xs p i l =
    let k : i < n = omega (arith, l, length-take n xs) in
    rw (get_or-take n xs i 0 k) (p i (omega (arith, l, length-take n xs)))

pub dropped : (n : ℕ) (xs : List ℕ) → Bytes xs → Bytes (drop n xs)
dropped n xs p i l = rw (get_or-drop n xs i 0) (p (n + i) (omega (arith, l, length-drop n xs)))

-- ---- one number after another

packed_append : (xs ys : List ℕ) → packed (xs ++ ys) ≡ packed xs + packed ys * 256 ^ length xs
unfolding packed
packed_append [] ys = omega arith
packed_append (x ∷ xs) ys = rw (packed_append xs ys, pow-suc 256 (length xs)) (omega arith)

pub word_one : (at : ℕ) (l : List ℕ) (r : ℕ) → at < length l → (r ≡ get_or l at 0) × (r < 256) → Word 1 at l r
unfolding packed
word_one at l r h e = record { is = rw (drop-cons l at 0 h) (omega arith); below = e.1 }

pub word_join : (m n at : ℕ) (l : List ℕ) (r s : ℕ) → at + m ≤ length l → Word m at l r → Word n (at + m) l s → Word (m + n) at l (r + s * 256 ^ m)
word_join m n at l r s h p q =
    let e : length (take m (drop at l)) ≡ m = length-take-le m (drop at l) (rw (length-drop at l) (omega arith)) in
    record {
      is = rw (take-add m n (drop at l), packed_append (take m (drop at l)) (take n (drop m (drop at l))), e, drop-drop m at l, p.is, q.is);
      below = rw (pow-add 256 m n) (omega (arith, digits_lt q.below p.below));
    }

-- a number of bytes from the front, as `from_le_bytes` adds them up
from_front : (m : ℕ) (l : List ℕ) → Bytes l → m < length l → Word (m + 1) 0 l (sum_through (λ (i : ℕ). byte_worth i (get_or l i 0)) m)
from_front zero l p h = word_one 0 l (get_or l 0 0) h (refl, p 0 h)
from_front (suc m) l p h =
    let e : 0 + (m + 1) ≡ suc m = omega arith in
    let one : Word 1 (0 + (m + 1)) l (get_or l (suc m) 0) = rw e (word_one (suc m) l (get_or l (suc m) 0) h (refl, p (suc m) h)) in
    let y : suc m + 1 ≡ m + 1 + 1 = omega arith in
    let w : suc m ≡ m + 1 = omega arith in
    rw y (rw w (word_join (m + 1) 1 0 l _ _ (omega arith) (from_front m l p (omega arith)) (rw w at one)))

packed_zeros : (m : ℕ) → packed (replicate m 0) ≡ 0
unfolding packed
packed_zeros zero = refl
packed_zeros (suc m) = let h = packed_zeros m in omega arith

-- ---- the first bytes of a number

pub packed_below : (xs : List ℕ) → Bytes xs → packed xs < 256 ^ length xs
unfolding packed
packed_below [] p = omega arith
packed_below (x ∷ xs) p = rw (pow-suc 256 (length xs)) (omega (arith, p 0 (omega arith), packed_below xs (others x xs p)))

zero_at : (m j : ℕ) → get_or {A = ℕ} (replicate m 0) j 0 ≡ 0
zero_at zero j = refl
zero_at (suc m) zero = refl
zero_at (suc m) (suc j) = zero_at m j

few_bytes : (xs : List ℕ) (m : ℕ) → Bytes xs → Bytes (xs ++ replicate m 0)
few_bytes xs m p i l = go (ltb i (length xs)) (ltb-true i (length xs)) (ltb-false i (length xs))
  where
    go : (t : Bool) → (t ≡ true → i < length xs) → (t ≡ false → length xs ≤ i) → get_or (xs ++ replicate m 0) i 0 < 256
    go true f g = rw (get_or_append_left xs (replicate m 0) 0 i (f refl)) (p i (f refl))
    go false f g = rw (get_or-append_right xs (replicate m 0) (length xs) i 0 refl (g refl), zero_at m (i - length xs)) (omega arith)

-- eight bytes
pub eight_packed : (xs : List ℕ) → Bytes xs → length xs ≡ 8 → from_le_bytes w64 xs ≡ packed xs
eight_packed xs p e = let front = from_front 7 xs p (omega arith) in front.is ∙ ap packed (take_all 8 xs (omega arith))

-- at most eight bytes, with zeros behind them
pub from_few : (few ys : List ℕ) (w : ℕ) → Bytes few → length few ≤ 8 → w ≡ from_le_bytes w64 (ys ++ drop (length few) (replicate 8 0)) → ys ≡ few → w ≡ packed few
from_few few ys w p l d f =
    let m : ℕ = 8 - length few in
    let eight : length (few ++ replicate m 0) ≡ 8 = omega (arith, length-append few (replicate m 0), length-replicate {A = ℕ} m 0) in
    d ∙ ap (λ (zs : List ℕ). from_le_bytes w64 (zs ++ drop (length few) (replicate 8 0))) f
    ∙ ap (λ (zs : List ℕ). from_le_bytes w64 (few ++ zs)) (drop-replicate (length few) 8 0)
    ∙ eight_packed (few ++ replicate m 0) (few_bytes few m p) eight
    ∙ packed_append few (replicate m 0) ∙ rw (packed_zeros m) (omega arith)

-- n bytes of a list
pub few_word : (n at : ℕ) (xs ys : List ℕ) (w : ℕ) → Bytes xs → at + n ≤ length xs → n ≤ 8 → w ≡ from_le_bytes w64 (ys ++ drop n (replicate 8 0)) → ys ≡ take (at + n - at) (drop at xs) → Word n at xs w
few_word n at xs ys w p h l d f =
    let z : at + n - at ≡ n = omega arith in
    let few : ys ≡ take n (drop at xs) = rw z at f in
    let n_long : length (take n (drop at xs)) ≡ n = length-take-le n (drop at xs) (omega (arith, length-drop at xs)) in
    let e : w ≡ packed (take n (drop at xs)) =
    from_few (take n (drop at xs)) ys w (taken n (drop at xs) (dropped at xs p)) (omega arith) (rw n_long d) few in
    let long : length (take n (drop at xs)) ≡ n = length-take-le n (drop at xs) (omega (arith, length-drop at xs)) in
    record { is = e; below = rw e (rw long at (packed_below (take n (drop at xs)) (taken n (drop at xs) (dropped at xs p)))) }

pub packed_front : (n : ℕ) (xs : List ℕ) → Bytes xs → n ≤ length xs → packed xs % 256 ^ n ≡ packed (take n xs)
packed_front n xs p l =
    let e : length (take n xs) ≡ n = length-take-le n xs l in
    let w = packed_append (take n xs) (drop n xs) in
    let b : packed (take n xs) < 256 ^ n = rw e at (packed_below (take n xs) (taken n xs p)) in
    let f : packed xs ≡ packed (drop n xs) * 256 ^ n + packed (take n xs) = ap packed (sym (take-append-drop n xs)) ∙ w ∙ (let g = ap (λ (k : ℕ). packed (take n xs) + packed (drop n xs) * 256 ^ k) e in omega (arith, g)) in
    ap (λ (k : ℕ). k % 256 ^ n) f ∙ digits_mod (packed (drop n xs)) b

-- ---- the end of the bytes

pub few_below : (n : ℕ) (xs : List ℕ) → Bytes xs → length xs ≤ n → packed xs < 256 ^ n
unfolding packed
few_below zero [] p l = omega arith
few_below zero (x ∷ xs) p l = absurd (omega arith)
few_below (suc n) [] p l = rw (pow-suc 256 n) (omega (arith, few_below n [] p (omega arith)))
few_below (suc n) (x ∷ xs) p l = rw (pow-suc 256 n) (omega (arith, p 0 (omega arith), few_below n xs (others x xs p) (omega arith)))

-- the loop that packs them, from the last: `left` are still to come
pub record Packs (left all : List ℕ) (w : ℕ) : Type 0 where
  pub sum : packed left + w * 256 ^ length left ≡ packed all
  pub few : packed all < 256 ^ 7

pub packs_none : (at : ℕ) (xs left : List ℕ) → Bytes xs → length xs < at + 8 → left ≡ take (length xs - at) (drop at xs) → Packs left (drop at xs) 0
packs_none at xs left p l e =
    let all : left ≡ drop at xs = e ∙ take_all (length xs - at) (drop at xs) (omega (arith, length-drop at xs)) in
    record { sum = rw all (omega (arith, nat.zero-mul (256 ^ length (drop at xs)))); few = few_below 7 (drop at xs) (dropped at xs p) (omega (arith, length-drop at xs)) }

pub packs_small : {left all : List ℕ} {w : ℕ} → Packs left all w → w < 256 ^ 7
packs_small {left} {all} {w} h = omega (arith, h.few, h.sum, mul-le-mul_left w (one-le-pow (length left) 256 (omega arith)))

pub packs_more : {left all : List ℕ} {w : ℕ} (shorter : List ℕ) (x y : ℕ) → Packs left all w → left ≡ shorter ++ x ∷ [] → y ≡ x → Packs shorter all (w * 256 + y)
unfolding packed
packs_more {left} {all} {w} shorter x y h e f =
    let n : ℕ = length shorter in
    let l : length left ≡ suc n = omega (arith, ap length e, length-append shorter (x ∷ [])) in
    let p : 256 ^ length left ≡ 256 ^ n * 256 = ap (λ (k : ℕ). 256 ^ k) l ∙ pow-suc 256 n in
    let q : packed left ≡ packed shorter + x * 256 ^ n = ap packed e ∙ packed_append shorter (x ∷ []) ∙ omega arith in
    record { sum = rw f (omega (arith, h.sum, rw p at h.sum, q)); few = h.few }

pub packs_all : (left all : List ℕ) (w : ℕ) → Packs left all w → length left ≡ 0 → w ≡ packed all
unfolding packed
packs_all [] all w h e = omega (arith, h.sum)
packs_all (x ∷ xs) all w h e = absurd (omega arith)

pub rest_word : (xs : List ℕ) (i w : ℕ) → Bytes xs → length xs < i + 8 → w ≡ packed (drop i xs) → Word 8 i xs w
rest_word xs i w p l e = record {
  is = e ∙ ap packed (sym (take_all 8 (drop i xs) (omega (arith, length-drop i xs))));
  below = rw e (few_below 8 (drop i xs) (dropped i xs p) (omega (arith, length-drop i xs)));
}
