-- Entries put at a place of a list, and the bytes of a number among them. Assumes nothing.
use Prim.Native.Nat.{ℕ, zero, suc, ◌+◌, ◌-◌, ◌*◌, ◌/◌, ◌%◌, ◌^◌, ◌<◌, ◌≤◌}
use mathlib.Core.Path.{◌≡◌, refl, sym, ap, ◌∙◌}
use mathlib.Core.Bool.{Bool, true, false}
use mathlib.Core.List.{List, [], ◌∷◌, ◌++◌}
use native.Mathlib.Nat.{div-div-eq-div-mul, div-one, pow-succ'}
use native.Mathlib.Omega.{arith}
use lib.Arith.{digits_div, digits_mod}
use lib.Dec.{ltb}
use lib.ListN.{length, get_or, take, drop, length-drop, length-append}
use lib.Seq.{length-take-le, get_or-take, get_or-drop}
use borrow.Author.Tests.{ltb-true, ltb-false}
use borrow.Rule.Slice.PartMut.{put_mid}
use Rattle.std.proofs.lemmas.List.{get_or-append_right, get_or_append_left}
use Rattle.std.specs.Int as Int
use Rattle.std.specs.Int.{w64, bytes_low_first, to_le_bytes}
use Rattle.words.specs.Words.{byte_at, packed, Word, Placed, WordPut}
use Rattle.words.proofs.Reading.{Bytes, others, taken, dropped}

-- the same entries, given otherwise
pub placed_as : {n : ℕ} {old new : List ℕ} {at : ℕ} {f : ℕ → ℕ} → Placed n old new at f
    → (g : ℕ → ℕ) → ((k : ℕ) → k < n → f k ≡ g k) → Placed n old new at g
placed_as p g e = record { long = p.long; inside = λ k h. p.inside k h ∙ e k h; before = p.before; behind = p.behind }

-- after m entries, n more from place s on, which is not behind them
pub placed_join : {m : ℕ} {old mid new : List ℕ} {at : ℕ} {f : ℕ → ℕ} (s n : ℕ) → s ≤ m → m ≤ s + n
    → Placed m old mid at f → Placed n mid new (at + s) (λ k. f (s + k)) → Placed (s + n) old new at f
placed_join {m} {old} {mid} {new} {at} {f} s n l h p q = record {
  long = q.long ∙ p.long;
  inside = λ k b. inner k b (ltb k s) (ltb-true k s) (ltb-false k s);
  before = λ i b. q.before i (omega arith) ∙ p.before i b;
  behind = λ i b. q.behind i (omega arith) ∙ p.behind i (omega arith);
}
  where
    inner : (k : ℕ) → k < s + n → (t : Bool) → (t ≡ true → k < s) → (t ≡ false → s ≤ k) → get_or new (at + k) 0 ≡ f k
    inner k b true u v = let w = u refl in q.before (at + k) (omega arith) ∙ p.inside k (omega arith)
    inner k b false u v =
        let w = v refl in
        let z : s + (k - s) ≡ k = omega arith in
        let y : at + s + (k - s) ≡ at + k = omega arith in
        sym (ap (λ (i : ℕ). get_or new i 0) y) ∙ q.inside (k - s) (omega arith) ∙ ap f z

-- entries in the place of others, the part `at` to `at + n` as `copy_from_slice` leaves it
pub placed_part : (n at : ℕ) (old ys : List ℕ) (f : ℕ → ℕ) → at + n ≤ length old → length ys ≡ n → ((k : ℕ) → k < n → get_or ys k 0 ≡ f k)
    → Placed n old (put_mid at (at + n - at) old ys) at f
placed_part n at old ys f h e g =
    let z : at + n - at ≡ n = omega arith in
    let l : length (take at old) ≡ at = length-take-le at old (omega arith) in
    let rest : List ℕ = drop n (drop at old) in
    rw z record {
      long = omega (arith, length-append (take at old) (ys ++ rest), length-append ys rest, length-drop n (drop at old), length-drop at old);
      inside = λ k b.
          let y : at + k - at ≡ k = omega arith in
          get_or-append_right (take at old) (ys ++ rest) at (at + k) 0 l (omega arith) ∙ ap (λ (i : ℕ). get_or (ys ++ rest) i 0) y
          ∙ get_or_append_left ys rest 0 k (omega arith) ∙ g k b;
      before = λ i b. get_or_append_left (take at old) (ys ++ rest) 0 i (omega arith) ∙ get_or-take at old i 0 b;
      behind = λ i b.
          let y : at + (n + (i - at - n)) ≡ i = omega arith in
          get_or-append_right (take at old) (ys ++ rest) at i 0 l (omega arith) ∙ get_or-append_right ys rest n (i - at) 0 e (omega arith)
          ∙ get_or-drop n (drop at old) (i - at - n) 0 ∙ get_or-drop at old (n + (i - at - n)) 0 ∙ ap (λ (j : ℕ). get_or old j 0) y;
    }

-- ---- the bytes of a number

std_byte : (i w : ℕ) → Int.byte_at i w ≡ byte_at w i
std_byte zero w = ap (λ (n : ℕ). n % 256) (sym (div-one w))
std_byte (suc i) w = refl

low_byte : (i n w k : ℕ) → k < n → get_or (bytes_low_first i n w) k 0 ≡ byte_at w (i + k)
low_byte i zero w k h = absurd (omega arith)
low_byte i (suc n) w zero h = let e : i ≡ i + 0 = omega arith in std_byte i w ∙ ap (byte_at w) e
low_byte i (suc n) w (suc k) h = let e : suc i + k ≡ i + suc k = omega arith in low_byte (suc i) n w k (omega arith) ∙ ap (byte_at w) e

-- the first of the eight bytes of a number, as `to_le_bytes` gives them
pub first_bytes : (n w k : ℕ) → n ≤ 8 → k < n → get_or (take n (to_le_bytes w64 w)) k 0 ≡ byte_at w k
first_bytes n w k h l = get_or-take n (to_le_bytes w64 w) k 0 l ∙ low_byte 0 8 w k (omega arith) ∙ (let e : 0 + k ≡ k = omega arith in ap (byte_at w) e)

packed_byte : (xs : List ℕ) → Bytes xs → (k : ℕ) → k < length xs → byte_at (packed xs) k ≡ get_or xs k 0
unfolding packed
packed_byte [] p k l = absurd (omega arith)
packed_byte (x ∷ xs) p zero l = ap (λ (n : ℕ). n % 256) (div-one (packed xs * 256 + x)) ∙ digits_mod (packed xs) (p 0 (omega arith))
packed_byte (x ∷ xs) p (suc k) l =
    ap (λ (n : ℕ). n % 256)
    (ap (λ (n : ℕ). (packed xs * 256 + x) / n) (pow-succ' 256 k) ∙ sym (div-div-eq-div-mul (packed xs * 256 + x) 256 (256 ^ k))
    ∙ ap (λ (n : ℕ). n / 256 ^ k) (digits_div (packed xs) (p 0 (omega arith))))
    ∙ packed_byte xs (others x xs p) k (omega arith)

-- a byte of a number read from a list
pub word_byte : {n from w : ℕ} {bytes : List ℕ} → Word n from bytes w → Bytes bytes → from + n ≤ length bytes → (k : ℕ) → k < n
    → byte_at w k ≡ get_or bytes (from + k) 0
word_byte {n} {from} {w} {bytes} r p h k l =
    ap (λ (x : ℕ). byte_at x k) r.is
    ∙ packed_byte (take n (drop from bytes)) (taken n (drop from bytes) (dropped from bytes p)) k
    (omega (arith, length-take-le n (drop from bytes) (omega (arith, length-drop from bytes)), l))
    ∙ get_or-take n (drop from bytes) k 0 l ∙ get_or-drop from bytes k 0

-- the n low bytes of a number, put as `copy_from_slice` puts them
pub word_put : (n at : ℕ) (old ys zs : List ℕ) (w : ℕ) → ys ≡ take n zs → zs ≡ to_le_bytes w64 w → n ≤ 8 → at + n ≤ length old → length ys ≡ length (take (at + n - at) (drop at old))
    → WordPut n old (put_mid at (at + n - at) old ys) at w
word_put n at old ys zs w e f h l p =
    let z : at + n - at ≡ n = omega arith in
    placed_part n at old ys _ l (p ∙ length-take-le (at + n - at) (drop at old) (omega (arith, length-drop at old)) ∙ z)
    (λ k b. ap (λ (xs : List ℕ). get_or xs k 0) (e ∙ ap (take n) f) ∙ first_bytes n w k h b)
