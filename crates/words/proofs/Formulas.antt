-- The formulas of `bytes_between`, `fold_word`, `inner_ahead` and `foreign_bytes`: on a number they are the same formulas on each of its bytes. Assumes nothing.
use Rattle.std.specs.Prelude.{if◌then◌else◌}
use Prim.Native.Nat.{ℕ, ◌+◌, ◌-◌, ◌*◌, ◌/◌, ◌%◌, ◌^◌, ◌<◌, ◌≤◌}
use mathlib.Core.Path.{◌≡◌, refl, sym, ap, ap₂, ◌∙◌}
use mathlib.Core.Bool.{Bool, true, false, ◌&&◌, and-false}
use native.Mathlib.Omega.{arith}
use lib.Bits.{bit_and, bit_or, bit_xor, and_block, and_le_l, and_le_r, xor_block, xor_lt}
use lib.Dec.{leb, ltb}
use borrow.Author.Tests.{leb-true, leb-false, ltb-true, ltb-false}
use Rattle.model.specs.Choice.{any_below}
use Rattle.model.specs.Names.{is_letter, is_name_byte, lower}
use Rattle.words.specs.Words.{is_inner, lanes, marked, foreign}
use Rattle.words.proofs.Lanes.{Small, small, equal, ext, whole, same_byte, bound, add, quarter, and, or, xor, twice}

-- ---- a range, on one byte

abbrev low : ℕ → ℕ
low b = bit_and b 127

-- the top bit is set exactly from `first` on and not above `last`
abbrev ranged : (first last b : ℕ) → ℕ
ranged first last b = bit_and (bit_and (bit_xor (low b + (128 - first)) (low b + (127 - last))) (255 - b)) 128

low_rest : (b : ℕ) → b < 256 → low b ≡ b % 128
unfolding any_below
low_rest = equal low (λ b. b % 128) refl

-- of three bytes the top bits alone
tops : (x y z r s t : ℕ) → r < 128 → s < 128 → t < 128
    → bit_and (bit_and (bit_xor (x * 128 + r) (y * 128 + s)) (z * 128 + t)) 128 ≡ bit_and (bit_and (bit_xor x y) z) 1 * 128
tops x y z r s t h k l =
    let p : bit_xor r s < 128 = xor_lt 7 r s h k in
    let q : bit_and (bit_xor r s) t < 128 = omega (arith, and_le_l (bit_xor r s) t) in
    ap (λ (n : ℕ). bit_and (bit_and n (z * 128 + t)) 128) (xor_block 7 x y r s h k)
    ∙ ap (λ (n : ℕ). bit_and n 128) (and_block 7 (bit_xor x y) z (bit_xor r s) t p l)
    ∙ and_block 7 (bit_and (bit_xor x y) z) 1 (bit_and (bit_xor r s) t) 0 q (omega arith)
    ∙ (let e = and_le_r (bit_and (bit_xor r s) t) 0 in omega arith)

top_bits : (p q r x y z : ℕ) → p / 128 ≡ x → q / 128 ≡ y → r / 128 ≡ z
    → bit_and (bit_and (bit_xor p q) r) 128 ≡ bit_and (bit_and (bit_xor x y) z) 1 * 128
top_bits p q r x y z e f g =
    let a : p ≡ x * 128 + p % 128 = omega arith in
    let b : q ≡ y * 128 + q % 128 = omega arith in
    let c : r ≡ z * 128 + r % 128 = omega arith in
    (λ i. bit_and (bit_and (bit_xor (a i) (b i)) (c i)) 128) ∙ tops x y z (p % 128) (q % 128) (r % 128) (omega arith) (omega arith) (omega arith)

byte_ranged : (first last : ℕ) → first ≤ last → last < 128 → (b : ℕ) → b < 256 → ranged first last b ≡ marked first last b
unfolding marked
byte_ranged first last h l b k = go (ltb b 128) (leb first b) (leb b last) refl refl refl
  where
    go : (s t u : Bool) → ltb b 128 ≡ s → leb first b ≡ t → leb b last ≡ u → ranged first last b ≡ (if leb first b && leb b last then 128 else 0)
    go true true true e f g =
        let m = low_rest b k in
        let x = ltb-true b 128 e in
        let y = leb-true first b f in
        let z = leb-true b last g in
        top_bits (low b + (128 - first)) (low b + (127 - last)) (255 - b) 1 0 1 (omega arith) (omega arith) (omega arith) ∙ rw (f, g)
    go true true false e f g =
        let m = low_rest b k in
        let x = ltb-true b 128 e in
        let y = leb-true first b f in
        let z = leb-false b last g in
        top_bits (low b + (128 - first)) (low b + (127 - last)) (255 - b) 1 1 1 (omega arith) (omega arith) (omega arith) ∙ rw (f, g)
    go true false true e f g =
        let m = low_rest b k in
        let x = ltb-true b 128 e in
        let y = leb-false first b f in
        top_bits (low b + (128 - first)) (low b + (127 - last)) (255 - b) 0 0 1 (omega arith) (omega arith) (omega arith) ∙ rw f
    go true false false e f g = let y = leb-false first b f in let z = leb-false b last g in absurd (omega arith)
    go false t true e f g = let x = ltb-false b 128 e in let z = leb-true b last g in absurd (omega arith)
    go false t false e f g =
        let m = low_rest b k in
        let x = ltb-false b 128 e in
        let n : ℕ = (low b + (128 - first)) / 128 in
        let o : ℕ = (low b + (127 - last)) / 128 in
        top_bits (low b + (128 - first)) (low b + (127 - last)) (255 - b) n o 0 refl refl (omega arith)
        ∙ (let v = and_le_l (bit_and (bit_xor n o) 0) 1 in let w = and_le_r (bit_xor n o) 0 in rw (g, and-false (leb first b)) (omega arith))

-- ---- on a number

abbrev low_w : ℕ → ℕ
low_w x = bit_and x 0x7f7f_7f7f_7f7f_7f7f

abbrev ones : ℕ
ones = 0x0101_0101_0101_0101

abbrev top_bits_of : ℕ → ℕ
top_bits_of x = bit_and x 0x8080_8080_8080_8080

-- the same number added to each byte
plus : (f : ℕ → ℕ) (y c x : ℕ) → y ≡ lanes f 8 x → y + c * ones ≡ lanes (λ b. f b + c) 8 x
plus f y c x e = ap₂ (λ (p q : ℕ). p + q) e (sym (same_byte c x)) ∙ add f (λ b. c) 8 x

-- the complement, byte by byte
not_is : (f : ℕ → ℕ) → Small f → (x : ℕ) → 0xffff_ffff_ffff_ffff - lanes f 8 x ≡ lanes (λ b. 255 - f b) 8 x
not_is f s x =
    let e : lanes (λ b. 255 - f b) 8 x + lanes f 8 x ≡ 255 * ones =
    add (λ b. 255 - f b) f 8 x ∙ ext (λ b. 255 - f b + f b) (λ b. 255) (λ b l. omega (arith, s b l)) 8 x ∙ same_byte 255 x in
    omega arith

-- the top bit of each byte
tops_is : (f : ℕ → ℕ) → Small f → (x : ℕ) → bit_and (lanes f 8 x) 0x8080_8080_8080_8080 ≡ lanes (λ b. bit_and (f b) 128) 8 x
tops_is f s x = ap (bit_and (lanes f 8 x)) (sym (same_byte 128 x)) ∙ and f (λ b. 128) s (λ b l. omega arith) 8 x

join : (f g : ℕ → ℕ) (p q x : ℕ) → p ≡ lanes f 8 x → q ≡ lanes g 8 x → Small f → Small g → bit_or p q ≡ lanes (λ b. bit_or (f b) (g b)) 8 x
join f g p q x d e s t = ap₂ bit_or d e ∙ or f g s t 8 x

-- ---- the bytes that may stand in a names list, of one byte

abbrev without : ℕ → ℕ
without b = bit_or b 32

abbrev letter : ℕ → ℕ
letter b = marked 97 122 (without b)

abbrev two : ℕ → ℕ
two b = bit_or (letter b) (marked 48 57 b)

abbrev three : ℕ → ℕ
three b = bit_or (two b) (marked 45 45 b)

abbrev four : ℕ → ℕ
four b = bit_or (three b) (marked 95 95 b)

abbrev five : ℕ → ℕ
five b = bit_or (four b) (marked 10 10 b)

-- 128 where the byte is none from `-` to `z`, else 0
unfoldable pub outer : ℕ → ℕ
outer b = if is_inner b then 0 else 128

pub lower_small : Small lower
unfolding any_below lower
lower_small = small lower refl

module _ (x : ℕ) (h : x < 2 ^ 64) where
  id_is : lanes (λ b. b) 8 x ≡ x
  id_is = whole 8 x h

  low_is : low_w x ≡ lanes low 8 x
  low_is = ap₂ bit_and (sym id_is) (sym (same_byte 127 x)) ∙ and (λ b. b) (λ b. 127) (λ b l. l) (λ b l. omega arith) 8 x

  -- a range
  pub between_is : (first last p q : ℕ) → p ≡ 128 - first → q ≡ 127 - last → first ≤ last → last < 128
      → bit_and (bit_and (bit_xor (low_w x + p * ones) (low_w x + q * ones)) (0xffff_ffff_ffff_ffff - x)) 0x8080_8080_8080_8080 ≡ lanes (marked first last) 8 x
  between_is first last p q d e k l =
      let more : (c : ℕ) → c ≤ 128 → Small (λ b. low b + c) = λ c m b n. let e = low_rest b n in omega arith in
      let reached : ℕ → ℕ = λ b. low b + (128 - first) in
      let passed : ℕ → ℕ = λ b. low b + (127 - last) in
      let apart : Small (λ b. bit_xor (reached b) (passed b)) = λ b n. xor_lt 8 (reached b) (passed b) (more (128 - first) (omega arith) b n) (more (127 - last) (omega arith) b n) in
      let kept : Small (λ b. bit_and (bit_xor (reached b) (passed b)) (255 - b)) =
      λ b n. let e = and_le_l (bit_xor (reached b) (passed b)) (255 - b) in omega (arith, apart b n) in
      let self_not : 0xffff_ffff_ffff_ffff - x ≡ lanes (λ b. 255 - b) 8 x =
      ap (λ (n : ℕ). 0xffff_ffff_ffff_ffff - n) (sym id_is) ∙ not_is (λ b. b) (λ b n. n) x in
      (λ i. top_bits_of (bit_and (bit_xor (low_w x + d i * ones) (low_w x + e i * ones)) (0xffff_ffff_ffff_ffff - x)))
      ∙ ap top_bits_of
      (ap₂ bit_and
      (ap₂ bit_xor (plus low (low_w x) (128 - first) x low_is) (plus low (low_w x) (127 - last) x low_is)
      ∙ xor reached passed (more (128 - first) (omega arith)) (more (127 - last) (omega arith)) 8 x)
      self_not
      ∙ and (λ b. bit_xor (reached b) (passed b)) (λ b. 255 - b) apart (λ b n. omega arith) 8 x)
      ∙ tops_is (λ b. bit_and (bit_xor (reached b) (passed b)) (255 - b)) kept x
      ∙ ext (ranged first last) (marked first last) (byte_ranged first last k l) 8 x

  -- a capital letter as the small one
  pub fold_is : (r : ℕ) → r ≡ lanes (marked 65 90) 8 x → x + r / 4 ≡ lanes lower 8 x
  unfolding any_below lower marked
  fold_is r e =
      ap₂ (λ (p q : ℕ). p + q) (sym id_is) (ap (λ (n : ℕ). n / 4) e ∙ quarter (marked 65 90) refl 8 x)
      ∙ add (λ b. b) (λ b. marked 65 90 b / 4) 8 x
      ∙ ext (λ b. b + marked 65 90 b / 4) lower (equal (λ b. b + marked 65 90 b / 4) lower refl) 8 x

  pub fold_fits : (r : ℕ) → r ≡ lanes (marked 65 90) 8 x → x + r / 4 < 2 ^ 64
  fold_fits r e = rw (fold_is r e) (bound lower lower_small 8 x)

  without_is : bit_or x 0x2020_2020_2020_2020 ≡ lanes without 8 x
  unfolding any_below
  without_is = ap₂ bit_or (sym id_is) (sym (same_byte 32 x)) ∙ or (λ b. b) (λ b. 32) (small (λ b. b) refl) (small (λ b. 32) refl) 8 x

  pub foreign_is : (l m n o p : ℕ) → l ≡ lanes (marked 97 122) 8 (bit_or x 0x2020_2020_2020_2020) → m ≡ lanes (marked 48 57) 8 x → n ≡ lanes (marked 45 45) 8 x → o ≡ lanes (marked 95 95) 8 x → p ≡ lanes (marked 10 10) 8 x
      → bit_and (0xffff_ffff_ffff_ffff - bit_or (bit_or (bit_or (bit_or l m) n) o) p) 0x8080_8080_8080_8080 ≡ lanes foreign 8 x
  unfolding any_below is_letter is_name_byte foreign marked
  foreign_is l m n o p e f g h i =
      let letters : l ≡ lanes letter 8 x = e ∙ ap (lanes (marked 97 122) 8) without_is ∙ twice (marked 97 122) without (small without refl) 8 x in
      let a = join letter (marked 48 57) l m x letters f (small letter refl) (small (marked 48 57) refl) in
      let b = join two (marked 45 45) _ n x a g (small two refl) (small (marked 45 45) refl) in
      let c = join three (marked 95 95) _ o x b h (small three refl) (small (marked 95 95) refl) in
      let d = join four (marked 10 10) _ p x c i (small four refl) (small (marked 10 10) refl) in
      ap top_bits_of (ap (λ (n : ℕ). 0xffff_ffff_ffff_ffff - n) d ∙ not_is five (small five refl) x)
      ∙ tops_is (λ b. 255 - five b) (small (λ b. 255 - five b) refl) x
      ∙ ext (λ b. bit_and (255 - five b) 128) foreign (equal (λ b. bit_and (255 - five b) 128) foreign refl) 8 x

-- where a byte is none from `-` to `z`
pub outer_is : (x r : ℕ) → r ≡ lanes (marked 45 122) 8 x → bit_and (0xffff_ffff_ffff_ffff - r) 0x8080_8080_8080_8080 ≡ lanes outer 8 x
unfolding any_below outer marked
outer_is x r e =
    ap top_bits_of (ap (λ (n : ℕ). 0xffff_ffff_ffff_ffff - n) e ∙ not_is (marked 45 122) (small (marked 45 122) refl) x)
    ∙ tops_is (λ b. 255 - marked 45 122 b) (small (λ b. 255 - marked 45 122 b) refl) x
    ∙ ext (λ b. bit_and (255 - marked 45 122 b) 128) outer (equal (λ b. bit_and (255 - marked 45 122 b) 128) outer refl) 8 x
