-- Laws of bytes that are alike, and of names that are equal.
use Rattle.std.specs.Prelude.{if◌then◌else◌}
use Prim.Native.Nat.{ℕ, ◌+◌, ◌≤◌}
use mathlib.Core.Path.{◌≡◌, refl, ap, sym, ◌∙◌}
use mathlib.Core.Bool.{Bool, true, false, ◌&&◌, ◌||◌}
use mathlib.Core.List.{List, [], ◌∷◌, map}
use mathlib.Core.Logic.{◌↔◌}
use native.Mathlib.Omega.{arith}
use lib.ListN.{length-map}
use lib.Dec.{eqb, leb}
use borrow.Author.Tests.{eqb-true, eq-eqb, le-leb}
use Rattle.model.specs.Table.{same_by, same_list}
use Rattle.model.specs.Names.{between, is_letter, is_name_byte, all_name_bytes, is_name, lower, alike, same_name, EachAlike}
use Rattle.model.proofs.Choice.{if_no, or_false, or_left, or_right, and_both, not_both, is_false}
use Rattle.model.proofs.Lists.{same_long, same_at, at_same}
use Rattle.model.proofs.Rows.{same_list_refl, same_list_true}
use Rattle.model.proofs.Bytes.{letter_byte}
use Rattle.model.proofs.Capitals.{capital, capital_from, capital_to}

-- ---- a byte in small

between_in : (low high b : ℕ) → low ≤ b → b ≤ high → between low high b ≡ true
between_in low high b l h = and_both (leb low b) (leb b high) (le-leb low b l) (le-leb b high h)

-- a letter stays a letter, another byte stays as it is
pub lower_letter : (b : ℕ) → is_letter (lower b) ≡ is_letter b
unfolding lower is_letter
lower_letter b = go (capital b) (capital_from b) (capital_to b)
  where
    letter : ℕ → Bool
    letter x = between 65 90 x || between 97 122 x

    go : (t : Bool) → (t ≡ true → 65 ≤ b) → (t ≡ true → b ≤ 90) → letter (if t then b + 32 else b) ≡ letter b
    go true f g =
        let l = f refl in
        let h = g refl in
        or_right (between 65 90 (b + 32)) (between 97 122 (b + 32)) (between_in 97 122 (b + 32) (omega arith) (omega arith))
        ∙ sym (or_left (between 65 90 b) (between 97 122 b) (between_in 65 90 b l h))
    go false f g = refl

pub lower_other : (b : ℕ) → is_letter b ≡ false → lower b ≡ b
unfolding lower is_letter
lower_other b e =
    if_no (capital b) (b + 32) b
    (is_false (capital b) (λ f. not_both (between 65 90 b) (between_in 65 90 b (capital_from b f) (capital_to b f)) (or_false (between 65 90 b) (between 97 122 b) e).0))

lower_twice : (b : ℕ) → lower (lower b) ≡ lower b
unfolding lower
lower_twice b = go (capital b) refl
  where
    small : Bool → ℕ
    small t = if t then b + 32 else b

    go : (t : Bool) → capital b ≡ t → (if capital (small t) then small t + 32 else small t) ≡ small t
    go true e =
        let l = capital_from b e in
        if_no (capital (b + 32)) (b + 32 + 32) (b + 32) (is_false (capital (b + 32)) (λ f. omega (arith, capital_to (b + 32) f)))
    go false e = if_no (capital b) (b + 32) b e

-- ---- when two bytes are alike

pub alike_refl : (a : ℕ) → alike a a ≡ true
unfolding alike
alike_refl a = eq-eqb (lower a) (lower a) refl

pub alike_sym : (a b : ℕ) → alike a b ≡ true → alike b a ≡ true
unfolding alike
alike_sym a b e = eq-eqb (lower b) (lower a) (sym (eqb-true (lower a) (lower b) e))

pub alike_trans : (a b c : ℕ) → alike a b ≡ true → alike b c ≡ true → alike a c ≡ true
unfolding alike
alike_trans a b c e f = eq-eqb (lower a) (lower c) (eqb-true (lower a) (lower b) e ∙ eqb-true (lower b) (lower c) f)

-- a byte is alike to itself in small
pub alike_lower : (b : ℕ) → alike (lower b) b ≡ true
unfolding alike
alike_lower b = eq-eqb (lower (lower b)) (lower b) (lower_twice b)

-- alike bytes are letters together, and name bytes together; what is no letter is alike to itself alone
pub letter_alike : (a b : ℕ) → alike a b ≡ true → is_letter a ≡ is_letter b
unfolding alike
letter_alike a b e = sym (lower_letter a) ∙ ap is_letter (eqb-true (lower a) (lower b) e) ∙ lower_letter b

pub other_alike : (a b : ℕ) → alike a b ≡ true → is_letter a ≡ false → a ≡ b
unfolding alike
other_alike a b e f = sym (lower_other a f) ∙ eqb-true (lower a) (lower b) e ∙ lower_other b (sym (letter_alike a b e) ∙ f)

pub byte_alike : (a b : ℕ) → alike a b ≡ true → is_name_byte a ≡ is_name_byte b
byte_alike a b e = go (is_letter a) refl
  where
    go : (t : Bool) → is_letter a ≡ t → is_name_byte a ≡ is_name_byte b
    go true f = letter_byte a f ∙ sym (letter_byte b (sym (letter_alike a b e) ∙ f))
    go false f = ap is_name_byte (other_alike a b e f)

pub mark_alike : (a b : ℕ) → alike a b ≡ true → is_name_byte a ≡ false → a ≡ b
mark_alike a b e f = other_alike a b e (is_false (is_letter a) (λ g. not_both (is_name_byte a) (letter_byte a g) f))

-- ---- when two names are equal

-- exactly if they are the same bytes in small
same_lower : (a b : List ℕ) → same_name a b ≡ same_list (map lower a) (map lower b)
unfolding same_by alike
same_lower [] [] = refl
same_lower [] (y ∷ b) = refl
same_lower (x ∷ a) [] = refl
same_lower (x ∷ a) (y ∷ b) = ap (λ (t : Bool). eqb (lower x) (lower y) && t) (same_lower a b)

pub same_folded : (a b : List ℕ) → same_name a b ≡ true → map lower a ≡ map lower b
same_folded a b e = same_list_true (map lower a) (map lower b) (sym (same_lower a b) ∙ e)

pub folded_same : (a b : List ℕ) → map lower a ≡ map lower b → same_name a b ≡ true
folded_same a b e = same_lower a b ∙ ap (same_list (map lower a)) (sym e) ∙ same_list_refl (map lower a)

pub same_refl : (a : List ℕ) → same_name a a ≡ true
same_refl a = folded_same a a refl

pub same_sym : (a b : List ℕ) → same_name a b ≡ true → same_name b a ≡ true
same_sym a b e = folded_same b a (sym (same_folded a b e))

pub same_trans : (a b c : List ℕ) → same_name a b ≡ true → same_name b c ≡ true → same_name a c ≡ true
same_trans a b c e f = folded_same a c (same_folded a b e ∙ same_folded b c f)

-- exactly if they are as long, and alike at each place
pub same_exactly : (a b : List ℕ) → (same_name a b ≡ true) ↔ EachAlike a b
same_exactly a b =
    (λ e. record { long = same_long alike a b e; at = same_at alike a b e }, λ h. at_same alike a b h.long h.at)

-- a name is equal to itself in small
pub same_small : (a : List ℕ) → same_name (map lower a) a ≡ true
unfolding same_by
same_small [] = refl
same_small (b ∷ bs) = and_both (alike (lower b) b) (same_name (map lower bs) bs) (alike_lower b) (same_small bs)

-- equal names are equal to the same names
pub same_both : (a b c : List ℕ) → same_name a b ≡ true → same_name c a ≡ same_name c b
same_both a b c e = same_lower c a ∙ ap (same_list (map lower c)) (same_folded a b e) ∙ sym (same_lower c b)

pub both_same : (a b c : List ℕ) → same_name a b ≡ true → same_name a c ≡ same_name b c
both_same a b c e = same_lower a c ∙ ap (λ (x : List ℕ). same_list x (map lower c)) (same_folded a b e) ∙ sym (same_lower b c)

-- a name in small is a name: so of equal names both are names
small_bytes : (a : List ℕ) → all_name_bytes (map lower a) ≡ all_name_bytes a
unfolding all_name_bytes
small_bytes [] = refl
small_bytes (b ∷ bs) = rw (byte_alike (lower b) b (alike_lower b), small_bytes bs)

pub small_name : (a : List ℕ) → is_name (map lower a) ≡ is_name a
unfolding is_name
small_name [] = refl
small_name (b ∷ bs) = rw (lower_letter b, small_bytes bs, length-map bs lower)

pub same_bytes : (a b : List ℕ) → same_name a b ≡ true → all_name_bytes a ≡ all_name_bytes b
same_bytes a b e = sym (small_bytes a) ∙ ap all_name_bytes (same_folded a b e) ∙ small_bytes b
