-- Two numbers are alike place by place, and so are the bytes that they are read from. Assumes nothing.
use Prim.Native.Nat.{ℕ, zero, suc, ◌+◌, ◌*◌, ◌/◌, ◌%◌, ◌^◌, ◌<◌}
use mathlib.Core.Path.{◌≡◌, refl, sym, ap, ap₂, ◌∙◌}
use mathlib.Core.Bool.{Bool, true, false, ◌&&◌}
use mathlib.Core.List.{List, [], ◌∷◌}
use mathlib.Core.Logic.{◌↔◌}
use native.Mathlib.Nat.{mod-lt, div-one, div-div-eq-div-mul, pow-succ'}
use native.Mathlib.Omega.{arith}
use lib.Arith.{digits_div, digits_mod}
use lib.Dec.{eqb, ltb}
use lib.ListN.{length}
use borrow.Author.Tests.{eqb-true, eq-eqb, ltb-true, ltb-false}
use Rattle.model.specs.Table.{same_by}
use Rattle.model.specs.Names.{lower, alike, same_name}
use Rattle.words.specs.Words.{byte_at, places_alike, words_alike, EachPlaceAlike, packed, lanes}
use Rattle.words.proofs.Formulas.{lower_small}
use Rattle.words.proofs.Reading.{Bytes, others}

-- from the lowest place on
up : (m x y : ℕ) → Bool
up zero x y = true
up (suc m) x y = alike (x % 256) (y % 256) && up m (x / 256) (y / 256)

both_tests : (a b : Bool) → (a ≡ true → b ≡ true) → (b ≡ true → a ≡ true) → a ≡ b
both_tests true b f g = sym (f refl)
both_tests false true f g = g refl
both_tests false false f g = refl

parts : (a b : Bool) → a && b ≡ true → (a ≡ true) × (b ≡ true)
parts true b e = (refl, e)
parts false b e = let z : ◌≡◌ {A = ℕ} 0 1 = cc in absurd (omega arith)

pair : (a b : Bool) → a ≡ true → b ≡ true → a && b ≡ true
pair a b e f = rw (e, f)

digits : (p q r s : ℕ) → r < 256 → s < 256 → eqb (p * 256 + r) (q * 256 + s) ≡ eqb r s && eqb p q
digits p q r s l m =
    both_tests _ _
    (λ h. let e : p * 256 + r ≡ q * 256 + s = eqb-true _ _ h in pair (eqb r s) (eqb p q) (eq-eqb r s (omega arith)) (eq-eqb p q (omega arith)))
    (λ h. let k = parts (eqb r s) (eqb p q) h in let e = eqb-true r s k.0 in let f = eqb-true p q k.1 in eq-eqb (p * 256 + r) (q * 256 + s) (omega arith))

up_lanes : (m x y : ℕ) → eqb (lanes lower m x) (lanes lower m y) ≡ up m x y
unfolding lanes up alike
up_lanes zero x y = refl
up_lanes (suc m) x y =
    digits (lanes lower m (x / 256)) (lanes lower m (y / 256)) (lower (x % 256)) (lower (y % 256))
    (lower_small (x % 256) (mod-lt x (omega arith))) (lower_small (y % 256) (mod-lt y (omega arith)))
    ∙ ap (λ (t : Bool). alike (x % 256) (y % 256) && t) (up_lanes m (x / 256) (y / 256))

-- the first place, and the others
and_turn : (a b c : Bool) → (a && b) && c ≡ a && (b && c)
and_turn true b c = refl
and_turn false b c = refl

byte_next : (x k : ℕ) → byte_at x (suc k) ≡ byte_at (x / 256) k
byte_next x k = ap (λ (n : ℕ). n % 256) (ap (λ (n : ℕ). x / n) (pow-succ' 256 k) ∙ sym (div-div-eq-div-mul x 256 (256 ^ k)))

first : (m x y : ℕ) → places_alike (suc m) x y ≡ alike (x % 256) (y % 256) && places_alike m (x / 256) (y / 256)
unfolding places_alike
first zero x y = (λ i. alike (div-one x i % 256) (div-one y i % 256)) ∙ last (alike (x % 256) (y % 256))
  where
    last : (t : Bool) → t ≡ t && true
    last true = refl
    last false = refl
first (suc m) x y =
    (λ i. first m x y i && alike (byte_next x m i) (byte_next y m i))
    ∙ and_turn (alike (x % 256) (y % 256)) (places_alike m (x / 256) (y / 256)) (alike (byte_at (x / 256) m) (byte_at (y / 256) m))

up_places : (m x y : ℕ) → places_alike m x y ≡ up m x y
unfolding places_alike up
up_places zero x y = refl
up_places (suc m) x y = first m x y ∙ ap (λ (t : Bool). alike (x % 256) (y % 256) && t) (up_places m (x / 256) (y / 256))

pub words_is : (x y p q : ℕ) → p ≡ lanes lower 8 x → q ≡ lanes lower 8 y → eqb p q ≡ words_alike x y
unfolding words_alike
words_is x y p q e f = ap₂ eqb e f ∙ up_lanes 8 x y ∙ sym (up_places 8 x y)

-- each place, and all
places_each : (m x y : ℕ) → places_alike m x y ≡ true → (k : ℕ) → k < m → alike (byte_at x k) (byte_at y k) ≡ true
unfolding places_alike
places_each zero x y e k l = absurd (omega arith)
places_each (suc m) x y e k l =
    let p = parts (places_alike m x y) (alike (byte_at x m) (byte_at y m)) e in
    go (ltb k m) refl (places_each m x y p.0) p.1
  where
    go : (t : Bool) → ltb k m ≡ t → ((j : ℕ) → j < m → alike (byte_at x j) (byte_at y j) ≡ true) → alike (byte_at x m) (byte_at y m) ≡ true
        → alike (byte_at x k) (byte_at y k) ≡ true
    go true f h g = h k (ltb-true k m f)
    go false f h g = let s : k ≡ m = omega (arith, ltb-false k m f) in rw s g

each_places : (m x y : ℕ) → ((k : ℕ) → k < m → alike (byte_at x k) (byte_at y k) ≡ true) → places_alike m x y ≡ true
unfolding places_alike
each_places zero x y h = refl
each_places (suc m) x y h = pair (places_alike m x y) (alike (byte_at x m) (byte_at y m)) (each_places m x y (λ k l. h k (omega arith))) (h m (omega arith))

-- exactly if they are alike in each of the eight places
pub words_exactly : (x y : ℕ) → (words_alike x y ≡ true) ↔ EachPlaceAlike x y
unfolding words_alike
words_exactly x y = (λ e. record { at = places_each 8 x y e }, λ h. each_places 8 x y h.at)

-- the bytes that two numbers are read from
up_list : (m : ℕ) (xs ys : List ℕ) → Bytes xs → Bytes ys → length xs ≡ m → length ys ≡ m → up m (packed xs) (packed ys) ≡ same_name xs ys
unfolding up packed same_by
up_list zero [] [] p q e f = refl
up_list (suc m) (x ∷ xs) (y ∷ ys) p q e f =
    let b = p 0 (omega arith) in
    let c = q 0 (omega arith) in
    (λ i. alike (digits_mod (packed xs) b i) (digits_mod (packed ys) c i) && up m (digits_div (packed xs) b i) (digits_div (packed ys) c i))
    ∙ ap (λ (t : Bool). alike x y && t) (up_list m xs ys (others x xs p) (others y ys q) (omega arith) (omega arith))
up_list zero (x ∷ xs) ys p q e f = absurd (omega arith)
up_list zero [] (y ∷ ys) p q e f = absurd (omega arith)
up_list (suc m) [] ys p q e f = absurd (omega arith)
up_list (suc m) (x ∷ xs) [] p q e f = absurd (omega arith)

pub words_list : (xs ys : List ℕ) → Bytes xs → Bytes ys → length xs ≡ 8 → length ys ≡ 8 → words_alike (packed xs) (packed ys) ≡ same_name xs ys
unfolding words_alike
words_list xs ys p q e f = up_places 8 (packed xs) (packed ys) ∙ up_list 8 xs ys p q e f
