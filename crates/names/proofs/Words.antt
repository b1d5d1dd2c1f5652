-- Names taken by words of eight bytes: compared, found the end of, and hashed. Assumes nothing.
use Rattle.std.specs.Prelude.{if◌then◌else◌}
use Rattle.std.specs.List.{list_all, zip}
use Rattle.std.specs.Int.{w64, from_le_bytes}
use Rattle.std.specs.Simd.{first_chunks}
use Prim.Native.Nat.{ℕ, zero, suc, ◌+◌, ◌-◌, ◌*◌, ◌/◌, ◌%◌, ◌^◌, ◌<◌, ◌≤◌}
use mathlib.Core.Path.{◌≡◌, refl, sym, ap, ap₂, ◌∙◌}
use mathlib.Core.Bool.{Bool, true, false, ◌&&◌}
use mathlib.Core.List.{List, [], ◌∷◌, ◌++◌, map, map-append}
use native.Mathlib.Nat.{mul-suc}
use native.Mathlib.Omega.{arith}
use lib.Arith.{digits_div, digits_mod}
use lib.Bits.{bit_or, or_block, or_mod, or_add_and, and_le_l, and_le_r}
use lib.ListN.{length, get_or, take, drop, replicate, length-map, length-append, length-drop, length-take}
use lib.Seq.{drop-drop, length-take-le, take_all, take_at, drop_at, get_or-take, get_or-drop}
use lib.Dec.{ltb}
use borrow.Author.Tests.{ltb-true, ltb-false}
use Rattle.model.specs.Table.{same_by}
use Rattle.model.specs.Names.{all_name_bytes, alike, same_name}
use Rattle.model.proofs.Bytes.{byte_others}
use Rattle.model.proofs.Choice.{and_true}
use Rattle.words.specs.Words.{words_alike, packed, Word, lanes, is_inner, inner_ahead, is_list_byte, foreign}
use Rattle.words.proofs.Reading.{Bytes, others, taken, dropped, packed_front, packed_below, eight_packed}
use Rattle.words.proofs.Alike.{words_list}
use Rattle.names.specs.NamesIndex.{caseless, all_inner, stretch, OnlyListBytes, front_of, mixed, mix_words, bucket_at, hash_of, StretchFrom}
use Rattle.names.proofs.Bytes.{inner_others, stretch_split}

-- ---- parts of bytes

pub dropped_clean : (n : ℕ) (xs : List ℕ) → all_name_bytes xs ≡ true → all_name_bytes (drop n xs) ≡ true
dropped_clean zero xs e = e
dropped_clean (suc n) [] e = e
dropped_clean (suc n) (x ∷ xs) e = dropped_clean n xs (byte_others x xs e)

pub dropped_inner : (n : ℕ) (xs : List ℕ) → all_inner xs ≡ true → all_inner (drop n xs) ≡ true
dropped_inner zero xs e = e
dropped_inner (suc n) [] e = e
dropped_inner (suc n) (x ∷ xs) e = dropped_inner n xs (inner_others x xs e)

eight_long : (i : ℕ) (xs : List ℕ) → i + 8 ≤ length xs → length (take 8 (drop i xs)) ≡ 8
eight_long i xs l = length-take-le 8 (drop i xs) (rw (length-drop i xs) (omega arith))

-- ---- two names, in two parts

and_assoc : (a b c : Bool) → a && (b && c) ≡ (a && b) && c
and_assoc true b c = refl
and_assoc false b c = refl

same_split : (m : ℕ) (xs ys : List ℕ) → length xs ≡ length ys → same_name xs ys ≡ same_name (take m xs) (take m ys) && same_name (drop m xs) (drop m ys)
unfolding same_by
same_split zero xs ys e = refl
same_split (suc m) [] [] e = refl
same_split (suc m) [] (y ∷ ys) e = absurd (omega arith)
same_split (suc m) (x ∷ xs) [] e = absurd (omega arith)
same_split (suc m) (x ∷ xs) (y ∷ ys) e =
    ap (λ (t : Bool). alike x y && t) (same_split m xs ys (omega arith)) ∙ and_assoc (alike x y) (same_name (take m xs) (take m ys)) (same_name (drop m xs) (drop m ys))

-- eight bytes of two names, as words: alike, or not
pub compare_word : (a b : List ℕ) (i x y : ℕ) (t : Bool) → Bytes a → Bytes b → length a ≡ length b → i + 8 ≤ length a → Word 8 i a x → Word 8 i b y
    → words_alike x y ≡ t → same_name (drop i a) (drop i b) ≡ t && same_name (drop (i + 8) a) (drop (i + 8) b)
compare_word a b i x y t p q e l v w f =
    same_split 8 (drop i a) (drop i b) (rw (length-drop i a, length-drop i b, e))
    ∙ (λ j. (sym (words_list (take 8 (drop i a)) (take 8 (drop i b)) (taken 8 (drop i a) (dropped i a p)) (taken 8 (drop i b) (dropped i b q)) (eight_long i a l) (eight_long i b (omega arith)))
    ∙ ap₂ words_alike (sym v.is) (sym w.is) ∙ f) j && same_name (drop-drop 8 i a j) (drop-drop 8 i b j))

-- two chunks of eight bytes, as words
abbrev pub alike_chunks : List ℕ × List ℕ → Bool
alike_chunks p = words_alike (packed (take 8 (drop 0 p.0))) (packed (take 8 (drop 0 p.1)))

-- the word of a list's first chunk is that of its first eight bytes
first_word : (a : List ℕ) → Bytes a → 8 ≤ length a → Word 8 0 a (packed (take 8 (drop 0 (take 8 a))))
first_word a p l =
    let long : length (take 8 a) ≡ 8 = length-take-le 8 a l in
    let whole : take 8 (take 8 a) ≡ take 8 a = take_all 8 (take 8 a) (omega arith) in
    record { is = ap packed whole; below = rw whole (rw long at (packed_below (take 8 a) (taken 8 a p))) }

-- k chunks, and the rest: a chunk after another by compare_word
pub words_same : (k : ℕ) (a b : List ℕ) → Bytes a → Bytes b → length a ≡ length b → k * 8 ≤ length a
    → list_all alike_chunks (zip (first_chunks 8 k a) (first_chunks 8 k b)) && same_name (drop (k * 8) a) (drop (k * 8) b) ≡ same_name a b
words_same zero a b p q e l = refl
words_same (suc k) a b p q e l =
    let n : 8 + k * 8 ≡ suc k * 8 = omega arith in
    let far : (xs : List ℕ) → drop (k * 8) (drop 8 xs) ≡ drop (suc k * 8) xs = λ xs. drop-drop (k * 8) 8 xs ∙ ap (λ (j : ℕ). drop j xs) n in
    let here : Bool = alike_chunks (take 8 a, take 8 b) in
    let rest : Bool = list_all alike_chunks (zip (first_chunks 8 k (drop 8 a)) (first_chunks 8 k (drop 8 b))) in
    let others : rest && same_name (drop (suc k * 8) a) (drop (suc k * 8) b) ≡ same_name (drop 8 a) (drop 8 b) =
    sym (λ i. rest && same_name (far a i) (far b i))
    ∙ words_same k (drop 8 a) (drop 8 b) (dropped 8 a p) (dropped 8 b q) (omega (arith, length-drop 8 a, length-drop 8 b)) (omega (arith, length-drop 8 a)) in
    sym (and_assoc here rest (same_name (drop (suc k * 8) a) (drop (suc k * 8) b)))
    ∙ ap (λ (t : Bool). here && t) others
    ∙ sym (compare_word a b 0 _ _ here p q e (omega arith) (first_word a p (omega arith)) (first_word b q (omega arith)) refl)

-- by what the chunks were found to be, and the rests
pub parts_same : (a b x y : List ℕ) (c d : List (List ℕ)) (t r : Bool) → Bytes a → Bytes b → length a ≡ length b → c ≡ first_chunks 8 (length a / 8) a → d ≡ first_chunks 8 (length b / 8) b
    → x ≡ drop (length a / 8 * 8) a → y ≡ drop (length b / 8 * 8) b → t ≡ list_all alike_chunks (zip c d) → r ≡ t && same_name x y → r ≡ same_name a b
parts_same a b x y c d t r p q e f g h k u v =
    let w = ap (λ (n : ℕ). n / 8) (sym e) in
    v ∙ ap₂ (λ (s : Bool) (z : List ℕ). s && same_name z y) u h
    ∙ (λ i. list_all alike_chunks (zip (f i) (g i)) && same_name (drop (length a / 8 * 8) a) (k i))
    ∙ ap (λ (n : ℕ). list_all alike_chunks (zip (first_chunks 8 (length a / 8) a) (first_chunks 8 n b)) && same_name (drop (length a / 8 * 8) a) (drop (n * 8) b)) w
    ∙ words_same (length a / 8) a b p q e (omega arith)

-- a chunk
pub chunk_at : (n k i : ℕ) (xs : List ℕ) → i < k → get_or (first_chunks n k xs) i [] ≡ take n (drop (n * i) xs)
chunk_at n zero i xs l = absurd (omega arith)
chunk_at n (suc k) zero xs l = let z : n * 0 ≡ 0 = omega arith in ap (λ (j : ℕ). take n (drop j xs)) (sym z)
chunk_at n (suc k) (suc i) xs l =
    chunk_at n k i (drop n xs) (omega arith) ∙ ap (take n) (drop-drop (n * i) n xs) ∙ ap (λ (j : ℕ). take n (drop j xs)) (let z : n + n * i ≡ n * suc i = omega (arith, mul-suc n i) in z)

-- ---- the stretch, by words

-- it ends within the first m bytes, or goes on after them
stretch_within : (m : ℕ) (xs : List ℕ) → length (stretch (take m xs)) < m → stretch xs ≡ stretch (take m xs)
unfolding stretch
stretch_within zero xs l = absurd (omega arith)
stretch_within (suc m) [] l = refl
stretch_within (suc m) (x ∷ xs) l = go (is_inner x) (stretch_within m xs) l
  where
    go : (t : Bool) → (length (stretch (take m xs)) < m → stretch xs ≡ stretch (take m xs)) → length (if t then x ∷ stretch (take m xs) else []) < suc m
        → (if t then x ∷ stretch xs else []) ≡ (if t then x ∷ stretch (take m xs) else [])
    go true f l = ap (λ (r : List ℕ). x ∷ r) (f (omega arith))
    go false f l = refl

stretch_beyond : (m : ℕ) (xs : List ℕ) → length (stretch (take m xs)) ≡ m → stretch xs ≡ take m xs ++ stretch (drop m xs)
unfolding stretch
stretch_beyond zero xs e = refl
stretch_beyond (suc m) [] e = absurd (omega arith)
stretch_beyond (suc m) (x ∷ xs) e = go (is_inner x) (stretch_beyond m xs) e
  where
    go : (t : Bool) → (length (stretch (take m xs)) ≡ m → stretch xs ≡ take m xs ++ stretch (drop m xs)) → length (if t then x ∷ stretch (take m xs) else []) ≡ suc m
        → (if t then x ∷ stretch xs else []) ≡ x ∷ (take m xs ++ stretch (drop m xs))
    go true f e = ap (λ (r : List ℕ). x ∷ r) (f (omega arith))
    go false f e = absurd (omega arith)

-- a stretch stands at the front of its bytes
stretch_front : (xs : List ℕ) → take (length (stretch xs)) xs ≡ stretch xs
stretch_front xs =
    ap (take (length (stretch xs))) (stretch_split xs).0 ∙ take_at (stretch xs) (drop (length (stretch xs)) xs) (length (stretch xs)) refl

stretch_short : (xs : List ℕ) → length (stretch xs) ≤ length xs
stretch_short xs = let e = ap length (stretch_front xs) in omega (arith, length-take (length (stretch xs)) xs)

-- by the bytes of a number: where it has more places than there are bytes, the others are 0
ahead_stretch : (m : ℕ) (xs : List ℕ) → Bytes xs → length xs ≤ m → inner_ahead m (packed xs) ≡ length (stretch xs)
unfolding packed inner_ahead stretch
ahead_stretch zero [] p l = refl
ahead_stretch zero (x ∷ xs) p l = absurd (omega arith)
ahead_stretch (suc m) [] p l = refl
ahead_stretch (suc m) (x ∷ xs) p l =
    let b = p 0 (omega arith) in
    (λ i. if is_inner (digits_mod (packed xs) b i) then suc (inner_ahead m (digits_div (packed xs) b i)) else 0)
    ∙ go (is_inner x) (ahead_stretch m xs (others x xs p) (omega arith))
  where
    go : (t : Bool) → inner_ahead m (packed xs) ≡ length (stretch xs) → (if t then suc (inner_ahead m (packed xs)) else 0) ≡ length (if t then x ∷ stretch xs else [])
    go true h = ap suc h
    go false h = refl

-- ---- words with the bits of the case set

set_bits : (xs : List ℕ) → Bytes xs → bit_or (packed xs) (packed (map (λ b. 32) xs)) ≡ packed (map caseless xs)
unfolding packed
set_bits [] p = refl
set_bits (x ∷ xs) p =
    or_block 8 (packed xs) (packed (map (λ b. 32) xs)) x 32 (p 0 (omega arith)) (omega arith)
    ∙ ap (λ (n : ℕ). n * 256 + caseless x) (set_bits xs (others x xs p))

all_bits : (n : ℕ) (xs : List ℕ) → length xs ≡ n → map {A = ℕ} {B = ℕ} (λ b. 32) xs ≡ replicate n 32
all_bits zero [] e = refl
all_bits zero (x ∷ xs) e = absurd (omega arith)
all_bits (suc n) [] e = absurd (omega arith)
all_bits (suc n) (x ∷ xs) e = ap (λ (r : List ℕ). 32 ∷ r) (all_bits n xs (omega arith))

-- of so many bytes, up to eight
bits_front : (n : ℕ) → n ≤ 8 → (0x2020_2020_2020_2020 % 256 ^ n ≡ packed (replicate n 32)) × (256 ^ n ≡ 2 ^ (8 * n))
unfolding packed
bits_front zero l = (refl, refl)
bits_front (suc zero) l = (refl, refl)
bits_front (suc (suc zero)) l = (refl, refl)
bits_front (suc (suc (suc zero))) l = (refl, refl)
bits_front (suc (suc (suc (suc zero)))) l = (refl, refl)
bits_front (suc (suc (suc (suc (suc zero))))) l = (refl, refl)
bits_front (suc (suc (suc (suc (suc (suc zero)))))) l = (refl, refl)
bits_front (suc (suc (suc (suc (suc (suc (suc zero))))))) l = (refl, refl)
bits_front (suc (suc (suc (suc (suc (suc (suc (suc zero)))))))) l = (refl, refl)
bits_front (suc (suc (suc (suc (suc (suc (suc (suc (suc n))))))))) l = absurd (omega arith)

front_bits : (xs : List ℕ) (n w : ℕ) → Bytes xs → n ≤ length xs → n ≤ 8 → w ≡ packed xs → front_of n w ≡ packed (map caseless (take n xs))
front_bits xs n w p l h e =
    let f = bits_front n h in
    let long : length (take n xs) ≡ n = length-take-le n xs l in
    ap (λ (k : ℕ). bit_or w 0x2020_2020_2020_2020 % k) f.1
    ∙ or_mod w 0x2020_2020_2020_2020 (8 * n)
    ∙ ap₂ bit_or
    (ap (λ (k : ℕ). w % k) (sym f.1) ∙ ap (λ (x : ℕ). x % 256 ^ n) e ∙ packed_front n xs p l)
    (ap (λ (k : ℕ). 0x2020_2020_2020_2020 % k) (sym f.1) ∙ f.0 ∙ ap packed (sym (all_bits n (take n xs) long)))
    ∙ set_bits (take n xs) (taken n xs p)

-- ---- the hash

-- fewer than eight bytes are left
hash_few : (h : ℕ) (xs : List ℕ) → length xs < 8 → hash_of h xs ≡ bucket_at (mixed h (packed (map caseless xs)))
unfolding hash_of mix_words
hash_few h xs l = let e : length xs / 8 ≡ 0 = omega arith in rw e

-- eight bytes, and others
hash_word : (h : ℕ) (xs ys : List ℕ) → length xs ≡ 8 → hash_of h (xs ++ ys) ≡ hash_of (mixed h (packed (map caseless xs))) ys
unfolding hash_of mix_words
hash_word h xs ys e =
    let n = length-append xs ys in
    let d : length (xs ++ ys) / 8 ≡ suc (length ys / 8) = omega arith in
    let m = map-append caseless xs ys in
    let f : length (map caseless xs) ≡ 8 = length-map xs caseless ∙ e in
    ap₂ (λ (k : ℕ) (l : List ℕ). bucket_at (mix_words k h l)) d m
    ∙ ap₂ (λ (x y : List ℕ). bucket_at (mix_words (length ys / 8) (mixed h (packed x)) y)) (take_at (map caseless xs) (map caseless ys) 8 f) (drop_at (map caseless xs) (map caseless ys) 8 f)

-- ---- the word read at i

-- the stretch from `at` goes on at i, with the hash h so far
abbrev pub GoesOn : (seed at : ℕ) (bytes : List ℕ) (i h : ℕ) → Type 0
GoesOn seed at bytes i h =
    (i ≤ length bytes) × (i + length (stretch (drop i bytes)) ≡ at + length (stretch (drop at bytes))) × (hash_of h (stretch (drop i bytes)) ≡ hash_of seed (stretch (drop at bytes)))

module _ (bytes : List ℕ) (i w : ℕ) (p : Bytes bytes) (v : Word 8 i bytes w) where
  small : Bytes (take 8 (drop i bytes))
  small = taken 8 (drop i bytes) (dropped i bytes p)

  -- it begins with n bytes from `-` to `z`
  module _ (n : ℕ) (e : n ≡ inner_ahead 8 w) where
    front : n ≡ length (stretch (take 8 (drop i bytes)))
    front = e ∙ ap (inner_ahead 8) v.is ∙ ahead_stretch 8 (take 8 (drop i bytes)) small (omega (arith, length-take 8 (drop i bytes)))

    front_within : n ≤ length (take 8 (drop i bytes))
    front_within = omega (arith, front, stretch_short (take 8 (drop i bytes)))

    -- fewer than eight: the stretch ends there
    module _ (lt : n < 8) where
      stretch_here : stretch (drop i bytes) ≡ stretch (take 8 (drop i bytes))
      stretch_here = stretch_within 8 (drop i bytes) (omega (arith, front))

      stops_at : length (stretch (drop i bytes)) ≡ n
      stops_at = ap length stretch_here ∙ sym front

      stops_hash : (h b m : ℕ) → m ≡ mixed h (front_of n w) → b ≡ bucket_at m → b ≡ hash_of h (stretch (drop i bytes))
      stops_hash h b m f g =
          let q : front_of n w ≡ packed (map caseless (stretch (drop i bytes))) =
          front_bits (take 8 (drop i bytes)) n w small front_within (omega arith) v.is
          ∙ ap (λ (x : List ℕ). packed (map caseless x)) (ap (λ (k : ℕ). take k (take 8 (drop i bytes))) front ∙ stretch_front (take 8 (drop i bytes)) ∙ sym stretch_here) in
          g ∙ ap bucket_at (f ∙ ap (mixed h) q) ∙ sym (hash_few h (stretch (drop i bytes)) (omega (arith, stops_at)))

      pub stops : (seed at h : ℕ) → GoesOn seed at bytes i h → (b m : ℕ) → m ≡ mixed h (front_of n w) → (b ≡ bucket_at m) × (b < 512)
          → StretchFrom seed bytes at (record { end = i + n; bucket = b })
      stops seed at h s b m f g =
          record {
            ends = omega (arith, stops_at, s.1);
            within = omega (arith, front_within, length-take 8 (drop i bytes), length-drop i bytes, s.0);
            hashed = stops_hash h b m f g.0 ∙ s.2;
            below = g.1;
          }

    -- all eight: it goes on
    module _ (ge : 8 ≤ n) where
      long : length (take 8 (drop i bytes)) ≡ 8
      long = omega (arith, front_within, length-take 8 (drop i bytes))

      pub goes_within : i + 8 ≤ length bytes
      goes_within = omega (arith, long, length-take 8 (drop i bytes), length-drop i bytes)

      stretch_on : stretch (drop i bytes) ≡ take 8 (drop i bytes) ++ stretch (drop (i + 8) bytes)
      stretch_on =
          stretch_beyond 8 (drop i bytes) (omega (arith, front, stretch_short (take 8 (drop i bytes)), long))
          ∙ ap (λ (x : List ℕ). take 8 (drop i bytes) ++ stretch x) (drop-drop 8 i bytes)

      goes_on_lem : i + length (stretch (drop i bytes)) ≡ i + 8 + length (stretch (drop (i + 8) bytes))
      goes_on_lem = let a = ap length stretch_on in omega (arith, a, length-append (take 8 (drop i bytes)) (stretch (drop (i + 8) bytes)), long)

      goes_hash : (h m : ℕ) → m ≡ mixed h (bit_or w 0x2020_2020_2020_2020) → hash_of m (stretch (drop (i + 8) bytes)) ≡ hash_of h (stretch (drop i bytes))
      goes_hash h m f =
          let b : bit_or w 0x2020_2020_2020_2020 ≡ packed (map caseless (take 8 (drop i bytes))) =
          ap₂ bit_or v.is ((bits_front 8 (omega arith)).0 ∙ ap packed (sym (all_bits 8 (take 8 (drop i bytes)) long))) ∙ set_bits (take 8 (drop i bytes)) small in
          ap (λ (x : ℕ). hash_of x (stretch (drop (i + 8) bytes))) (f ∙ ap (mixed h) b)
          ∙ sym (hash_word h (take 8 (drop i bytes)) (stretch (drop (i + 8) bytes)) long)
          ∙ ap (hash_of h) (sym stretch_on)

      pub goes : (seed at h : ℕ) → GoesOn seed at bytes i h → (m : ℕ) → m ≡ mixed h (bit_or w 0x2020_2020_2020_2020) → GoesOn seed at bytes (i + 8) m
      goes seed at h s m f = (goes_within, sym goes_on_lem ∙ s.1, goes_hash h m f ∙ s.2)

-- ---- only bytes of a names list

-- no mark in any of the m bytes
unmarked : (m : ℕ) (xs : List ℕ) → Bytes xs → length xs ≡ m → lanes foreign m (packed xs) ≡ 0 → (i : ℕ) → i < m → is_list_byte (get_or xs i 0) ≡ true
unfolding packed lanes foreign
unmarked zero xs p e z i l = absurd (omega arith)
unmarked (suc m) [] p e z i l = absurd (omega arith)
unmarked (suc m) (x ∷ xs) p e z i l = go (is_list_byte x) refl here (unmarked m xs (others x xs p) (omega arith)) i l
  where
    b : x < 256
    b = p 0 (omega arith)

    here : lanes foreign m (packed xs) * 256 + (if is_list_byte x then 0 else 128) ≡ 0
    here = sym (λ i. lanes foreign m (digits_div (packed xs) b i) * 256 + (if is_list_byte (digits_mod (packed xs) b i) then 0 else 128)) ∙ z

    go : (t : Bool) → is_list_byte x ≡ t → lanes foreign m (packed xs) * 256 + (if t then 0 else 128) ≡ 0
        → (lanes foreign m (packed xs) ≡ 0 → (i : ℕ) → i < m → is_list_byte (get_or xs i 0) ≡ true) → (i : ℕ) → i < suc m → is_list_byte (get_or (x ∷ xs) i 0) ≡ true
    go true f z r zero l = f
    go true f z r (suc i) l = r (omega arith) i (omega arith)
    go false f z r i l = absurd (omega arith)

-- the loop that looks at eight bytes at once: so far no mark, and none in the word at i
pub eight_listed : (names : List ℕ) (i w : ℕ) → Bytes names → i + 8 ≤ length names → w ≡ from_le_bytes w64 (take 8 (drop i names)) → lanes foreign 8 w ≡ 0
    → ((k : ℕ) → k < i → is_list_byte (get_or names k 0) ≡ true) → (k : ℕ) → k < i + 8 → is_list_byte (get_or names k 0) ≡ true
eight_listed names i w p l v z h k m = go (ltb k i) refl
  where
    go : (t : Bool) → ltb k i ≡ t → is_list_byte (get_or names k 0) ≡ true
    go true e = h k (ltb-true k i e)
    go false e =
        let ge = ltb-false k i e in
        let small = taken 8 (drop i names) (dropped i names p) in
        let long = eight_long i names l in
        let q = unmarked 8 (take 8 (drop i names)) small long (ap (lanes foreign 8) (sym (v ∙ eight_packed (take 8 (drop i names)) small long)) ∙ z) (k - i) (omega arith) in
        let s : i + (k - i) ≡ k = omega arith in
        rw (get_or-take 8 (drop i names) (k - i) 0 (omega arith), get_or-drop i names (k - i) 0, s) at q

-- one of them
listed_at : (xs : List ℕ) (i : ℕ) → list_all is_list_byte xs ≡ true → i < length xs → is_list_byte (get_or xs i 0) ≡ true
listed_at (x ∷ xs) zero e l = (and_true (is_list_byte x) (list_all is_list_byte xs) e).0
listed_at (x ∷ xs) (suc i) e l = listed_at xs i (and_true (is_list_byte x) (list_all is_list_byte xs) e).1 (omega arith)
listed_at [] i e l = absurd (omega arith)

pub no_bits : (a b : ℕ) → bit_or a b ≡ 0 → (a ≡ 0) × (b ≡ 0)
no_bits a b e = (omega (arith, or_add_and a b, and_le_r a b), omega (arith, or_add_and a b, and_le_l a b))

-- the bytes before i, and those from there on, one by one
pub two_parts : (names : List ℕ) (i : ℕ) → ((k : ℕ) → k < i → is_list_byte (get_or names k 0) ≡ true) → list_all is_list_byte (drop i names) ≡ true → OnlyListBytes 0 names
two_parts names i h o = record { at = λ k l m. go k m (ltb k i) refl }
  where
    go : (k : ℕ) → k < length names → (t : Bool) → ltb k i ≡ t → is_list_byte (get_or names k 0) ≡ true
    go k m true f = h k (ltb-true k i f)
    go k m false f =
        let ge = ltb-false k i f in
        let s : i + (k - i) ≡ k = omega arith in
        rw (get_or-drop i names (k - i) 0, s) at (listed_at (drop i names) (k - i) o (omega (arith, length-drop i names)))
