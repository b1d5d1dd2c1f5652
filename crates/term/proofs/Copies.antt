-- Bytes copied to a place of a lent list, and the piece that they are. Assumes nothing.
use Prim.Native.Nat.{ℕ, ◌+◌, ◌-◌, ◌<◌, ◌≤◌}
use mathlib.Core.Path.{◌≡◌, refl, sym, ap, ◌∙◌}
use mathlib.Core.Bool.{Bool, true, false}
use mathlib.Core.List.{List, ◌++◌}
use native.Mathlib.Omega.{arith}
use lib.Dec.{ltb}
use lib.ListN.{length, get_or, take, drop, length-append, length-drop, get_or-append}
use lib.Seq.{length-take-le, get_or-take, get_or-drop, get_or-append-add, ext_get_or}
use borrow.Author.Tests.{ltb-true, ltb-false}
use Rattle.words.specs.Words.{Word, WordPut}
use Rattle.words.proofs.Reading.{Bytes}
use Rattle.words.proofs.Placing.{placed_as, placed_join, word_byte}
use Rattle.term.specs.Written.{Put, Copied}

-- a word of n bytes from place s on, which is not behind those that are copied
pub copied_word : (bytes : List ℕ) {m : ℕ} {old mid new : List ℕ} (s n w : ℕ) → s ≤ m → m ≤ s + n → s + n ≤ length bytes → Bytes bytes
    → Copied m old mid 0 bytes → Word n s bytes w → WordPut n mid new s w → Copied (s + n) old new 0 bytes
copied_word bytes s n w l h b c p r q =
    let front : 0 + s ≡ s = omega arith in
    placed_join s n l h p (rw front (placed_as q (λ k. get_or bytes (s + k) 0) (λ k e. word_byte r c b k e)))

-- all bytes, over as many others
pub copied_whole : (bytes : List ℕ) {old new : List ℕ} → length old ≡ length bytes → Copied (length bytes) old new 0 bytes → new ≡ bytes
copied_whole bytes {old} {new} e p = ext_get_or 0 new bytes (p.long ∙ e) same
  where
    same : (i : ℕ) → i < length new → get_or new i 0 ≡ get_or bytes i 0
    same i l =
        let front : 0 + i ≡ i = omega arith in
        rw front at (p.inside i (omega (arith, p.long, e)))

-- all bytes: the piece is put
pub copied_all : (bytes : List ℕ) {old new : List ℕ} {at : ℕ} → Copied (length bytes) old new at bytes → at + length bytes ≤ length old
    → Put old new bytes at (at + length bytes)
copied_all bytes {old} {new} {at} p h = record { holds = ext_get_or 0 new _ same each; after = refl }
  where
    front : length (take at old) ≡ at
    front = length-take-le at old (omega arith)

    both : length (take at old ++ bytes) ≡ at + length bytes
    both = length-append (take at old) bytes ∙ ap (λ (k : ℕ). k + length bytes) front

    same : length new ≡ length (take at old ++ bytes ++ drop (at + length bytes) old)
    same = omega (arith, p.long, both, length-append (take at old ++ bytes) (drop (at + length bytes) old), length-drop (at + length bytes) old)

    before : (i : ℕ) → i < at → get_or new i 0 ≡ get_or (take at old ++ bytes ++ drop (at + length bytes) old) i 0
    before i l =
        p.before i l
        ∙ sym
        (get_or-append (take at old ++ bytes) (drop (at + length bytes) old) 0 i (omega (arith, both))
        ∙ get_or-append (take at old) bytes 0 i (omega (arith, front)) ∙ get_or-take at old i 0 l)

    within : (i : ℕ) → at ≤ i → i < at + length bytes → get_or new i 0 ≡ get_or (take at old ++ bytes ++ drop (at + length bytes) old) i 0
    within i l m =
        ap (λ (k : ℕ). get_or new k 0) (let z : i ≡ at + (i - at) = omega arith in z)
        ∙ p.inside (i - at) (omega arith)
        ∙ sym
        (get_or-append (take at old ++ bytes) (drop (at + length bytes) old) 0 i (omega (arith, both))
        ∙ ap (λ (k : ℕ). get_or (take at old ++ bytes) k 0) (let z : i ≡ length (take at old) + (i - at) = omega (arith, front) in z)
        ∙ get_or-append-add (take at old) bytes (i - at) 0)

    behind : (i : ℕ) → at + length bytes ≤ i → get_or new i 0 ≡ get_or (take at old ++ bytes ++ drop (at + length bytes) old) i 0
    behind i l =
        p.behind i l
        ∙ ap (λ (k : ℕ). get_or old k 0) (let z : i ≡ at + length bytes + (i - (at + length bytes)) = omega arith in z)
        ∙ sym (get_or-drop (at + length bytes) old (i - (at + length bytes)) 0)
        ∙ sym
        (ap (λ (k : ℕ). get_or (take at old ++ bytes ++ drop (at + length bytes) old) k 0)
        (let z : i ≡ length (take at old ++ bytes) + (i - (at + length bytes)) = omega (arith, both) in z)
        ∙ get_or-append-add (take at old ++ bytes) (drop (at + length bytes) old) (i - (at + length bytes)) 0)

    go : (i : ℕ) (s t : Bool) → (s ≡ true → i < at) → (s ≡ false → at ≤ i) → (t ≡ true → i < at + length bytes) → (t ≡ false → at + length bytes ≤ i)
        → get_or new i 0 ≡ get_or (take at old ++ bytes ++ drop (at + length bytes) old) i 0
    go i true t a b c d = before i (a refl)
    go i false true a b c d = within i (b refl) (c refl)
    go i false false a b c d = behind i (d refl)

    each : (i : ℕ) → i < length new → get_or new i 0 ≡ get_or (take at old ++ bytes ++ drop (at + length bytes) old) i 0
    each i l =
        go i (ltb i at) (ltb i (at + length bytes)) (ltb-true i at) (ltb-false i at) (ltb-true i (at + length bytes)) (ltb-false i (at + length bytes))
