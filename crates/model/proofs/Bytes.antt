-- Laws of name bytes and of names.
use Rattle.std.specs.Prelude.{if◌then◌else◌}
use Prim.Native.Nat.{ℕ, ◌≤◌, ◌<◌}
use mathlib.Core.Path.{◌≡◌, refl}
use mathlib.Core.Bool.{Bool, true, false, ◌&&◌}
use mathlib.Core.List.{List, [], ◌∷◌, ◌++◌}
use native.Mathlib.Omega.{arith}
use lib.ListN.{length, get_or}
use lib.Dec.{eqb, leb}
use borrow.Author.Tests.{leb-true, le-leb, lt-leb, ne_eqb}
use Rattle.model.specs.Names.{is_letter, is_name_byte, all_name_bytes, is_name}
use Rattle.model.specs.Term.{run}
use Rattle.model.proofs.Choice.{and_true, and_both, not_both}

-- a letter is a name byte
pub letter_byte : (b : ℕ) → is_letter b ≡ true → is_name_byte b ≡ true
unfolding is_name_byte
letter_byte b e = rw e

-- the lowest letter is `A`, 65
pub letter_below : (b : ℕ) → b < 65 → is_letter b ≡ false
unfolding is_letter
letter_below b l = rw (lt-leb 65 b l, lt-leb 97 b (omega arith))

-- the lowest name byte is `-`, 45
low_no_byte : (b : ℕ) → b < 45 → is_name_byte b ≡ false
unfolding is_name_byte
low_no_byte b l = rw (letter_below b (omega arith), lt-leb 48 b (omega arith), ne_eqb b 45 (λ e. omega arith), ne_eqb b 95 (λ e. omega arith))

-- so no name byte: the end of a text, a names list's byte 10, `(`, `)` and `,`
pub end_no_byte : is_name_byte 0 ≡ false
end_no_byte = low_no_byte 0 (omega arith)

pub line_no_byte : is_name_byte 10 ≡ false
line_no_byte = low_no_byte 10 (omega arith)

pub open_no_byte : is_name_byte 40 ≡ false
open_no_byte = low_no_byte 40 (omega arith)

pub close_no_byte : is_name_byte 41 ≡ false
close_no_byte = low_no_byte 41 (omega arith)

pub comma_no_byte : is_name_byte 44 ≡ false
comma_no_byte = low_no_byte 44 (omega arith)

-- a name byte is not byte 10
pub byte_not_ten : (b : ℕ) → is_name_byte b ≡ true → eqb b 10 ≡ false
byte_not_ten b e = ne_eqb b 10 (λ h. not_both (is_name_byte 10) (rw h at e) line_no_byte)

-- a list of name bytes: its first, and the others
pub byte_first : (b : ℕ) (bs : List ℕ) → all_name_bytes (b ∷ bs) ≡ true → is_name_byte b ≡ true
unfolding all_name_bytes
byte_first b bs e = (and_true (is_name_byte b) (all_name_bytes bs) e).0

pub byte_others : (b : ℕ) (bs : List ℕ) → all_name_bytes (b ∷ bs) ≡ true → all_name_bytes bs ≡ true
unfolding all_name_bytes
byte_others b bs e = (and_true (is_name_byte b) (all_name_bytes bs) e).1

-- a name: it is not empty, a letter is first, name bytes follow, and it is short
pub record IsName (n : List ℕ) : Type 0 where
  pub first : ℕ
  pub others : List ℕ
  pub is : n ≡ first ∷ others
  pub letter : is_letter first ≡ true
  pub rest : all_name_bytes others ≡ true
  pub short : length others ≤ 23

pub name_parts : (n : List ℕ) → is_name n ≡ true → IsName n
unfolding is_name
name_parts [] e = absurd (not_both false e refl)
name_parts (b ∷ bs) e =
    let p = and_true (is_letter b && all_name_bytes bs) (leb (length (b ∷ bs)) 24) e in
    let q = and_true (is_letter b) (all_name_bytes bs) p.0 in
    record { first = b; others = bs; is = refl; letter = q.0; rest = q.1; short = omega (arith, leb-true (length (b ∷ bs)) 24 p.1) }

-- what has these parts is a name
pub name_made : (b : ℕ) (bs : List ℕ) → is_letter b ≡ true → all_name_bytes bs ≡ true → length bs ≤ 23 → is_name (b ∷ bs) ≡ true
unfolding is_name
name_made b bs e f l =
    and_both (is_letter b && all_name_bytes bs) (leb (length (b ∷ bs)) 24) (and_both (is_letter b) (all_name_bytes bs) e f)
    (le-leb (length (b ∷ bs)) 24 (omega arith))

-- all bytes of a name are name bytes
pub name_bytes_lem : (n : List ℕ) → is_name n ≡ true → all_name_bytes n ≡ true
unfolding all_name_bytes
name_bytes_lem n e =
    let p = name_parts n e in
    rw p.is (and_both (is_name_byte p.first) (all_name_bytes p.others) (letter_byte p.first p.letter) p.rest)

-- the bytes end, or go on with no name byte
abbrev pub NoByte : List ℕ → Type 0
NoByte ys = is_name_byte (get_or ys 0 0) ≡ false

-- a run of name bytes ends where no name byte follows
pub run_none : (ys : List ℕ) → NoByte ys → run ys ≡ []
unfolding run
run_none [] e = refl
run_none (y ∷ ys) e = rw e

pub run_all : (n ys : List ℕ) → all_name_bytes n ≡ true → NoByte ys → run (n ++ ys) ≡ n
unfolding run
run_all [] ys e s = run_none ys s
run_all (b ∷ bs) ys e s = rw (byte_first b bs e, run_all bs ys (byte_others b bs e) s)

-- the bytes of a run are name bytes
pub run_bytes : (bs : List ℕ) → all_name_bytes (run bs) ≡ true
unfolding run all_name_bytes
run_bytes [] = refl
run_bytes (b ∷ bs) = go (is_name_byte b) refl (run_bytes bs)
  where
    go : (t : Bool) → is_name_byte b ≡ t → all_name_bytes (run bs) ≡ true → all_name_bytes (if t then b ∷ run bs else []) ≡ true
    go true e ih = and_both (is_name_byte b) (all_name_bytes (run bs)) e ih
    go false e ih = refl
