-- Laws of rows packed in one list: where they begin, how many there are, and that they are the list.
use Rattle.std.specs.Prelude.{if◌then◌else◌}
use Prim.Native.Nat.{ℕ, zero, suc, ◌+◌, ◌*◌, ◌≤◌, ◌<◌}
use mathlib.Core.Path.{◌≡◌, refl, ap, sym, ◌∙◌}
use mathlib.Core.Bool.{Bool, true, false}
use mathlib.Core.List.{List, [], ◌∷◌, ◌++◌, append_assoc, append-nil}
use mathlib.Core.Logic.{◌⊎◌, inl, inr}
use native.Mathlib.Omega.{arith}
use native.Mathlib.Nat.{not-suc-le-zero, le_of_suc-le-suc, eq-or-lt_of_le}
use lib.ListN.{length, get_or, take, drop, length-append, length-drop, get_or-append}
use lib.Seq.{get_or_at, take-add, take_all, drop-cons, length-take-le, get_or-append_seam, get_or-append-add, drop-append-add, take-append_seam, split_at, take-suc, take-length, ext_get_or}
use lib.Dec.{eqb, ltb}
use borrow.Author.Tests.{ltb-true, ltb-false, lt-ltb, le-ltb, eqb-true, eq-eqb}
use Rattle.model.specs.Table.{Row, no_row, pack, arg_count_at, args_at, row_at, row_start, row_numbered, how_many, how_many_rows, first_rows, rows_of, same_by, same_list, row_is, Whole}
use Rattle.model.proofs.Choice.{First, nowhere, first, first_of, and_true, and_both}
use Rattle.model.proofs.Lists.{same_self}

-- ---- where rows begin

pub row_start_step : (entries : List ℕ) (i : ℕ) → row_start entries i + 3 ≤ row_start entries (suc i)
unfolding row_start
row_start_step entries i = omega arith

-- a later row begins 3 entries later at least
pub row_start_later : (entries : List ℕ) (i j : ℕ) → i < j → row_start entries i + 3 ≤ row_start entries j
row_start_later entries i zero l = absurd (not-suc-le-zero l)
row_start_later entries i (suc j) l = go (eq-or-lt_of_le (le_of_suc-le-suc l)) (row_start_later entries i j)
  where
    go : (i ≡ j) ⊎ (i < j) → (i < j → row_start entries i + 3 ≤ row_start entries j) → row_start entries i + 3 ≤ row_start entries (suc j)
    go (inl e) ih = rw e (row_start_step entries j)
    go (inr h) ih = omega (arith, ih h, row_start_step entries j)

pub row_start_grows : (entries : List ℕ) (i j : ℕ) → i ≤ j → row_start entries i ≤ row_start entries j
row_start_grows entries i j l = go (eq-or-lt_of_le l)
  where
    go : (i ≡ j) ⊎ (i < j) → row_start entries i ≤ row_start entries j
    go (inl e) = rw e (omega arith)
    go (inr h) = omega (arith, row_start_later entries i j h)

pub row_start_least : (entries : List ℕ) (i : ℕ) → 3 * i ≤ row_start entries i
unfolding row_start
row_start_least entries zero = omega arith
row_start_least entries (suc i) = omega (arith, row_start_least entries i)

-- ---- how many rows begin within the list

-- a property that, of the numbers below m, the first n have and no other
pub how_many_first : (m n : ℕ) (p : ℕ → Bool) → n ≤ m → ((i : ℕ) → i < n → p i ≡ true) → ((i : ℕ) → n ≤ i → i < m → p i ≡ false) → how_many m p ≡ n
unfolding how_many
how_many_first zero n p l y z = omega arith
how_many_first (suc m) n p l y z = go (eq-or-lt_of_le l) (how_many_first m m p) (how_many_first m n p)
  where
    go : (n ≡ suc m) ⊎ (n < suc m) → (m ≤ m → ((i : ℕ) → i < m → p i ≡ true) → ((i : ℕ) → m ≤ i → i < m → p i ≡ false) → how_many m p ≡ m)
        → (n ≤ m → ((i : ℕ) → i < n → p i ≡ true) → ((i : ℕ) → n ≤ i → i < m → p i ≡ false) → how_many m p ≡ n) → (if p m then 1 else 0) + how_many m p ≡ n
    go (inl e) all ih = rw (y m (omega arith)) (omega (arith, all (omega arith) (λ i h. y i (omega arith)) (λ i h k. absurd (omega arith))))
    go (inr h) all ih = rw (z m (omega arith) (omega arith)) (omega (arith, ih (omega arith) y (λ i a b. z i a (omega arith))))

-- n rows begin within the list: the first n do, and the next one does not
pub how_many_rows_is : (entries : List ℕ) (n : ℕ) → ((i : ℕ) → i < n → row_start entries i < length entries) → length entries ≤ row_start entries n
    → how_many_rows entries ≡ n
unfolding how_many_rows
how_many_rows_is entries n y z =
    how_many_first (length entries) n (λ i. ltb (row_start entries i) (length entries)) (few n y)
    (λ i l. lt-ltb (row_start entries i) (length entries) (y i l))
    (λ i l m. le-ltb (row_start entries i) (length entries) (omega (arith, row_start_grows entries n i l)))
  where
    few : (n : ℕ) → ((i : ℕ) → i < n → row_start entries i < length entries) → n ≤ length entries
    few zero y = omega arith
    few (suc n) y = omega (arith, y n (omega arith), row_start_least entries n)

-- and so it is of every list
pub record RowCount (entries : List ℕ) (n : ℕ) : Type 0 where
  pub inside : (i : ℕ) → i < n → row_start entries i < length entries
  pub end : length entries ≤ row_start entries n

pub row_count : (entries : List ℕ) → RowCount entries (how_many_rows entries)
row_count entries = go (first_of (suc (length entries)) outside)
  where
    outside : ℕ → ℕ
    outside i = if ltb (row_start entries i) (length entries) then 0 else 1

    in_zero : (b : Bool) → ◌≡◌ {A = ℕ} (if b then 0 else 1) 0 → b ≡ true
    in_zero true e = refl
    in_zero false e = absurd (omega arith)

    out_pos : (b : Bool) → 0 < (if b then 0 else 1) → b ≡ false
    out_pos true l = absurd (not-suc-le-zero l)
    out_pos false l = refl

    begins : (i : ℕ) → outside i ≡ 0 → row_start entries i < length entries
    begins i e = ltb-true (row_start entries i) (length entries) (in_zero (ltb (row_start entries i) (length entries)) e)

    go : First (suc (length entries)) outside → RowCount entries (how_many_rows entries)
    go (nowhere h) =
        let l = begins (length entries) (h (length entries) (omega arith)) in
        absurd (omega (arith, row_start_least entries (length entries)))
    go (first n l h p) =
        let y : (i : ℕ) → i < n → row_start entries i < length entries = λ i m. begins i (h i m) in
        let z : length entries ≤ row_start entries n =
        ltb-false (row_start entries n) (length entries) (out_pos (ltb (row_start entries n) (length entries)) p) in
        rw (how_many_rows_is entries n y z) (record { inside = y; end = z })

-- ---- the rows

pub first_rows_length : (entries : List ℕ) (n : ℕ) → length (first_rows entries n) ≡ n
unfolding first_rows
first_rows_length entries zero = refl
first_rows_length entries (suc n) = simp length-append (omega (arith, first_rows_length entries n))

pub first_rows_at : (entries : List ℕ) (n i : ℕ) (d : Row) → i < n → get_or (first_rows entries n) i d ≡ row_numbered entries i
unfolding first_rows
first_rows_at entries zero i d l = absurd (not-suc-le-zero l)
first_rows_at entries (suc n) i d l = go (eq-or-lt_of_le (le_of_suc-le-suc l)) (first_rows_at entries n i d)
  where
    go : (i ≡ n) ⊎ (i < n) → (i < n → get_or (first_rows entries n) i d ≡ row_numbered entries i)
        → get_or (first_rows entries n ++ (row_numbered entries n ∷ [])) i d ≡ row_numbered entries i
    go (inl e) ih = rw e (get_or_at (first_rows entries n) (row_numbered entries n) [] d n (first_rows_length entries n))
    go (inr h) ih = get_or-append (first_rows entries n) (row_numbered entries n ∷ []) d i (rw (first_rows_length entries n) h) ∙ ih h

pub rows_of_length : (entries : List ℕ) → length (rows_of entries) ≡ how_many_rows entries
unfolding rows_of
rows_of_length entries = first_rows_length entries (how_many_rows entries)

pub rows_of_at : (entries : List ℕ) (i : ℕ) (d : Row) → i < how_many_rows entries → get_or (rows_of entries) i d ≡ row_numbered entries i
unfolding rows_of
rows_of_at entries i d l = first_rows_at entries (how_many_rows entries) i d l

-- ---- the rows are the list

pub pack_append : (rs ss : List Row) → pack (rs ++ ss) ≡ pack rs ++ pack ss
unfolding pack
pack_append [] ss = refl
pack_append (r ∷ rs) ss = rw (pack_append rs ss, append_assoc r.args (pack rs) (pack ss))

pub args_length : (entries : List ℕ) (s : ℕ) → Whole entries s → length (args_at entries s) ≡ arg_count_at entries s
args_length entries s w = length-take-le (arg_count_at entries s) (drop (s + 3) entries) (simp length-drop (omega arith))

-- the three entries at a row's front
front : (entries : List ℕ) (s : ℕ) → s + 3 ≤ length entries → drop s entries ≡ get_or entries s 0 ∷ get_or entries (s + 1) 0 ∷ get_or entries (s + 2) 0 ∷ drop (s + 3) entries
front entries s l =
    let a : suc s ≡ s + 1 = omega arith in
    let b : suc (s + 1) ≡ s + 2 = omega arith in
    let c : suc (s + 2) ≡ s + 3 = omega arith in
    rw (drop-cons entries s 0 (omega arith), a, drop-cons entries (s + 1) 0 (omega arith), b, drop-cons entries (s + 2) 0 (omega arith), c)

pub row_entries : (entries : List ℕ) (s : ℕ) → Whole entries s → pack (row_at entries s ∷ []) ≡ take (3 + arg_count_at entries s) (drop s entries)
unfolding pack
row_entries entries s w =
    let n : 3 + arg_count_at entries s ≡ suc (suc (suc (arg_count_at entries s))) = omega arith in
    rw (n, front entries s (omega arith), args_length entries s w, append-nil (args_at entries s))

pack_none : pack [] ≡ []
unfolding pack
pack_none = refl

-- the first rows, where they are whole, are the list's front
pub pack_first : (entries : List ℕ) (n : ℕ) → ((i : ℕ) → i < n → Whole entries (row_start entries i)) → pack (first_rows entries n) ≡ take (row_start entries n) entries
unfolding first_rows row_start
pack_first entries zero h = pack_none
pack_first entries (suc n) h =
    let k : row_start entries n + 3 + arg_count_at entries (row_start entries n) ≡ row_start entries n + (3 + arg_count_at entries (row_start entries n)) = omega arith in
    rw (
      pack_append (first_rows entries n) (row_numbered entries n ∷ []),
      pack_first entries n (λ i l. h i (omega arith)),
      row_entries entries (row_start entries n) (h n (omega arith)),
      k,
      take-add (row_start entries n) (3 + arg_count_at entries (row_start entries n)) entries,
    )

-- where every row is whole, the rows written out are the list
pub pack_rows_of : (entries : List ℕ) → ((i : ℕ) → i < how_many_rows entries → Whole entries (row_start entries i)) → pack (rows_of entries) ≡ entries
unfolding rows_of
pack_rows_of entries h =
    pack_first entries (how_many_rows entries) h ∙ take_all (row_start entries (how_many_rows entries)) entries (row_count entries).end

-- ---- rows written out are read back

-- a row that stands in a list behind p
pub row_at_behind : (entries p : List ℕ) (s q : ℕ) (xs rest : List ℕ) → entries ≡ p ++ (s ∷ q ∷ length xs ∷ (xs ++ rest))
    → row_at entries (length p) ≡ record { symbol = s; target = q; args = xs }
row_at_behind entries p s q xs rest e =
    let row = s ∷ q ∷ length xs ∷ (xs ++ rest) in
    rw (e, get_or-append_seam p s (q ∷ length xs ∷ (xs ++ rest)) 0, get_or-append-add p row 1 0, get_or-append-add p row 2 0, drop-append-add p row 3, take-append_seam xs rest)

pub arg_count_at_behind : (entries p : List ℕ) (s q : ℕ) (xs rest : List ℕ) → entries ≡ p ++ (s ∷ q ∷ length xs ∷ (xs ++ rest)) → arg_count_at entries (length p) ≡ length xs
arg_count_at_behind entries p s q xs rest e = rw (e, get_or-append-add p (s ∷ q ∷ length xs ∷ (xs ++ rest)) 2 0)

-- rows written out, cut before row i
pub pack_cut : (rs : List Row) (i : ℕ) → i < length rs
    → pack rs ≡ pack (take i rs) ++ ((get_or rs i no_row).symbol ∷ (get_or rs i no_row).target ∷ length (get_or rs i no_row).args ∷ ((get_or rs i no_row).args ++ pack (drop (suc i) rs)))
unfolding pack
pack_cut rs i l = ap pack (split_at rs i no_row l) ∙ pack_append (take i rs) (get_or rs i no_row ∷ drop (suc i) rs)

pack_longer : (rs : List Row) (i : ℕ) → i < length rs → length (pack (take (suc i) rs)) ≡ length (pack (take i rs)) + 3 + length (get_or rs i no_row).args
unfolding pack
pack_longer rs i l =
    let r = get_or rs i no_row in
    rw (take-suc rs i no_row l, pack_append (take i rs) (r ∷ []), length-append (pack (take i rs)) (pack (r ∷ [])), append-nil r.args) (omega arith)

pub row_start_pack : (rs : List Row) (i : ℕ) → i ≤ length rs → row_start (pack rs) i ≡ length (pack (take i rs))
unfolding row_start
row_start_pack rs zero l = ap length (sym pack_none)
row_start_pack rs (suc i) l =
    let n : arg_count_at (pack rs) (length (pack (take i rs))) ≡ length (get_or rs i no_row).args =
    arg_count_at_behind (pack rs) (pack (take i rs)) _ _ (get_or rs i no_row).args (pack (drop (suc i) rs)) (pack_cut rs i l) in
    rw (row_start_pack rs i (omega arith), n) (sym (pack_longer rs i l))

pub row_numbered_pack : (rs : List Row) (i : ℕ) → i < length rs → row_numbered (pack rs) i ≡ get_or rs i no_row
row_numbered_pack rs i l =
    ap (row_at (pack rs)) (row_start_pack rs i (omega arith)) ∙ row_at_behind (pack rs) (pack (take i rs)) _ _ _ _ (pack_cut rs i l)

pub how_many_rows_pack : (rs : List Row) → how_many_rows (pack rs) ≡ length rs
how_many_rows_pack rs =
    how_many_rows_is (pack rs) (length rs)
    (λ i l. omega (arith, row_start_later (pack rs) i (length rs) l, whole))
    (omega (arith, whole))
  where
    whole : row_start (pack rs) (length rs) ≡ length (pack rs)
    whole = row_start_pack rs (length rs) (omega arith) ∙ ap (λ (x : List Row). length (pack x)) (take-length rs)

pub rows_of_pack : (rs : List Row) → rows_of (pack rs) ≡ rs
rows_of_pack rs =
    ext_get_or no_row (rows_of (pack rs)) rs (rows_of_length (pack rs) ∙ how_many_rows_pack rs)
    (λ i l. at_place i (omega (arith, rows_of_length (pack rs), how_many_rows_pack rs)))
  where
    at_place : (i : ℕ) → i < length rs → get_or (rows_of (pack rs)) i no_row ≡ get_or rs i no_row
    at_place i l = rows_of_at (pack rs) i no_row (rw (how_many_rows_pack rs) l) ∙ row_numbered_pack rs i l

-- in rows written out every row is whole
pub pack_whole : (rs : List Row) (i : ℕ) → i < length rs → Whole (pack rs) (row_start (pack rs) i)
unfolding row_start
pack_whole rs i l = omega (arith, row_start_grows (pack rs) (suc i) (length rs) l, row_start_pack rs (length rs) (omega arith), ap (λ (x : List Row). length (pack x)) (take-length rs))

-- ---- the test of a row's symbol and arguments

pub same_list_refl : (xs : List ℕ) → same_list xs xs ≡ true
same_list_refl xs = same_self eqb (λ x. eq-eqb x x refl) xs

pub same_list_true : (xs ys : List ℕ) → same_list xs ys ≡ true → xs ≡ ys
unfolding same_by
same_list_true [] [] h = refl
same_list_true [] (y ∷ ys) h = let z : ◌≡◌ {A = ℕ} 0 1 = cc in absurd (omega arith)
same_list_true (x ∷ xs) [] h = let z : ◌≡◌ {A = ℕ} 0 1 = cc in absurd (omega arith)
same_list_true (x ∷ xs) (y ∷ ys) h =
    let p = and_true (eqb x y) (same_list xs ys) h in
    let e : x ≡ y = eqb-true x y p.0 in
    let f : xs ≡ ys = same_list_true xs ys p.1 in
    cc

pub row_is_yes : (r : Row) (s : ℕ) (xs : List ℕ) → r.symbol ≡ s → r.args ≡ xs → row_is r s xs ≡ true
unfolding row_is
row_is_yes r s xs e f = rw (← e, ← f) (and_both (eqb r.symbol r.symbol) (same_list r.args r.args) (eq-eqb r.symbol r.symbol refl) (same_list_refl r.args))

pub row_is_true : (r : Row) (s : ℕ) (xs : List ℕ) → row_is r s xs ≡ true → (r.symbol ≡ s) × (r.args ≡ xs)
unfolding row_is
row_is_true r s xs h =
    let p = and_true (eqb r.symbol s) (same_list r.args xs) h in
    (eqb-true r.symbol s p.0, same_list_true r.args xs p.1)
