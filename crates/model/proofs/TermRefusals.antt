-- A refusal of reading or writing a term is given exactly where its ground holds, with its number and at its place.
use Rattle.std.specs.Prelude.{if◌then◌else◌}
use Prim.Native.Nat.{ℕ, zero, suc, ◌+◌, ◌≤◌, ◌<◌, min}
use mathlib.Core.Path.{◌≡◌, refl, ap, sym, subst, ◌∙◌}
use mathlib.Core.Bool.{Bool, true, false, not, ◌&&◌, ◌||◌}
use mathlib.Core.Logic.{◌⊎◌, inl, inr}
use mathlib.Core.List.{List, [], ◌∷◌, ◌++◌, append_assoc, append-nil}
use native.Mathlib.Omega.{arith}
use native.Mathlib.Nat.{not-suc-le-zero, le_of_suc-le-suc}
use lib.ListN.{length, get_or, take, drop, length-append, length-take, take-append-drop}
use lib.Seq.{get_or-take, length-take-le, take-nil, take-take}
use lib.Dec.{eqb, ltb, leb}
use borrow.Author.Tests.{ltb-true, ltb-false, lt-ltb, le-ltb, eqb-true, eqb-false}
use Rattle.model.specs.Answers.{Outcome, result, refused}
use Rattle.model.specs.Choice.{first_faulty, any_below}
use Rattle.model.specs.Tree.{WellFormed}
use Rattle.model.specs.Names.{is_name_byte, all_name_bytes, is_name, same_name, IsNamesList, Line, joined, lines_of, no_line, line_at, how_many_names, is_listed, line_ground, names_then}
use Rattle.model.specs.Entries.{form_then, tree_then}
use Rattle.model.specs.Term.{Terms, none, term, alone, text_of_terms, text_of, AllNames, IsTerm, Scan, passes, breaks_at, break_then, scan, due, term_then, run, name_begins, name_at}
use Rattle.model.specs.TermOperations.{AllListed, entries_of, bytes_of, name_ground, read_fits, read_whole, read_named, read_term_outcome, symbol_ground, write_fits, write_formed, write_term_outcome}
use Rattle.model.specs.Place.{CanGoOn, StopsAt}
use Rattle.model.specs.TermRefusals.{first_lines, FaultyLine, Placed, names_from, FirstUnlisted, FirstUnnamed, ReadRefused, read17, read18, read19, read20, read21, read22, WriteRefused, write17, write12, write13, write23, write24, ReadRefuses, WriteRefuses, ReadRefusedOnce, WriteRefusedOnce, ReadElse, WriteElse}
use Rattle.model.proofs.Choice.{if_no, if_zero, not_both, no_fault, no_fault_back, refused_number, refused_place, Decided, clear, faulty, decided, if_refused, result_only, refused_only, one_place, if_place, if_some, ground_alone}
use Rattle.model.proofs.Bytes.{open_no_byte, close_no_byte, comma_no_byte, end_no_byte, byte_first, byte_others, name_parts, name_bytes_lem, NoByte, run_all}
use Rattle.model.proofs.Entries.{form_place, tree_then_taken, tree_then_back}
use Rattle.model.proofs.Scan.{bracketed, following, text_after, whole_term, scan_place, term_or_taken, term_or_back}
use Rattle.model.proofs.Names.{Sound, SoundLine, line_clear, clear_line, sound_line, lines_sound, some_lines, names_list, list_sound, names_taken, names_back}
use Rattle.model.proofs.Listed.{brackets_stop, comma_stop, begins, begins_next, begins_first, listed_names, names_listed, symbol_low, low_symbol, terms_length}
use Rattle.model.proofs.Inverse.{read_back, write_back}

-- ---- 17

-- the lines of the first lines
lines_first : (bs : List ℕ) (k : ℕ) → lines_of (first_lines bs k) ≡ take k (lines_of bs)
unfolding lines_of first_lines
lines_first [] zero = refl
lines_first [] (suc k) = refl
lines_first (b ∷ bs) zero = refl
lines_first (b ∷ bs) (suc k) = go (eqb b 10) (lines_of bs) (lines_first bs)
  where
    go : (t : Bool) (ls : List Line) → ((n : ℕ) → lines_of (first_lines bs n) ≡ take n ls)
        → (if t then record { bytes = []; ended = true } ∷ lines_of (first_lines bs (if t then k else suc k)) else joined b (lines_of (first_lines bs (if t then k else suc k))))
        ≡ take (suc k) (if t then record { bytes = []; ended = true } ∷ ls else joined b ls)
    go true ls ih = ap (λ (x : List Line). record { bytes = []; ended = true } ∷ x) (ih k)
    go false [] ih = ap (joined b) (ih (suc k)) ∙ ap (λ (x : List Line). record { bytes = b ∷ []; ended = false } ∷ x) (sym (take-nil k))
    go false (l ∷ ls) ih = ap (joined b) (ih (suc k))

first_line : (names : List ℕ) (n k : ℕ) → k < n → line_at (first_lines names n) k ≡ line_at names k
first_line names n k l = ap (λ (ls : List Line). get_or ls k no_line) (lines_first names n) ∙ get_or-take n (lines_of names) k no_line l

first_count : (names : List ℕ) (n : ℕ) → n ≤ how_many_names names → how_many_names (first_lines names n) ≡ n
first_count names n l = ap length (lines_first names n) ∙ length-take-le n (lines_of names) l

-- a line is faulty by the lines up to it alone
same_line : (x y : List ℕ) (k : ℕ) → ((j : ℕ) → j ≤ k → line_at x j ≡ line_at y j) → SoundLine x k → SoundLine y k
same_line x y k e s =
    record {
      name = rw (← e k (omega arith)) s.name;
      apart = λ j l. rw (← e j (omega arith), ← e k (omega arith)) (s.apart j l);
      few = s.few;
      ended = rw (← e k (omega arith)) s.ended;
    }

ground_17 : (names : List ℕ) (k : ℕ) → 0 < line_ground names k → line_ground names k ≡ 17
unfolding line_ground
ground_17 names k p =
    (if_some
    (not (is_name (line_at names k).bytes)
    || any_below k (λ j. same_name (line_at names j).bytes (line_at names k).bytes)
    || leb 255 k
    || not (line_at names k).ended) 17 p).1

faulty_line : (names : List ℕ) (k : ℕ) → k < how_many_names names → ((j : ℕ) → j < k → line_ground names j ≡ 0) → 0 < line_ground names k → FaultyLine names k
faulty_line names k l h g = record { before = before k refl; faulty = with }
  where
    before : (n : ℕ) → n ≡ k → (k ≡ 0) ⊎ IsNamesList (first_lines names k)
    before zero e = inl (sym e)
    before (suc n) e =
        let count = first_count names k (omega arith) in
        inr
        (names_list (first_lines names k)
        (lines_sound (first_lines names k) (omega arith)
        (λ j m. same_line names (first_lines names k) j (λ i d. sym (first_line names k i (omega arith))) (clear_line names j (h j (omega arith))))))

    with : IsNamesList (first_lines names (suc k)) → ⊥
    with w =
        let count = first_count names (suc k) l in
        let s = sound_line (first_lines names (suc k)) (list_sound (first_lines names (suc k)) w) k (omega arith) in
        omega (arith, line_clear names k (same_line (first_lines names (suc k)) names k (λ i d. first_line names (suc k) i (omega arith)) s))

faulty_none : (names : List ℕ) → length names ≡ 0 → FaultyLine names 0
unfolding first_lines lines_of
faulty_none [] d = record { before = inl refl; faulty = λ w. not-suc-le-zero (list_sound [] w).some }
faulty_none (b ∷ bs) d = absurd (omega arith)

-- a refusal is 17, at the first faulty line; or it is a names list, and what follows is the refusal
pub names_place : (names : List ℕ) (k p : ℕ) (o : Outcome) → names_then names o ≡ refused k p
    → ((k ≡ 17) × FaultyLine names p) ⊎ (IsNamesList names × (o ≡ refused k p))
unfolding names_then
names_place names k p o e = go (if_refused (eqb (length names) 0) 17 0 k p _ e)
  where
    go : ((eqb (length names) 0 ≡ true) × (k ≡ 17) × (p ≡ 0)) ⊎ ((eqb (length names) 0 ≡ false) × (first_faulty (how_many_names names) (line_ground names) o ≡ refused k p))
        → ((k ≡ 17) × FaultyLine names p) ⊎ (IsNamesList names × (o ≡ refused k p))
    go (inl x) = inl (x.1, rw x.2 (faulty_none names (eqb-true (length names) 0 x.0)))
    go (inr x) = at (decided (how_many_names names) (line_ground names) o)
      where
        at : Decided (how_many_names names) (line_ground names) o (first_faulty (how_many_names names) (line_ground names) o)
            → ((k ≡ 17) × FaultyLine names p) ⊎ (IsNamesList names × (o ≡ refused k p))
        at (clear h d) =
            inr (names_list names (lines_sound names (some_lines names (eqb-false (length names) 0 x.0)) (λ j l. clear_line names j (h j l))), sym d ∙ x.1)
        at (faulty i l h g d) =
            let r = sym d ∙ x.1 in
            inl (sym (refused_number r) ∙ ground_17 names i g, rw (← refused_place r) (faulty_line names i l h g))

-- the first lines of a sound list, one or more, are sound
front_sound : (x y : List ℕ) (n : ℕ) → lines_of x ≡ take (suc n) (lines_of y) → Sound y → Sound x
front_sound x y n e s =
    let count : how_many_names x ≡ min (suc n) (how_many_names y) = ap length e ∙ length-take (suc n) (lines_of y) in
    lines_sound x (omega (arith, count, s.some)) (λ k l. same_line y x k (λ j m. sym (line j (omega (arith, count)))) (sound_line y s k (omega (arith, count))))
  where
    line : (j : ℕ) → j < suc n → line_at x j ≡ line_at y j
    line j l = ap (λ (ls : List Line). get_or ls j no_line) e ∙ get_or-take (suc n) (lines_of y) j no_line l

-- a names list has no faulty line
pub faulty_no_list : (names : List ℕ) (p : ℕ) → FaultyLine names p → IsNamesList names → ⊥
faulty_no_list names p f w =
    let x = first_lines names (suc p) in
    f.faulty (names_list x (front_sound x names p (lines_first names (suc p)) (list_sound names w)))

-- one line at most is the first faulty one
pub faulty_once : (names : List ℕ) (p q : ℕ) → FaultyLine names p → FaultyLine names q → p ≡ q
faulty_once names p q f g = one_place p q (not_before p q f g) (not_before q p g f)
  where
    not_before : (i j : ℕ) → FaultyLine names i → FaultyLine names j → i < j → ⊥
    not_before i j x y l = go y.before
      where
        go : (j ≡ 0) ⊎ IsNamesList (first_lines names j) → ⊥
        go (inl e) = omega arith
        go (inr w) =
            let before = first_lines names (suc i) in
            x.faulty (names_list before (front_sound before (first_lines names j) i
            (lines_first names (suc i) ∙ sym (take-take (suc i) j (lines_of names) l) ∙ ap (take (suc i)) (sym (lines_first names j)))
            (list_sound (first_lines names j) w)))

-- a names list whose first faulty line this is: 17, at that place
pub names_refused : (names : List ℕ) (p : ℕ) → FaultyLine names p → (o : Outcome) → names_then names o ≡ refused 17 p
names_refused names p f o =
    refused_only (names_then names o) 17 p (λ t e. faulty_no_list names p f (names_list names (names_back names t o e).0))
    (λ k q e. go k q (names_place names k q o e))
  where
    go : (k q : ℕ) → ((k ≡ 17) × FaultyLine names q) ⊎ (IsNamesList names × (o ≡ refused k q)) → (k ≡ 17) × (q ≡ p)
    go k q (inl x) = (x.0, faulty_once names q p x.1 f)
    go k q (inr x) = absurd (faulty_no_list names p f x.0)

-- ---- 19

-- what can be completed can be completed from each place before its end
earlier_on : (Whole : List ℕ → Type 0) (items : List ℕ) (p q : ℕ) → p ≤ q → CanGoOn Whole (take q items) → CanGoOn Whole (take p items)
earlier_on Whole items p q l c =
    record {
      more = drop p (take q items) ++ c.more;
      whole = subst Whole (ap (λ (x : List ℕ). x ++ c.more)
          (sym (take-append-drop p (take q items)) ∙ ap (λ (x : List ℕ). x ++ drop p (take q items)) (take-take p q items l))
          ∙ append_assoc (take p items) (drop p (take q items)) c.more) c.whole;
    }

-- the place of 13 and of 19 is the only one
pub stops_once : (Whole : List ℕ → Type 0) (items : List ℕ) (p q : ℕ) → StopsAt Whole items p → StopsAt Whole items q → p ≡ q
stops_once Whole items p q s t = one_place p q (not_before p q s t) (not_before q p t s)
  where
    not_before : (i j : ℕ) → StopsAt Whole items i → StopsAt Whole items j → i < j → ⊥
    not_before i j x y l = x.cannot (omega (arith, y.within)) (earlier_on Whole items (suc i) j l y.can)

-- a refusal is 19, at the first byte with which no term can go on; or the text is a term, and what follows is the refusal
pub term_place : (text : List ℕ) (k p : ℕ) (o : Outcome) → term_then text o ≡ refused k p
    → ((k ≡ 19) × StopsAt IsTerm text p) ⊎ (IsTerm text × (o ≡ refused k p))
unfolding term_then
term_place text k p o e = go (scan (due 0) 0 text) refl e
  where
    go : (s : Scan) → scan (due 0) 0 text ≡ s → break_then s o ≡ refused k p → ((k ≡ 19) × StopsAt IsTerm text p) ⊎ (IsTerm text × (o ≡ refused k p))
    go passes f d = inr (whole_term text f, d)
    go (breaks_at q) f d = inl (sym (refused_number d), rw (← refused_place d) (scan_place text q f))

-- a text that stops being a term: 19, at that place
pub term_refused : (text : List ℕ) (p : ℕ) → StopsAt IsTerm text p → (o : Outcome) → term_then text o ≡ refused 19 p
term_refused text p s o =
    refused_only (term_then text o) 19 p (λ t e. s.short (term_or_back text t o e).0) (λ k q e. go k q (term_place text k q o e))
  where
    go : (k q : ℕ) → ((k ≡ 19) × StopsAt IsTerm text q) ⊎ (IsTerm text × (o ≡ refused k q)) → (k ≡ 19) × (q ≡ p)
    go k q (inl x) = (x.0, stops_once IsTerm text q p x.1 s)
    go k q (inr x) = absurd (s.short x.0)

-- ---- 20

-- the runs of name bytes, from left to right, where the byte before the bytes is a name byte or not
unfoldable runs_from : (inside : Bool) (at : ℕ) → List ℕ → List Placed
runs_from inside at [] = []
runs_from inside at (b ∷ bs) =
    (if is_name_byte b && not inside then record { name = run (b ∷ bs); place = at } ∷ [] else []) ++ runs_from (is_name_byte b) (suc at) bs

runs_mark : (inside : Bool) (at b : ℕ) (bs : List ℕ) → is_name_byte b ≡ false → runs_from inside at (b ∷ bs) ≡ runs_from false (suc at) bs
unfolding runs_from
runs_mark inside at b bs e = rw e

runs_stop : (at : ℕ) (ys : List ℕ) → NoByte ys → runs_from true at ys ≡ runs_from false at ys
unfolding runs_from
runs_stop at [] h = refl
runs_stop at (b ∷ bs) h = rw h

runs_rest : (n ys : List ℕ) (at : ℕ) → all_name_bytes n ≡ true → runs_from true at (n ++ ys) ≡ runs_from true (at + length n) ys
unfolding runs_from
runs_rest [] ys at e = let z : at + 0 ≡ at = omega arith in rw z
runs_rest (b ∷ bs) ys at e =
    let z : at + suc (length bs) ≡ suc at + length bs = omega arith in
    rw (byte_first b bs e, z) (runs_rest bs ys (suc at) (byte_others b bs e))

runs_cons : (b : ℕ) (bs ys : List ℕ) (at : ℕ) → all_name_bytes (b ∷ bs) ≡ true → NoByte ys
    → runs_from false at (b ∷ bs ++ ys) ≡ record { name = b ∷ bs; place = at } ∷ runs_from false (at + length (b ∷ bs)) ys
unfolding runs_from
runs_cons b bs ys at e h =
    let z : at + suc (length bs) ≡ suc at + length bs = omega arith in
    rw (run_all (b ∷ bs) ys e h, byte_first b bs e, z, runs_rest bs ys (suc at) (byte_others b bs e), runs_stop (suc at + length bs) ys h)

runs_name : (n ys : List ℕ) (at : ℕ) → is_name n ≡ true → NoByte ys → runs_from false at (n ++ ys) ≡ record { name = n; place = at } ∷ runs_from false (at + length n) ys
runs_name n ys at e h =
    let w = name_parts n e in
    rw w.is (runs_cons w.first w.others ys at (rw w.is at (name_bytes_lem n e)) h)

-- of terms with something after them: their names, then what comes after
runs_brackets : (f : Terms) (ys : List ℕ) (at : ℕ)
    → ((zs : List ℕ) (i : ℕ) → NoByte zs → runs_from false i (text_of_terms f ++ zs) ≡ names_from i f ++ runs_from false (i + length (text_of_terms f)) zs)
    → runs_from false at (bracketed f ++ ys) ≡ names_from (at + 1) f ++ runs_from false (at + length (bracketed f)) ys
unfolding names_from
runs_brackets none ys at h = let z : at + 0 ≡ at = omega arith in rw z
runs_brackets (term n inner right) ys at h =
    let f = term n inner right in
    let z : at + 1 ≡ suc at = omega arith in
    let l : at + length (bracketed f) ≡ suc (suc at + length (text_of_terms f)) = omega (arith, length-append (text_of_terms f) (41 ∷ [])) in
    runs_mark false at 40 (text_of_terms f ++ 41 ∷ [] ++ ys) open_no_byte
    ∙ ap (runs_from false (suc at)) (append_assoc (text_of_terms f) (41 ∷ []) ys)
    ∙ h (41 ∷ ys) (suc at) close_no_byte
    ∙ ap (λ (x : List Placed). names_from (suc at) f ++ x) (runs_mark false (suc at + length (text_of_terms f)) 41 ys close_no_byte)
    ∙ ap (λ (i : ℕ). names_from i f ++ runs_from false (suc (suc at + length (text_of_terms f))) ys) (sym z)
    ∙ ap (λ (i : ℕ). names_from (at + 1) f ++ runs_from false i ys) (sym l)

runs_comma : (f : Terms) (ys : List ℕ) (at : ℕ)
    → ((i : ℕ) → runs_from false i (text_of_terms f ++ ys) ≡ names_from i f ++ runs_from false (i + length (text_of_terms f)) ys)
    → runs_from false at (following f ++ ys) ≡ names_from (at + 1) f ++ runs_from false (at + length (following f)) ys
unfolding names_from
runs_comma none ys at h = let z : at + 0 ≡ at = omega arith in rw z
runs_comma (term n inner right) ys at h =
    let f = term n inner right in
    let z : at + 1 ≡ suc at = omega arith in
    let l : at + length (following f) ≡ suc at + length (text_of_terms f) = omega arith in
    runs_mark false at 44 (text_of_terms f ++ ys) comma_no_byte
    ∙ h (suc at)
    ∙ ap (λ (i : ℕ). names_from i f ++ runs_from false (suc at + length (text_of_terms f)) ys) (sym z)
    ∙ ap (λ (i : ℕ). names_from (at + 1) f ++ runs_from false i ys) (sym l)

runs_terms : (f : Terms) → AllNames f → (ys : List ℕ) (at : ℕ) → NoByte ys
    → runs_from false at (text_of_terms f ++ ys) ≡ names_from at f ++ runs_from false (at + length (text_of_terms f)) ys
unfolding names_from AllNames text_of_terms
runs_terms none h ys at s = let z : at + 0 ≡ at = omega arith in rw z
runs_terms (term n inner right) h ys at s =
    let i = at + length n in
    let j = at + length n + length (bracketed inner) in
    let l : at + length (text_of_terms (term n inner right)) ≡ j + length (following right) = omega (arith, terms_length n inner right) in
    ap (runs_from false at) (text_after n inner right ys)
    ∙ runs_name n _ at h.0 (brackets_stop inner _ (comma_stop right ys s))
    ∙ ap (λ (x : List Placed). record { name = n; place = at } ∷ x)
    (runs_brackets inner _ i (λ zs k. runs_terms inner h.1 zs k)
    ∙ ap (λ (x : List Placed). names_from (i + 1) inner ++ x) (runs_comma right ys j (λ k. runs_terms right h.2 ys k s))
    ∙ sym (append_assoc (names_from (i + 1) inner) (names_from (j + 1) right) (runs_from false (j + length (following right)) ys)))
    ∙ ap (λ (k : ℕ). names_from at (term n inner right) ++ runs_from false k ys) (sym l)

runs_text : (text : List ℕ) (w : IsTerm text) → runs_from false 0 text ≡ names_from 0 (alone w.is)
unfolding text_of runs_from
runs_text text w =
    ap (runs_from false 0) (sym w.written ∙ sym (append-nil (text_of_terms (alone w.is))))
    ∙ runs_terms (alone w.is) w.names [] 0 end_no_byte
    ∙ append-nil (names_from 0 (alone w.is))

module _ (names : List ℕ) where
  -- the run at a byte is not listed
  abbrev bad : (inside : Bool) → List ℕ → ℕ → Bool
  bad inside bs i = begins inside bs i && not (is_listed names (name_at bs i))

  bad_next : (inside : Bool) (b : ℕ) (bs : List ℕ) (i : ℕ) → bad inside (b ∷ bs) (suc i) ≡ bad (is_name_byte b) bs i
  bad_next inside b bs i = ap (λ (t : Bool). t && not (is_listed names (name_at bs i))) (begins_next inside b bs i)

  -- the first run that is not listed
  first_bad : (inside : Bool) (at : ℕ) (bs : List ℕ) (i : ℕ) → i < length bs → ((j : ℕ) → j < i → bad inside bs j ≡ false) → bad inside bs i ≡ true
      → FirstUnlisted names (runs_from inside at bs) (at + i)
  unfolding runs_from FirstUnlisted
  first_bad inside at [] i l h e = absurd (not-suc-le-zero l)
  first_bad inside at (b ∷ bs) zero l h e = here (is_name_byte b && not inside) (is_listed names (run (b ∷ bs))) refl e
    where
      here : (t u : Bool) → is_listed names (run (b ∷ bs)) ≡ u → (t && not u) ≡ true
          → FirstUnlisted names ((if t then record { name = run (b ∷ bs); place = at } ∷ [] else []) ++ runs_from (is_name_byte b) (suc at) bs) (at + 0)
      here true false d y = inl (d, omega arith)
      here true true d y = let z : ◌≡◌ {A = ℕ} 0 1 = cc in absurd (omega arith)
      here false u d y = let z : ◌≡◌ {A = ℕ} 0 1 = cc in absurd (omega arith)
  first_bad inside at (b ∷ bs) (suc i) l h e =
      subst (FirstUnlisted names (runs_from inside at (b ∷ bs))) (let z : suc at + i ≡ at + suc i = omega arith in z)
      (on (is_name_byte b && not inside) (is_listed names (run (b ∷ bs))) refl (h 0 (omega arith))
      (first_bad (is_name_byte b) (suc at) bs i (le_of_suc-le-suc l) (λ j m. sym (bad_next inside b bs j) ∙ h (suc j) (omega arith))
      (sym (bad_next inside b bs i) ∙ e)))
    where
      on : (t u : Bool) → is_listed names (run (b ∷ bs)) ≡ u → (t && not u) ≡ false → FirstUnlisted names (runs_from (is_name_byte b) (suc at) bs) (suc at + i)
          → FirstUnlisted names ((if t then record { name = run (b ∷ bs); place = at } ∷ [] else []) ++ runs_from (is_name_byte b) (suc at) bs) (suc at + i)
      on true true d y f = inr (d, f)
      on true false d y f = let z : ◌≡◌ {A = ℕ} 0 1 = cc in absurd (omega arith)
      on false u d y f = f

-- a refusal is 20, at the first byte of the earliest name that is not listed; or all are listed, and what follows is the refusal
pub listed_place : (names text : List ℕ) (w : IsTerm text) (k p : ℕ) (o : Outcome) → first_faulty (length text) (name_ground names text) o ≡ refused k p
    → ((k ≡ 20) × FirstUnlisted names (names_from 0 (alone w.is)) p) ⊎ (AllListed names (alone w.is) × (o ≡ refused k p))
unfolding name_ground
listed_place names text w k p o e = go (decided (length text) (name_ground names text) o)
  where
    runs_bad : (i : ℕ) → bad names false text i ≡ (name_begins text i && not (is_listed names (name_at text i)))
    runs_bad i = ap (λ (t : Bool). t && not (is_listed names (name_at text i))) (sym (begins_first text i))

    go : Decided (length text) (name_ground names text) o (first_faulty (length text) (name_ground names text) o)
        → ((k ≡ 20) × FirstUnlisted names (names_from 0 (alone w.is)) p) ⊎ (AllListed names (alone w.is) × (o ≡ refused k p))
    go (clear h d) = inr (listed_names names text w h, sym d ∙ e)
    go (faulty i l h g d) =
        let r = sym d ∙ e in
        let s = if_some (name_begins text i && not (is_listed names (name_at text i))) 20 g in
        let f = first_bad names false 0 text i l
        (λ j m. runs_bad j ∙ (if_zero (name_begins text j && not (is_listed names (name_at text j))) 19 0 (h j m)).0) (runs_bad i ∙ s.0) in
        let z : 0 + i ≡ p = omega (arith, refused_place r) in
        inl (sym (refused_number r) ∙ s.1, rw (← z, ← runs_text text w) f)

-- one place at most is that of the earliest name that is not listed
pub unlisted_once : (names : List ℕ) (xs : List Placed) (p q : ℕ) → FirstUnlisted names xs p → FirstUnlisted names xs q → p ≡ q
unfolding FirstUnlisted
unlisted_once names [] p q x'' _ = elim x'' [ ]
unlisted_once names (x ∷ xs) p q (inl f) (inl g) = sym f.1 ∙ g.1
unlisted_once names (x ∷ xs) p q (inl f) (inr g) = absurd (not_both (is_listed names x.name) g.0 f.0)
unlisted_once names (x ∷ xs) p q (inr f) (inl g) = absurd (not_both (is_listed names x.name) f.0 g.0)
unlisted_once names (x ∷ xs) p q (inr f) (inr g) = unlisted_once names xs p q f.1 g.1

unlisted_parts : (names : List ℕ) (xs ys : List Placed) (p : ℕ) → FirstUnlisted names (xs ++ ys) p → FirstUnlisted names xs p ⊎ FirstUnlisted names ys p
unfolding FirstUnlisted
unlisted_parts names [] ys p f = inr f
unlisted_parts names (x ∷ xs) ys p (inl f) = inl (inl f)
unlisted_parts names (x ∷ xs) ys p (inr f) = go (unlisted_parts names xs ys p f.1)
  where
    go : FirstUnlisted names xs p ⊎ FirstUnlisted names ys p → FirstUnlisted names (x ∷ xs) p ⊎ FirstUnlisted names ys p
    go (inl g) = inl (inr (f.0, g))
    go (inr g) = inr g

-- where all names are listed there is none
pub unlisted_some : (names : List ℕ) (f : Terms) (at p : ℕ) → FirstUnlisted names (names_from at f) p → AllListed names f → ⊥
unfolding FirstUnlisted names_from AllListed
unlisted_some names none at p u a = u
unlisted_some names (term n inner right) at p (inl u) a = not_both (is_listed names n) a.0 u.0
unlisted_some names (term n inner right) at p (inr u) a =
    go (unlisted_parts names (names_from (at + length n + 1) inner) (names_from (at + length n + length (bracketed inner) + 1) right) p u.1)
    (λ g. unlisted_some names inner _ p g a.1) (λ g. unlisted_some names right _ p g a.2)
  where
    go : {A B : Type 0} → A ⊎ B → (A → ⊥) → (B → ⊥) → ⊥
    go (inl x) f g = f x
    go (inr x) f g = g x

-- a term with a name that is not listed: 20, at the first byte of the earliest such name
pub listed_refused : (names text : List ℕ) (w : IsTerm text) (p : ℕ) → FirstUnlisted names (names_from 0 (alone w.is)) p
    → (o : Outcome) → first_faulty (length text) (name_ground names text) o ≡ refused 20 p
listed_refused names text w p f o =
    refused_only (first_faulty (length text) (name_ground names text) o) 20 p
    (λ t e. unlisted_some names (alone w.is) 0 p f (listed_names names text w (no_fault_back (length text) t (name_ground names text) o e).0))
    (λ k q e. go k q (listed_place names text w k q o e))
  where
    go : (k q : ℕ) → ((k ≡ 20) × FirstUnlisted names (names_from 0 (alone w.is)) q) ⊎ (AllListed names (alone w.is) × (o ≡ refused k q)) → (k ≡ 20) × (q ≡ p)
    go k q (inl x) = (x.0, unlisted_once names (names_from 0 (alone w.is)) q p x.1 f)
    go k q (inr x) = absurd (unlisted_some names (alone w.is) 0 p f x.0)

-- ---- 12 and 13, and 23

-- a refusal is 12, or 13 at its place; or the list is a tree, and what follows is the refusal
pub data TreePlace (tree : List ℕ) (k p : ℕ) (o : Outcome) : Type 0 where
  long : k ≡ 12 → p ≡ 0 → 4096 < length tree → TreePlace tree k p o
  no_tree_lem : k ≡ 13 → length tree ≤ 4096 → StopsAt WellFormed tree p → TreePlace tree k p o
  after : length tree ≤ 4096 → WellFormed tree → o ≡ refused k p → TreePlace tree k p o

pub tree_place : (tree : List ℕ) (k p : ℕ) (o : Outcome) → tree_then tree o ≡ refused k p → TreePlace tree k p o
unfolding tree_then
tree_place tree k p o e = go (if_refused (ltb 4096 (length tree)) 12 0 k p (form_then tree o) e)
  where
    go : ((ltb 4096 (length tree) ≡ true) × (k ≡ 12) × (p ≡ 0)) ⊎ ((ltb 4096 (length tree) ≡ false) × (form_then tree o ≡ refused k p)) → TreePlace tree k p o
    go (inl x) = long x.1 x.2 (ltb-true 4096 (length tree) x.0)
    go (inr x) = at (form_place tree k p o x.1)
      where
        at : ((k ≡ 13) × StopsAt WellFormed tree p) ⊎ (WellFormed tree × (o ≡ refused k p)) → TreePlace tree k p o
        at (inl y) = no_tree_lem y.0 (ltb-false 4096 (length tree) x.0) y.1
        at (inr y) = after (ltb-false 4096 (length tree) x.0) y.0 y.1

-- a refusal is 23, at the first symbol above the count of names; or there is none, and what follows is the refusal
pub named_place : (names tree : List ℕ) (k p : ℕ) (o : Outcome) → first_faulty (length tree) (symbol_ground names tree) o ≡ refused k p
    → ((k ≡ 23) × FirstUnnamed names tree p) ⊎ (((i : ℕ) → i < length tree → get_or tree i 0 ≤ how_many_names names) × (o ≡ refused k p))
unfolding symbol_ground
named_place names tree k p o e = go (decided (length tree) (symbol_ground names tree) o)
  where
    go : Decided (length tree) (symbol_ground names tree) o (first_faulty (length tree) (symbol_ground names tree) o)
        → ((k ≡ 23) × FirstUnnamed names tree p) ⊎ (((i : ℕ) → i < length tree → get_or tree i 0 ≤ how_many_names names) × (o ≡ refused k p))
    go (clear h d) = inr (λ i l. symbol_low names tree i (h i l), sym d ∙ e)
    go (faulty i l h g d) =
        let r = sym d ∙ e in
        let s = if_some (ltb (how_many_names names) (get_or tree i 0)) 23 g in
        let f : FirstUnnamed names tree i =
        record { within = l; above = ltb-true (how_many_names names) (get_or tree i 0) s.0; before = λ j m. symbol_low names tree j (h j m) } in
        inl (sym (refused_number r) ∙ s.1, rw (← refused_place r) f)

-- a list of at most 4,096 entries that stops being a tree: 13, at that place
pub tree_refused : (tree : List ℕ) (p : ℕ) → length tree ≤ 4096 → StopsAt WellFormed tree p → (o : Outcome) → tree_then tree o ≡ refused 13 p
tree_refused tree p l s o =
    refused_only (tree_then tree o) 13 p (λ t e. s.short (tree_then_back tree t o e).0) (λ k q e. go k q (tree_place tree k q o e))
  where
    go : (k q : ℕ) → TreePlace tree k q o → (k ≡ 13) × (q ≡ p)
    go k q (long x y m) = absurd (omega arith)
    go k q (no_tree_lem x m r) = (x, stops_once WellFormed tree q p r s)
    go k q (after m w x) = absurd (s.short w)

-- a list of more than 4,096 entries: 12
pub tree_long : (tree : List ℕ) (p : ℕ) → 4096 < length tree → p ≡ 0 → (o : Outcome) → tree_then tree o ≡ refused 12 p
unfolding tree_then
tree_long tree p l d o = if_place (ltb 4096 (length tree)) 12 0 p (form_then tree o) (lt-ltb 4096 (length tree) l) d

-- one entry at most is the first symbol above the count of names
pub unnamed_once : (names tree : List ℕ) (p q : ℕ) → FirstUnnamed names tree p → FirstUnnamed names tree q → p ≡ q
unnamed_once names tree p q f g = one_place p q (λ l. omega (arith, g.before p l, f.above)) (λ l. omega (arith, f.before q l, g.above))

-- a tree with a symbol above the count of names: 23, at the first such entry
pub named_refused : (names tree : List ℕ) (p : ℕ) → FirstUnnamed names tree p
    → (o : Outcome) → first_faulty (length tree) (symbol_ground names tree) o ≡ refused 23 p
named_refused names tree p f o =
    refused_only (first_faulty (length tree) (symbol_ground names tree) o) 23 p
    (λ t e. low (λ i l. symbol_low names tree i ((no_fault_back (length tree) t (symbol_ground names tree) o e).0 i l)))
    (λ k q e. go k q (named_place names tree k q o e))
  where
    low : ((i : ℕ) → i < length tree → get_or tree i 0 ≤ how_many_names names) → ⊥
    low h = omega (arith, h p f.within, f.above)

    go : (k q : ℕ) → ((k ≡ 23) × FirstUnnamed names tree q) ⊎ (((i : ℕ) → i < length tree → get_or tree i 0 ≤ how_many_names names) × (o ≡ refused k q)) → (k ≡ 23) × (q ≡ p)
    go k q (inl x) = (x.0, unnamed_once names tree q p x.1 f)
    go k q (inr x) = absurd (low x.0)

-- ---- the operations

short_place : (room needed m k p : ℕ) → (if ltb room needed then refused m needed else result needed) ≡ refused k p → (k ≡ m) × (p ≡ needed) × (room < p)
short_place room needed m k p e = go (if_refused (ltb room needed) m needed k p (result needed) e)
  where
    go : ((ltb room needed ≡ true) × (k ≡ m) × (p ≡ needed)) ⊎ ((ltb room needed ≡ false) × (result needed ≡ refused k p)) → (k ≡ m) × (p ≡ needed) × (room < p)
    go (inl x) = (x.1, x.2, omega (arith, x.2, ltb-true room needed x.0))
    go (inr x) = let y = x.1 in let z : ◌≡◌ {A = ℕ} 0 1 = cc in absurd (omega arith)

module _ (names text : List ℕ) (room : ℕ) where
  -- reading a term: what follows 20, what follows 19, and what follows 17
  abbrev entries : ℕ
  entries = length (entries_of names text)

  abbrev entered : Outcome
  entered = read_fits 4096 names text room

  abbrev listing : Outcome
  listing = read_whole 4096 names text room

  abbrev reading : Outcome
  reading = read_named 4096 names text room

  -- a refusal has its ground
  read_ground : (k p : ℕ) → read_term_outcome names text room ≡ refused k p → ReadRefused names text room k p
  unfolding read_term_outcome
  read_ground k p e = by_names (names_place names k p reading e)
    where
      by_entries : IsNamesList names → length text ≤ 65536 → (w : IsTerm text) → AllListed names (alone w.is)
          → ((ltb 4096 entries ≡ true) × (k ≡ 21) × (p ≡ 0)) ⊎ ((ltb 4096 entries ≡ false) × ((if ltb room entries then refused 22 entries else result entries) ≡ refused k p))
          → ReadRefused names text room k p
      by_entries n l w a (inl x) = read21 x.1 x.2 n l w a (ltb-true 4096 entries x.0)
      by_entries n l w a (inr x) =
          let s = short_place room entries 22 k p x.1 in
          read22 s.0 s.1 (record { list = n; short = l; well = w; listed = a; few = ltb-false 4096 entries x.0 }) s.2

      by_listed : IsNamesList names → length text ≤ 65536 → (w : IsTerm text)
          → ((k ≡ 20) × FirstUnlisted names (names_from 0 (alone w.is)) p) ⊎ (AllListed names (alone w.is) × (entered ≡ refused k p)) → ReadRefused names text room k p
      by_listed n l w (inl x) = read20 x.0 n l w x.1
      by_listed n l w (inr x) = by_entries n l w x.0 (if_refused (ltb 4096 entries) 21 0 k p _ x.1)

      by_term : IsNamesList names → length text ≤ 65536 → ((k ≡ 19) × StopsAt IsTerm text p) ⊎ (IsTerm text × (listing ≡ refused k p)) → ReadRefused names text room k p
      by_term n l (inl x) = read19 x.0 n l x.1
      by_term n l (inr x) = by_listed n l x.0 (listed_place names text x.0 k p entered x.1)

      by_length : IsNamesList names → ((ltb 65536 (length text) ≡ true) × (k ≡ 18) × (p ≡ 0)) ⊎ ((ltb 65536 (length text) ≡ false) × (term_then text listing ≡ refused k p))
          → ReadRefused names text room k p
      by_length n (inl x) = read18 x.1 x.2 n (ltb-true 65536 (length text) x.0)
      by_length n (inr x) = by_term n (ltb-false 65536 (length text) x.0) (term_place text k p listing x.1)

      by_names : ((k ≡ 17) × FaultyLine names p) ⊎ (IsNamesList names × (reading ≡ refused k p)) → ReadRefused names text room k p
      by_names (inl x) = read17 x.0 x.1
      by_names (inr x) = by_length x.0 (if_refused (ltb 65536 (length text)) 18 0 k p _ x.1)

  -- a ground has its refusal
  ground_read : (k p : ℕ) → ReadRefused names text room k p → read_term_outcome names text room ≡ refused k p
  unfolding read_term_outcome
  ground_read k p g = by g
    where
      past_17 : IsNamesList names → names_then names reading ≡ reading
      past_17 n = names_taken names (list_sound names n) reading

      past_18 : IsNamesList names → length text ≤ 65536 → names_then names reading ≡ term_then text listing
      past_18 n l = past_17 n ∙ if_no (ltb 65536 (length text)) _ _ (le-ltb 65536 (length text) l)

      past_19 : IsNamesList names → length text ≤ 65536 → IsTerm text → names_then names reading ≡ listing
      past_19 n l w = past_18 n l ∙ term_or_taken text w listing

      past_20 : IsNamesList names → length text ≤ 65536 → (w : IsTerm text) → AllListed names (alone w.is) → names_then names reading ≡ entered
      past_20 n l w a = past_19 n l w ∙ no_fault (length text) (name_ground names text) entered (names_listed names text w a)

      by : ReadRefused names text room k p → names_then names reading ≡ refused k p
      by (read17 e f) = rw e (names_refused names p f reading)
      by (read18 e d n l) = rw e (past_17 n ∙ if_place (ltb 65536 (length text)) 18 0 p _ (lt-ltb 65536 (length text) l) d)
      by (read19 e n l s) = rw e (past_18 n l ∙ term_refused text p s listing)
      by (read20 e n l w f) = rw e (past_19 n l w ∙ listed_refused names text w p f entered)
      by (read21 e d n l w a m) = rw e (past_20 n l w a ∙ if_place (ltb 4096 entries) 21 0 p _ (lt-ltb 4096 entries m) d)
      by (read22 e d r l) =
          rw e
          (past_20 r.list r.short r.well r.listed
          ∙ if_no (ltb 4096 entries) _ _ (le-ltb 4096 entries r.few)
          ∙ if_place (ltb room entries) 22 entries p _ (lt-ltb room entries (omega arith)) d)

pub read_refuses : ReadRefuses
read_refuses names text room k p = (read_ground names text room k p, ground_read names text room k p)

pub read_refused_once : ReadRefusedOnce
read_refused_once names text room = ground_alone (ReadRefused names text room) (read_term_outcome names text room) (ground_read names text room)

pub read_else : ReadElse
read_else names text room h =
    result_only (read_term_outcome names text room) _ (λ t e. (read_back names text room t e).1) (λ k p e. h k p (read_ground names text room k p e))

module _ (names tree : List ℕ) (room : ℕ) where
  -- writing a term: what follows 23, and what follows 13
  abbrev bytes : ℕ
  bytes = length (bytes_of names tree)

  abbrev writing24 : Outcome
  writing24 = write_fits names tree room

  abbrev naming : Outcome
  naming = write_formed names tree room

  -- a refusal has its ground
  write_ground : (k p : ℕ) → write_term_outcome names tree room ≡ refused k p → WriteRefused names tree room k p
  unfolding write_term_outcome
  write_ground k p e = by_names (names_place names k p _ e)
    where
      by_named : IsNamesList names → length tree ≤ 4096 → WellFormed tree
          → ((k ≡ 23) × FirstUnnamed names tree p) ⊎ (((i : ℕ) → i < length tree → get_or tree i 0 ≤ how_many_names names) × (writing24 ≡ refused k p))
          → WriteRefused names tree room k p
      by_named n l w (inl x) = write23 x.0 n l w x.1
      by_named n l w (inr x) =
          let s = short_place room bytes 24 k p x.1 in
          write24 s.0 s.1 (record { list = n; few = l; well = w; named = x.0 }) s.2

      by_tree : IsNamesList names → TreePlace tree k p naming → WriteRefused names tree room k p
      by_tree n (long x y l) = write12 x y n l
      by_tree n (no_tree_lem x l s) = write13 x n l s
      by_tree n (after l w x) = by_named n l w (named_place names tree k p writing24 x)

      by_names : ((k ≡ 17) × FaultyLine names p) ⊎ (IsNamesList names × (tree_then tree naming ≡ refused k p)) → WriteRefused names tree room k p
      by_names (inl x) = write17 x.0 x.1
      by_names (inr x) = by_tree x.0 (tree_place tree k p naming x.1)

  -- a ground has its refusal
  ground_write : (k p : ℕ) → WriteRefused names tree room k p → write_term_outcome names tree room ≡ refused k p
  unfolding write_term_outcome
  ground_write k p g = by g
    where
      past_17 : IsNamesList names → names_then names (tree_then tree naming) ≡ tree_then tree naming
      past_17 n = names_taken names (list_sound names n) (tree_then tree naming)

      past_13 : IsNamesList names → length tree ≤ 4096 → WellFormed tree → names_then names (tree_then tree naming) ≡ naming
      past_13 n l w = past_17 n ∙ tree_then_taken tree w l naming

      by : WriteRefused names tree room k p → names_then names (tree_then tree naming) ≡ refused k p
      by (write17 e f) = rw e (names_refused names p f (tree_then tree naming))
      by (write12 e d n l) = rw e (past_17 n ∙ tree_long tree p l d naming)
      by (write13 e n l s) = rw e (past_17 n ∙ tree_refused tree p l s naming)
      by (write23 e n l w f) = rw e (past_13 n l w ∙ named_refused names tree p f writing24)
      by (write24 e d w l) =
          rw e
          (past_13 w.list w.few w.well
          ∙ no_fault (length tree) (symbol_ground names tree) writing24 (λ i m. low_symbol names tree i (w.named i m))
          ∙ if_place (ltb room bytes) 24 bytes p _ (lt-ltb room bytes (omega arith)) d)

pub write_refuses : WriteRefuses
write_refuses names tree room k p = (write_ground names tree room k p, ground_write names tree room k p)

pub write_refused_once : WriteRefusedOnce
write_refused_once names tree room = ground_alone (WriteRefused names tree room) (write_term_outcome names tree room) (ground_write names tree room)

pub write_else : WriteElse
write_else names tree room h =
    result_only (write_term_outcome names tree room) _ (λ t e. (write_back names tree room t e).1) (λ k p e. h k p (write_ground names tree room k p e))
