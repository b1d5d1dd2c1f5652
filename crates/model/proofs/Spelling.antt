-- Laws of the list's spelling: of a name, of a text, and of the text of a term.
use Rattle.std.specs.Prelude.{if◌then◌else◌}
use Prim.Native.Nat.{ℕ, zero, suc, ◌+◌, ◌-◌, ◌≤◌, ◌<◌}
use mathlib.Core.Path.{◌≡◌, refl, ap, sym, subst, ◌∙◌}
use mathlib.Core.Bool.{Bool, true, false, not, ◌&&◌}
use mathlib.Core.List.{List, [], ◌∷◌, ◌++◌, append_assoc, append-nil, map}
use native.Mathlib.Omega.{arith}
use native.Mathlib.Nat.{not-suc-le-zero, le_of_suc-le-suc}
use lib.ListN.{length, get_or, drop, get_or-map}
use lib.Seq.{drop-append-add}
use borrow.Author.Tests.{not-false}
use Rattle.model.specs.Table.{same_by}
use Rattle.model.specs.Names.{is_name_byte, all_name_bytes, is_name, lower, alike, same_name, line_at, how_many_names, name_of, symbol_of, is_listed}
use Rattle.model.specs.Term.{Terms, none, term, alone, text_of_terms, text_of, AllNames, IsTerm, run, name_begins, name_at}
use Rattle.model.specs.TermOperations.{symbols_of, names_of, tree_of_term, term_of_tree, AllListed, name_ground}
use Rattle.model.specs.Spelling.{spelt, respelt_from, respelt, InSpelling, Respelling}
use Rattle.model.proofs.Choice.{if_yes, if_no, if_zero, and_true, and_both, not_both}
use Rattle.model.proofs.Lists.{same_long, same_append}
use Rattle.model.proofs.Bytes.{open_no_byte, close_no_byte, comma_no_byte, end_no_byte, byte_first, byte_others, name_parts, name_bytes_lem, NoByte, run_all, run_bytes}
use Rattle.model.proofs.Alike.{alike_refl, alike_lower, byte_alike, mark_alike, same_folded, folded_same, same_refl, same_sym, same_trans, same_exactly, same_bytes}
use Rattle.model.proofs.Scan.{bracketed, following, text_after}
use Rattle.model.proofs.Names.{Sound, symbol_alike, listed_alike, listed_line, name_of_symbol}
use Rattle.model.proofs.Listed.{brackets_stop, comma_stop, begins, begins_next, begins_first}

-- ---- runs of name bytes

run_on : (b : ℕ) (bs : List ℕ) → is_name_byte b ≡ true → run (b ∷ bs) ≡ b ∷ run bs
unfolding run
run_on b bs e = rw e

run_mark : (b : ℕ) (bs : List ℕ) → is_name_byte b ≡ false → run (b ∷ bs) ≡ []
unfolding run
run_mark b bs e = rw e

-- the run in small
pub run_small : (bs : List ℕ) → run (map lower bs) ≡ map lower (run bs)
unfolding run
run_small [] = refl
run_small (b ∷ bs) = rw (byte_alike (lower b) b (alike_lower b)) (go (is_name_byte b) (run_small bs))
  where
    go : (t : Bool) → run (map lower bs) ≡ map lower (run bs) → (if t then lower b ∷ run (map lower bs) else []) ≡ map lower (if t then b ∷ run bs else [])
    go true ih = ap (λ (x : List ℕ). lower b ∷ x) ih
    go false ih = refl

-- names begin at the same bytes, and are the same in small
byte_small : (bs : List ℕ) (i : ℕ) → is_name_byte (get_or (map lower bs) i 0) ≡ is_name_byte (get_or bs i 0)
unfolding lower
byte_small bs i = ap is_name_byte (get_or-map lower bs i 0) ∙ byte_alike (lower (get_or bs i 0)) (get_or bs i 0) (alike_lower (get_or bs i 0))

pub begins_small : (text : List ℕ) (i : ℕ) → name_begins (map lower text) i ≡ name_begins text i
unfolding name_begins
begins_small text zero = byte_small text 0
begins_small text (suc i) = rw (byte_small text (suc i), byte_small text i)

drop_small : (bs : List ℕ) (i : ℕ) → drop i (map lower bs) ≡ map lower (drop i bs)
drop_small bs zero = refl
drop_small [] (suc i) = refl
drop_small (b ∷ bs) (suc i) = drop_small bs i

pub name_small : (text : List ℕ) (i : ℕ) → name_at (map lower text) i ≡ map lower (name_at text i)
name_small text i = ap run (drop_small text i) ∙ run_small (drop i text)

pub begins_alike : (a b : List ℕ) → same_name a b ≡ true → (i : ℕ) → name_begins a i ≡ name_begins b i
begins_alike a b e i = sym (begins_small a i) ∙ ap (λ (x : List ℕ). name_begins x i) (same_folded a b e) ∙ begins_small b i

name_alike : (a b : List ℕ) → same_name a b ≡ true → (i : ℕ) → same_name (name_at a i) (name_at b i) ≡ true
name_alike a b e i =
    folded_same (name_at a i) (name_at b i) (sym (name_small a i) ∙ ap (λ (x : List ℕ). name_at x i) (same_folded a b e) ∙ name_small b i)

-- texts that are alike and have the same names are the same, where the byte before them is in a name or not
names_decide : (inside : Bool) (a b : List ℕ) → same_name a b ≡ true → (inside ≡ true → run a ≡ run b)
    → ((i : ℕ) → i < length a → begins inside a i ≡ true → name_at a i ≡ name_at b i) → a ≡ b
unfolding same_by
names_decide inside [] [] e r h = refl
names_decide inside [] (y ∷ b) e r h = absurd (not_both false e refl)
names_decide inside (x ∷ a) [] e r h = absurd (not_both false e refl)
names_decide inside (x ∷ a) (y ∷ b) e r h =
    let p = and_true (alike x y) (same_name a b) e in
    go (is_name_byte x) refl p.0 (name inside refl)
    (λ k. names_decide (is_name_byte x) a b p.1 k (λ i l f. h (suc i) (omega arith) (begins_next inside x a i ∙ f)))
  where
    -- a name byte is in a name, the same in both
    name : (s : Bool) → inside ≡ s → is_name_byte x ≡ true → run (x ∷ a) ≡ run (y ∷ b)
    name true f g = r f
    name false f g = h 0 (omega arith) (rw (f, g))

    go : (t : Bool) → is_name_byte x ≡ t → alike x y ≡ true → (is_name_byte x ≡ true → run (x ∷ a) ≡ run (y ∷ b)) → ((is_name_byte x ≡ true → run a ≡ run b) → a ≡ b)
        → x ∷ a ≡ y ∷ b
    go true f k n ih =
        let m : x ∷ run a ≡ y ∷ run b = sym (run_on x a f) ∙ n f ∙ run_on y b (sym (byte_alike x y k) ∙ f) in
        λ i. ap (λ (l : List ℕ). get_or l 0 0) m i ∷ ih (λ g. ap (drop 1) m) i
    go false f k n ih = λ i. mark_alike x y k f i ∷ ih (λ g. absurd (not_both (is_name_byte x) g f)) i

same_cons : (b : ℕ) (xs ys : List ℕ) → same_name xs ys ≡ true → same_name (b ∷ xs) (b ∷ ys) ≡ true
unfolding same_by
same_cons b xs ys e = and_both (alike b b) (same_name xs ys) (alike_refl b) e

module _ (names : List ℕ) where
  -- ---- a name

  -- the list's spelling of a name is equal to it
  pub spelt_same : (n : List ℕ) → same_name (spelt names n) n ≡ true
  unfolding spelt
  spelt_same n = go (is_listed names n) refl
    where
      go : (t : Bool) → is_listed names n ≡ t → same_name (if t then name_of names (symbol_of names n) else n) n ≡ true
      go true e = (name_of_symbol names n e).0
      go false e = same_refl n

  spelt_long : (n : List ℕ) → length (spelt names n) ≡ length n
  spelt_long n = same_long alike (spelt names n) n (spelt_same n)

  spelt_bytes : (n : List ℕ) → all_name_bytes n ≡ true → all_name_bytes (spelt names n) ≡ true
  spelt_bytes n e = same_bytes (spelt names n) n (spelt_same n) ∙ e

  spelt_listed : (n : List ℕ) → is_listed names n ≡ true → spelt names n ≡ name_of names (symbol_of names n)
  unfolding spelt
  spelt_listed n e = if_yes (is_listed names n) (name_of names (symbol_of names n)) n e

  spelt_other : (n : List ℕ) → is_listed names n ≡ false → spelt names n ≡ n
  unfolding spelt
  spelt_other n e = if_no (is_listed names n) (name_of names (symbol_of names n)) n e

  -- in a names list it is the line that is equal to the name
  pub spelt_line : Sound names → (n : List ℕ) (k : ℕ) → k < how_many_names names → same_name (line_at names k).bytes n ≡ true
      → spelt names n ≡ (line_at names k).bytes
  unfolding name_of
  spelt_line h n k l e =
      let p = listed_line names h n k l e in
      let f : symbol_of names n - 1 ≡ k = omega (arith, p.0) in
      spelt_listed n p.1 ∙ ap (λ (i : ℕ). (line_at names i).bytes) f

  -- either spelling of a listed name has the same spelling in the list
  pub spelt_alike : (a b : List ℕ) → same_name a b ≡ true → is_listed names a ≡ true → spelt names a ≡ spelt names b
  spelt_alike a b e l =
      spelt_listed a l ∙ ap (name_of names) (symbol_alike names a b e) ∙ sym (spelt_listed b (sym (listed_alike names a b e) ∙ l))

  pub spelt_twice : (n : List ℕ) → spelt names (spelt names n) ≡ spelt names n
  spelt_twice n = go (is_listed names n) refl
    where
      go : (t : Bool) → is_listed names n ≡ t → spelt names (spelt names n) ≡ spelt names n
      go true e = spelt_alike (spelt names n) n (spelt_same n) (listed_alike names (spelt names n) n (spelt_same n) ∙ e)
      go false e = ap (spelt names) (spelt_other n e)

  -- ---- a text, byte by byte

  respelt_mark : (inside : Bool) (b : ℕ) (bs : List ℕ) → is_name_byte b ≡ false → respelt_from names inside (b ∷ bs) ≡ b ∷ respelt names bs
  unfolding respelt_from
  respelt_mark inside b bs e = rw e

  respelt_on : (b : ℕ) (bs : List ℕ) → is_name_byte b ≡ true → respelt_from names true (b ∷ bs) ≡ respelt_from names true bs
  unfolding respelt_from
  respelt_on b bs e = rw e

  respelt_begins : (b : ℕ) (bs : List ℕ) → is_name_byte b ≡ true → respelt names (b ∷ bs) ≡ spelt names (b ∷ run bs) ++ respelt_from names true bs
  unfolding respelt_from run
  respelt_begins b bs e = rw e

  -- the rest of the name that the bytes begin in, and what follows it respelt
  abbrev after : (inside : Bool) → List ℕ → List ℕ
  after inside bs = (if inside then run bs else []) ++ respelt_from names inside bs

  after_same : (inside : Bool) (bs : List ℕ) → same_name (after inside bs) bs ≡ true
  unfolding respelt_from run same_by
  after_same true [] = refl
  after_same false [] = refl
  after_same inside (b ∷ bs) = go inside (is_name_byte b) refl (λ t. after_same t bs)
    where
      go : (s t : Bool) → is_name_byte b ≡ t → ((u : Bool) → same_name (after u bs) bs ≡ true) → same_name (after s (b ∷ bs)) (b ∷ bs) ≡ true
      go true true e ih = rw (run_on b bs e, respelt_on b bs e) (same_cons b (after true bs) bs (ih true))
      go false true e ih =
          let r = respelt_from names true bs in
          rw (respelt_begins b bs e)
          (same_trans (spelt names (b ∷ run bs) ++ r) (b ∷ run bs ++ r) (b ∷ bs)
          (same_append alike (spelt names (b ∷ run bs)) (b ∷ run bs) r r (spelt_same (b ∷ run bs)) (same_refl r)) (same_cons b (after true bs) bs (ih true)))
      go true false e ih = rw (run_mark b bs e, respelt_mark true b bs e) (same_cons b (after false bs) bs (ih false))
      go false false e ih = rw (respelt_mark false b bs e) (same_cons b (after false bs) bs (ih false))

  -- the text respelt is as long, and alike at each place
  pub respelt_same : (text : List ℕ) → same_name (respelt names text) text ≡ true
  respelt_same text = after_same false text

  pub respelt_length : (text : List ℕ) → length (respelt names text) ≡ length text
  respelt_length text = same_long alike (respelt names text) text (respelt_same text)

  -- ---- a name and what follows it

  rest_stops : (bs : List ℕ) → NoByte (respelt_from names true bs)
  unfolding respelt_from
  rest_stops [] = end_no_byte
  rest_stops (b ∷ bs) = go (is_name_byte b) refl (rest_stops bs)
    where
      go : (t : Bool) → is_name_byte b ≡ t → NoByte (respelt_from names true bs) → NoByte (respelt_from names true (b ∷ bs))
      go true e ih = rw (respelt_on b bs e) ih
      go false e ih = rw (respelt_mark true b bs e) e

  respelt_rest : (n ys : List ℕ) → all_name_bytes n ≡ true → NoByte ys → respelt_from names true (n ++ ys) ≡ respelt names ys
  unfolding respelt_from
  respelt_rest [] [] e h = refl
  respelt_rest [] (y ∷ ys) e h = respelt_mark true y ys h ∙ sym (respelt_mark false y ys h)
  respelt_rest (b ∷ bs) ys e h = respelt_on b (bs ++ ys) (byte_first b bs e) ∙ respelt_rest bs ys (byte_others b bs e) h

  respelt_bytes : (n ys : List ℕ) → 0 < length n → all_name_bytes n ≡ true → NoByte ys → respelt names (n ++ ys) ≡ spelt names n ++ respelt names ys
  respelt_bytes [] ys l e h = absurd (not-suc-le-zero l)
  respelt_bytes (b ∷ bs) ys l e h =
      respelt_begins b (bs ++ ys) (byte_first b bs e)
      ∙ ap (λ (x : List ℕ). spelt names (b ∷ x) ++ respelt_from names true (bs ++ ys)) (run_all bs ys (byte_others b bs e) h)
      ∙ ap (λ (x : List ℕ). spelt names (b ∷ bs) ++ x) (respelt_rest bs ys (byte_others b bs e) h)

  -- ---- the names of a text, respelt

  -- no name begins in the rest of one
  begins_past : (bs : List ℕ) (i : ℕ) → begins true bs i ≡ true → length (run bs) ≤ i
  unfolding run
  begins_past [] i e = omega arith
  begins_past (b ∷ bs) zero e = absurd (not_both false (and_true (is_name_byte b) false e).1 refl)
  begins_past (b ∷ bs) (suc i) e = go (is_name_byte b) refl (λ f. begins_past bs i (sym (begins_next true b bs i ∙ ap (λ (u : Bool). begins u bs i) f) ∙ e))
    where
      go : (t : Bool) → is_name_byte b ≡ t → (is_name_byte b ≡ true → length (run bs) ≤ i) → length (if t then b ∷ run bs else []) ≤ suc i
      go true f ih = omega (arith, ih f)
      go false f ih = omega arith

  -- what follows two lists as long is the same
  drop_past : (xs ys zs : List ℕ) (i : ℕ) → length xs ≡ length ys → length xs ≤ i → drop i (xs ++ zs) ≡ drop i (ys ++ zs)
  drop_past xs ys zs i e l =
      let f : i ≡ length xs + (i - length xs) = omega arith in
      let g : i ≡ length ys + (i - length xs) = omega arith in
      ap (λ (k : ℕ). drop k (xs ++ zs)) f
      ∙ drop-append-add xs zs (i - length xs)
      ∙ sym (ap (λ (k : ℕ). drop k (ys ++ zs)) g ∙ drop-append-add ys zs (i - length xs))

  named_from : (inside : Bool) (bs : List ℕ) (i : ℕ) → i < length bs → begins inside bs i ≡ true → name_at (after inside bs) i ≡ spelt names (name_at bs i)
  named_from inside [] i l e = absurd (not-suc-le-zero l)
  named_from true (b ∷ bs) zero l e = absurd (not_both false (and_true (is_name_byte b) false e).1 refl)
  named_from false (b ∷ bs) zero l e =
      let f = (and_true (is_name_byte b) true e).0 in
      let n = b ∷ run bs in
      ap run (respelt_begins b bs f)
      ∙ run_all (spelt names n) (respelt_from names true bs) (spelt_bytes n (rw (run_on b bs f) at (run_bytes (b ∷ bs)))) (rest_stops bs)
      ∙ ap (spelt names) (sym (run_on b bs f))
  named_from inside (b ∷ bs) (suc i) l e =
      ap run (go inside (is_name_byte b) refl)
      ∙ named_from (is_name_byte b) bs i (le_of_suc-le-suc l) (sym (begins_next inside b bs i) ∙ e)
    where
      go : (s t : Bool) → is_name_byte b ≡ t → drop (suc i) (after s (b ∷ bs)) ≡ drop i (after t bs)
      go true true f = rw (run_on b bs f, respelt_on b bs f)
      go false true f =
          ap (drop (suc i)) (respelt_begins b bs f)
          ∙ drop_past (spelt names (b ∷ run bs)) (b ∷ run bs) (respelt_from names true bs) (suc i) (spelt_long (b ∷ run bs))
          (omega (arith, spelt_long (b ∷ run bs), begins_past bs i (sym (begins_next inside b bs i ∙ ap (λ (u : Bool). begins u bs i) f) ∙ e)))
      go true false f = rw (run_mark b bs f, respelt_mark true b bs f)
      go false false f = ap (drop (suc i)) (respelt_mark false b bs f)

  -- ---- what the text in the list's spelling is

  -- where 20 does not hold, the name is listed
  no_ground : (text : List ℕ) (i : ℕ) → name_begins text i ≡ true → name_ground names text i ≡ 0 → is_listed names (name_at text i) ≡ true
  unfolding name_ground
  no_ground text i e g =
      let p = if_zero (name_begins text i && not (is_listed names (name_at text i))) 19 0 g in
      not-false (is_listed names (name_at text i)) (rw e at p.0)

  pub respelt_named : (text : List ℕ) (i : ℕ) → i < length text → name_begins text i ≡ true → name_at (respelt names text) i ≡ spelt names (name_at text i)
  respelt_named text i l e = named_from false text i l (sym (begins_first text i) ∙ e)

  -- a text alike to it whose names are the list's spelling of the text's is no other
  respelt_decided : (text other : List ℕ) → same_name other text ≡ true
      → ((i : ℕ) → i < length text → name_begins text i ≡ true → name_at other i ≡ spelt names (name_at text i)) → other ≡ respelt names text
  respelt_decided text other e h =
      names_decide false other (respelt names text) (same_trans other text (respelt names text) e (same_sym (respelt names text) text (respelt_same text)))
      (λ f. absurd (not_both false f refl))
      (λ i l f.
      let m : i < length text = omega (arith, same_long alike other text e) in
      let g : name_begins text i ≡ true = sym (begins_alike other text e i) ∙ begins_first other i ∙ f in
      h i m g ∙ sym (respelt_named text i m g))

  respelt_in : (text : List ℕ) → InSpelling names (respelt names text)
  respelt_in text i l e =
      let m : i < length text = omega (arith, respelt_length text) in
      let f = respelt_named text i m (sym (begins_alike (respelt names text) text (respelt_same text) i) ∙ e) in
      ap (spelt names) f ∙ spelt_twice (name_at text i) ∙ sym f

  respelt_none : (text : List ℕ) → InSpelling names text → respelt names text ≡ text
  respelt_none text h = sym (respelt_decided text text (same_refl text) (λ i l e. sym (h i l e)))

  -- for every list and text
  pub respelling : (text : List ℕ) → Respelling names text
  respelling text =
      record {
        each = (same_exactly (respelt names text) text).0 (respelt_same text);
        named = respelt_named text;
        spelling = respelt_in text;
        same = (λ e. subst (InSpelling names) e (respelt_in text), respelt_none text);
        twice = respelt_none (respelt names text) (respelt_in text);
        only = λ g other e s.
            let f = (same_exactly other text).1 e in
            respelt_decided text other f (λ i l h.
            sym (s i (omega (arith, same_long alike other text f)) (begins_alike other text f i ∙ h))
            ∙ sym (spelt_alike (name_at text i) (name_at other i) (name_alike text other (same_sym other text f) i) (no_ground text i h (g i l))));
      }

  -- ---- the text of a term

  -- each name in the list's spelling
  abbrev listed : Terms → Terms
  listed f = names_of names (symbols_of names f)

  respelt_brackets : (f : Terms) (ys : List ℕ)
      → ((zs : List ℕ) → NoByte zs → respelt names (text_of_terms f ++ zs) ≡ text_of_terms (listed f) ++ respelt names zs)
      → respelt names (bracketed f ++ ys) ≡ bracketed (listed f) ++ respelt names ys
  unfolding symbols_of names_of
  respelt_brackets none ys h = refl
  respelt_brackets (term n inner right) ys h =
      let f = term n inner right in
      respelt_mark false 40 (text_of_terms f ++ 41 ∷ [] ++ ys) open_no_byte
      ∙ ap (λ (x : List ℕ). 40 ∷ respelt names x) (append_assoc (text_of_terms f) (41 ∷ []) ys)
      ∙ ap (λ (x : List ℕ). 40 ∷ x) (h (41 ∷ ys) close_no_byte)
      ∙ ap (λ (x : List ℕ). 40 ∷ text_of_terms (listed f) ++ x) (respelt_mark false 41 ys close_no_byte)
      ∙ ap (λ (x : List ℕ). 40 ∷ x) (sym (append_assoc (text_of_terms (listed f)) (41 ∷ []) (respelt names ys)))

  respelt_comma : (f : Terms) (ys : List ℕ) → respelt names (text_of_terms f ++ ys) ≡ text_of_terms (listed f) ++ respelt names ys
      → respelt names (following f ++ ys) ≡ following (listed f) ++ respelt names ys
  unfolding symbols_of names_of
  respelt_comma none ys h = refl
  respelt_comma (term n inner right) ys h = respelt_mark false 44 (text_of_terms (term n inner right) ++ ys) comma_no_byte ∙ ap (λ (x : List ℕ). 44 ∷ x) h

  respelt_name : (n ys : List ℕ) → is_name n ≡ true → is_listed names n ≡ true → NoByte ys
      → respelt names (n ++ ys) ≡ name_of names (symbol_of names n) ++ respelt names ys
  respelt_name n ys e l h =
      let w = name_parts n e in
      respelt_bytes n ys (omega (arith, ap length w.is)) (name_bytes_lem n e) h ∙ ap (λ (x : List ℕ). x ++ respelt names ys) (spelt_listed n l)

  respelt_terms : (f : Terms) → AllNames f → AllListed names f → (ys : List ℕ) → NoByte ys
      → respelt names (text_of_terms f ++ ys) ≡ text_of_terms (listed f) ++ respelt names ys
  unfolding AllNames AllListed text_of_terms symbols_of names_of
  respelt_terms none h a ys s = refl
  respelt_terms (term n inner right) h a ys s =
      let m = name_of names (symbol_of names n) in
      ap (respelt names) (text_after n inner right ys)
      ∙ respelt_name n _ h.0 a.0 (brackets_stop inner _ (comma_stop right ys s))
      ∙ ap (λ (x : List ℕ). m ++ x)
      (respelt_brackets inner _ (respelt_terms inner h.1 a.1)
      ∙ ap (λ (x : List ℕ). bracketed (listed inner) ++ x) (respelt_comma right ys (respelt_terms right h.2 a.2 ys s)))
      ∙ sym (text_after m (listed inner) (listed right) (respelt names ys))

  -- a term whose names are listed, respelt: the text of its tree
  pub respelt_term : (text : List ℕ) (w : IsTerm text) → AllListed names (alone w.is)
      → respelt names text ≡ text_of (term_of_tree names (tree_of_term names w.is))
  unfolding text_of respelt_from symbols_of names_of
  respelt_term text w a =
      ap (respelt names) (sym w.written ∙ sym (append-nil (text_of_terms (alone w.is))))
      ∙ respelt_terms (alone w.is) w.names a [] end_no_byte
      ∙ append-nil (text_of_terms (listed (alone w.is)))
