-- Reading a text: the scan accepts just the terms, its place is document 01's, and the term is read back from its text.
use Rattle.std.specs.Prelude.{if◌then◌else◌}
use Prim.Native.Nat.{ℕ, zero, suc, ◌+◌, ◌≤◌, ◌<◌}
use mathlib.Core.Path.{◌≡◌, refl, ap, sym, ◌∙◌}
use mathlib.Core.Bool.{Bool, true, false}
use mathlib.Core.Logic.{◌⊎◌, inl, inr}
use mathlib.Core.List.{List, [], ◌∷◌, ◌++◌, append_assoc, append-nil}
use native.Mathlib.Omega.{arith}
use native.Mathlib.Nat.{add-zero, not-suc-le-zero, le_of_suc-le-suc}
use lib.ListN.{length, get_or, take}
use lib.Dec.{eqb, ltb, eqb-suc-zero}
use borrow.Author.Tests.{eqb-true, ltb-true, lt-ltb}
use Rattle.model.specs.Answers.{Outcome, result}
use Rattle.model.specs.Names.{is_letter, is_name_byte, all_name_bytes, is_name}
use Rattle.model.specs.Term.{Terms, none, term, Term, alone, in_brackets, after_comma, text_of_terms, text_of, AllNames, IsTerm, ScanState, due, in_name, closed, ScanStep, goes_on, stops, after_term, step, may_end, Scan, passes, breaks_at, onward, scan, break_then, term_then, Seen, before, seen_from, seen_term, term_from}
use Rattle.model.specs.Place.{StopsAt}
use Rattle.model.specs.Inverse.{commas, Applied, TermSentence}
use Rattle.model.proofs.Choice.{and_both}
use Rattle.model.proofs.Rows.{same_list_refl}
use Rattle.model.proofs.Bytes.{byte_first, byte_others, name_parts, name_made, name_bytes_lem}

-- ---- the text of terms, with bytes after it

-- the terms in a name's brackets, and the terms to the right
abbrev pub bracketed : Terms → List ℕ
bracketed f = in_brackets f (text_of_terms f)

abbrev pub following : Terms → List ℕ
following f = after_comma f (text_of_terms f)

-- terms with bytes after them: standing alone, in brackets, behind a comma; and one term with nothing after it
pub text_after : (n : List ℕ) (k r : Terms) (ys : List ℕ) → text_of_terms (term n k r) ++ ys ≡ n ++ (bracketed k ++ (following r ++ ys))
unfolding text_of_terms
text_after n k r ys = regroup n (bracketed k) (following r) ys
  where
    regroup : (a b c d : List ℕ) → a ++ b ++ c ++ d ≡ a ++ (b ++ (c ++ d))
    regroup a b c d = simp append_assoc

pub brackets_after : (n : List ℕ) (k r : Terms) (ys : List ℕ) → bracketed (term n k r) ++ ys ≡ 40 ∷ (n ++ (bracketed k ++ (following r ++ 41 ∷ ys)))
brackets_after n k r ys = ap (λ (l : List ℕ). 40 ∷ l) (append_assoc (text_of_terms (term n k r)) (41 ∷ []) ys ∙ text_after n k r (41 ∷ ys))

pub comma_after : (n : List ℕ) (k r : Terms) (ys : List ℕ) → following (term n k r) ++ ys ≡ 44 ∷ (n ++ (bracketed k ++ (following r ++ ys)))
comma_after n k r ys = ap (λ (l : List ℕ). 44 ∷ l) (text_after n k r ys)

pub text_of_lem : (t : Term) → text_of t ≡ t.name ++ bracketed t.inner
unfolding text_of text_of_terms
text_of_lem t = append-nil (t.name ++ bracketed t.inner)

-- ---- a term's text is whole

abbrev Fine : ScanState → List ℕ → Type 0
Fine r xs = (p : ℕ) → scan r p xs ≡ passes

-- what may follow a term: nothing, `)` or `,`
data Stop : List ℕ → Type 0 where
  end : Stop []
  close : {xs : List ℕ} → Stop (41 ∷ xs)
  comma : {xs : List ℕ} → Stop (44 ∷ xs)

stop_following : (r : Terms) (ys : List ℕ) → Stop ys → Stop (following r ++ ys)
stop_following none ys s = s
stop_following (term n k r) ys s = comma

name_as_closed : (d j : ℕ) (ys : List ℕ) → Stop ys → Fine (closed d) ys → Fine (in_name d j) ys
unfolding scan step is_name_byte is_letter
name_as_closed d j ys end f p = f p
name_as_closed d j ys close f p = f p
name_as_closed d j ys comma f p = f p

name_on : (d j b p : ℕ) (bs : List ℕ) → is_name_byte b ≡ true → j < 24 → scan (in_name d j) p (b ∷ bs) ≡ scan (in_name d (suc j)) (suc p) bs
unfolding scan step
name_on d j b p bs e l = rw (e, lt-ltb j 24 l)

name_run : (more ys : List ℕ) (d j : ℕ) → all_name_bytes more ≡ true → j + length more ≤ 24
    → Fine (in_name d (j + length more)) ys → Fine (in_name d j) (more ++ ys)
name_run [] ys d j e l f p = rw add-zero at (f p)
name_run (b ∷ more) ys d j e l f p =
    let g : suc j + length more ≡ j + suc (length more) = omega arith in
    name_on d j b p (more ++ ys) (byte_first b more e) (omega arith)
    ∙ name_run more ys d (suc j) (byte_others b more e) (omega arith) (rw g f) (suc p)

due_on : (d b p : ℕ) (bs : List ℕ) → is_letter b ≡ true → scan (due d) p (b ∷ bs) ≡ scan (in_name d 1) (suc p) bs
unfolding scan step
due_on d b p bs e = rw e

due_run : (n ys : List ℕ) (d : ℕ) → is_name n ≡ true → ((j : ℕ) → Fine (in_name d j) ys) → Fine (due d) (n ++ ys)
due_run n ys d e f p =
    let i = name_parts n e in
    rw i.is
    (due_on d i.first p (i.others ++ ys) i.letter
    ∙ name_run i.others ys d 1 i.rest (omega (arith, i.short)) (f (1 + length i.others)) (suc p))

open_on : (ys : List ℕ) (d j : ℕ) → Fine (due (suc d)) ys → Fine (in_name d j) (40 ∷ ys)
unfolding scan step is_name_byte is_letter
open_on ys d j f p = f (suc p)

comma_on : (ys : List ℕ) (d : ℕ) → Fine (due (suc d)) ys → Fine (closed (suc d)) (44 ∷ ys)
unfolding scan step
comma_on ys d f p = f (suc p)

close_on : (ys : List ℕ) (d : ℕ) → Fine (closed d) ys → Fine (closed (suc d)) (41 ∷ ys)
unfolding scan step
close_on ys d f p = f (suc p)

mutual
  unfolding AllNames

  brackets_fine : (k : Terms) (ys : List ℕ) (d j : ℕ) → AllNames k → Stop ys → Fine (closed d) ys → Fine (in_name d j) (bracketed k ++ ys)
  brackets_fine none ys d j a s f = name_as_closed d j ys s f
  brackets_fine (term n k r) ys d j a s f =
      rw (brackets_after n k r ys)
      (open_on (n ++ (bracketed k ++ (following r ++ 41 ∷ ys))) d j
      (due_run n (bracketed k ++ (following r ++ 41 ∷ ys)) (suc d) a.0
      (λ i. brackets_fine k (following r ++ 41 ∷ ys) (suc d) i a.1 (stop_following r (41 ∷ ys) close)
      (following_fine r (41 ∷ ys) d a.2 close (close_on ys d f)))))

  following_fine : (r : Terms) (ys : List ℕ) (d : ℕ) → AllNames r → Stop ys → Fine (closed (suc d)) ys → Fine (closed (suc d)) (following r ++ ys)
  following_fine none ys d a s f = f
  following_fine (term n k r) ys d a s f =
      rw (comma_after n k r ys)
      (comma_on (n ++ (bracketed k ++ (following r ++ ys))) d
      (due_run n (bracketed k ++ (following r ++ ys)) (suc d) a.0
      (λ i. brackets_fine k (following r ++ ys) (suc d) i a.1 (stop_following r ys s) (following_fine r ys d a.2 s f))))

end_fine : Fine (closed 0) []
unfolding scan
end_fine p = refl

-- a term is read whole
pub scan_whole : (text : List ℕ) → IsTerm text → scan (due 0) 0 text ≡ passes
unfolding AllNames
scan_whole text w =
    let t = w.is in
    rw (← w.written, text_of_lem t, ← (append-nil (bracketed t.inner)))
    (due_run t.name (bracketed t.inner ++ []) 0 w.names.0 (λ j. brackets_fine t.inner [] 0 j w.names.1 end end_fine) 0)

-- ---- a text that is whole is a term's

-- for each bracket that is open, the terms yet to come in it
data Up : ℕ → Type 0 where
  top : Up 0
  level : {d : ℕ} → Terms → Up d → Up (suc d)

abbrev up : {d : ℕ} → Up d → List ℕ
up top = []
up (level r u) = following r ++ 41 ∷ up u

abbrev NamesUp : {d : ℕ} → Up d → Type 0
NamesUp top = Unit {0}
NamesUp (level r u) = AllNames r × NamesUp u

-- what the rest of a whole text is, by the reading
record Closed (d : ℕ) (xs : List ℕ) : Type 0 where
  levels : Up d
  names : NamesUp levels
  is : xs ≡ up levels

record Named (d j : ℕ) (xs : List ℕ) : Type 0 where
  more : List ℕ
  under : Terms
  levels : Up d
  bytes : all_name_bytes more ≡ true
  short : j ≤ 24 → j + length more ≤ 24
  names : AllNames under × NamesUp levels
  is : xs ≡ more ++ (bracketed under ++ up levels)

record Due (d : ℕ) (xs : List ℕ) : Type 0 where
  own : List ℕ
  under : Terms
  levels : Up d
  named : is_name own ≡ true
  names : AllNames under × NamesUp levels
  is : xs ≡ own ++ (bracketed under ++ up levels)

abbrev Left : ScanState → List ℕ → Type 0
Left (due d) xs = Due d xs
Left (in_name d j) xs = Named d j xs
Left (closed d) xs = Closed d xs

abbrev Back : List ℕ → Type 0
Back xs = (r : ScanState) (p : ℕ) → scan r p xs ≡ passes → Left r xs

-- one byte back
closed_comma : (d : ℕ) (xs : List ℕ) → Due (suc d) xs → Closed (suc d) (44 ∷ xs)
unfolding AllNames
closed_comma d xs w = by w.levels w.names.1 w.is
  where
    by : (u : Up (suc d)) → NamesUp u → xs ≡ w.own ++ (bracketed w.under ++ up u) → Closed (suc d) (44 ∷ xs)
    by (level r u) a e =
        record {
          levels = level (term w.own w.under r) u;
          names = ((w.named, w.names.0, a.0), a.1);
          is = ap (λ (l : List ℕ). 44 ∷ l) e ∙ sym (comma_after w.own w.under r (41 ∷ up u));
        }

closed_close : (d : ℕ) (xs : List ℕ) → Closed d xs → Closed (suc d) (41 ∷ xs)
unfolding AllNames
closed_close d xs c = record { levels = level none c.levels; names = (tt, c.names); is = ap (λ (l : List ℕ). 41 ∷ l) c.is }

name_open : (d j : ℕ) (xs : List ℕ) → Due (suc d) xs → Named d j (40 ∷ xs)
unfolding AllNames all_name_bytes
name_open d j xs w = by w.levels w.names.1 w.is
  where
    by : (u : Up (suc d)) → NamesUp u → xs ≡ w.own ++ (bracketed w.under ++ up u) → Named d j (40 ∷ xs)
    by (level r u) a e =
        record {
          more = [];
          under = term w.own w.under r;
          levels = u;
          bytes = refl;
          short = omega arith;
          names = ((w.named, w.names.0, a.0), a.1);
          is = ap (λ (l : List ℕ). 40 ∷ l) e ∙ sym (brackets_after w.own w.under r (up u));
        }

name_closed : (d j : ℕ) (xs : List ℕ) → Closed d xs → Named d j xs
unfolding AllNames all_name_bytes
name_closed d j xs c = record { more = []; under = none; levels = c.levels; bytes = refl; short = omega arith; names = (tt, c.names); is = c.is }

name_more : (d j b : ℕ) (xs : List ℕ) → is_name_byte b ≡ true → j < 24 → Named d (suc j) xs → Named d j (b ∷ xs)
unfolding all_name_bytes
name_more d j b xs e l n =
    record {
      more = b ∷ n.more;
      under = n.under;
      levels = n.levels;
      bytes = and_both (is_name_byte b) (all_name_bytes n.more) e n.bytes;
      short = λ h. omega (arith, n.short l);
      names = n.names;
      is = ap (λ (l : List ℕ). b ∷ l) n.is;
    }

due_letter : (d b : ℕ) (xs : List ℕ) → is_letter b ≡ true → Named d 1 xs → Due d (b ∷ xs)
due_letter d b xs e n =
    record {
      own = b ∷ n.more;
      under = n.under;
      levels = n.levels;
      named = name_made b n.more e n.bytes (omega (arith, n.short (omega arith)));
      names = n.names;
      is = ap (λ (l : List ℕ). b ∷ l) n.is;
    }

-- a step, by its tests
term_back : (d b p : ℕ) (xs : List ℕ) → Back xs → onward (λ next. scan next (suc p) xs) (after_term d b) p ≡ passes → Closed d (b ∷ xs)
term_back zero b p xs ih f = let z : ◌≡◌ {A = ℕ} 0 1 = cc in absurd (omega arith)
term_back (suc d) b p xs ih f = by (eqb b 44) (eqb b 41) (eqb-true b 44) (eqb-true b 41) f
  where
    by : (c e : Bool) → (c ≡ true → b ≡ 44) → (e ≡ true → b ≡ 41)
        → onward (λ next. scan next (suc p) xs) (if c then goes_on (due (suc d)) else if e then goes_on (closed d) else stops) p ≡ passes
        → Closed (suc d) (b ∷ xs)
    by true e h k f = rw (h refl) (closed_comma d xs (ih (due (suc d)) (suc p) f))
    by false true h k f = rw (k refl) (closed_close d xs (ih (closed d) (suc p) f))
    by false false h k f = let z : ◌≡◌ {A = ℕ} 0 1 = cc in absurd (omega arith)

step_back : (r : ScanState) (b p : ℕ) (xs : List ℕ) → Back xs → onward (λ next. scan next (suc p) xs) (step r b) p ≡ passes → Left r (b ∷ xs)
unfolding step
step_back (due d) b p xs ih f = by (is_letter b) refl f
  where
    by : (c : Bool) → is_letter b ≡ c → onward (λ next. scan next (suc p) xs) (if c then goes_on (in_name d 1) else stops) p ≡ passes → Due d (b ∷ xs)
    by true e f = due_letter d b xs e (ih (in_name d 1) (suc p) f)
    by false e f = let z : ◌≡◌ {A = ℕ} 0 1 = cc in absurd (omega arith)
step_back (in_name d j) b p xs ih f = by (is_name_byte b) (ltb j 24) (eqb b 40) refl (ltb-true j 24) (eqb-true b 40) f
  where
    by : (c l o : Bool) → is_name_byte b ≡ c → (l ≡ true → j < 24) → (o ≡ true → b ≡ 40)
        → onward (λ next. scan next (suc p) xs)
        (if c then (if l then goes_on (in_name d (suc j)) else stops) else if o then goes_on (due (suc d)) else after_term d b) p ≡ passes
        → Named d j (b ∷ xs)
    by true true o e h k f = name_more d j b xs e (h refl) (ih (in_name d (suc j)) (suc p) f)
    by true false o e h k f = let z : ◌≡◌ {A = ℕ} 0 1 = cc in absurd (omega arith)
    by false l true e h k f = rw (k refl) (name_open d j xs (ih (due (suc d)) (suc p) f))
    by false l false e h k f = name_closed d j (b ∷ xs) (term_back d b p xs ih f)
step_back (closed d) b p xs ih f = term_back d b p xs ih f

end_closed : (d p : ℕ) → (if eqb d 0 then passes else breaks_at p) ≡ passes → Closed d []
end_closed zero p e = record { levels = top; names = tt; is = refl }
end_closed (suc d) p e = let f = eqb-suc-zero d in let z : ◌≡◌ {A = ℕ} 0 1 = cc in absurd (omega arith)

end_back : (r : ScanState) (p : ℕ) → (if may_end r then passes else breaks_at p) ≡ passes → Left r []
end_back (due d) p e = let z : ◌≡◌ {A = ℕ} 0 1 = cc in absurd (omega arith)
end_back (in_name d j) p e = name_closed d j [] (end_closed d p e)
end_back (closed d) p e = end_closed d p e

back : (xs : List ℕ) → Back xs
unfolding scan
back [] r p e = end_back r p e
back (b ∷ bs) r p e = step_back r b p bs (back bs) e

-- what is read whole is a term
pub whole_term : (text : List ℕ) → scan (due 0) 0 text ≡ passes → IsTerm text
unfolding AllNames
whole_term text e = by (back text (due 0) 0 e)
  where
    by : Due 0 text → IsTerm text
    by w = at w.levels w.is
      where
        at : (u : Up 0) → text ≡ w.own ++ (bracketed w.under ++ up u) → IsTerm text
        at top z =
            let t : Term = record { name = w.own; inner = w.under } in
            record { is = t; names = (w.named, w.names.0, tt); written = text_of_lem t ∙ sym (rw append-nil at z) }

-- ---- where a text stops being a term

-- every reading can be brought to an end
closing : ℕ → List ℕ
closing zero = []
closing (suc d) = 41 ∷ closing d

ending : ScanState → List ℕ
ending (due d) = 97 ∷ closing d
ending (in_name d j) = closing d
ending (closed d) = closing d

closing_fine : (d : ℕ) → Fine (closed d) (closing d)
unfolding closing scan
closing_fine zero p = refl
closing_fine (suc d) p = close_on (closing d) d (closing_fine d) p

closing_stop : (d : ℕ) → Stop (closing d)
unfolding closing
closing_stop zero = end
closing_stop (suc d) = close

closing_name : (d j : ℕ) → Fine (in_name d j) (closing d)
closing_name d j = name_as_closed d j (closing d) (closing_stop d) (closing_fine d)

ending_fine : (r : ScanState) → Fine r (ending r)
unfolding ending is_letter
ending_fine (due d) p = due_on d 97 p (closing d) refl ∙ closing_name d 1 (suc p)
ending_fine (in_name d j) p = closing_name d j p
ending_fine (closed d) p = closing_fine d p

scan_on : (r s : ScanState) (b p : ℕ) (bs : List ℕ) → step r b ≡ goes_on s → scan r p (b ∷ bs) ≡ scan s (suc p) bs
unfolding scan
scan_on r s b p bs e = rw e

scan_stop : (r : ScanState) (b p : ℕ) (bs : List ℕ) → step r b ≡ stops → scan r p (b ∷ bs) ≡ breaks_at p
unfolding scan
scan_stop r b p bs e = rw e

record Halts (r : ScanState) (p q : ℕ) (xs : List ℕ) : Type 0 where
  far : ℕ
  place : p + far ≡ q
  within : far ≤ length xs
  more : List ℕ
  can : scan r p (take far xs ++ more) ≡ passes
  cannot : far < length xs → (ys : List ℕ) → scan r p (take (suc far) xs ++ ys) ≡ breaks_at q

halts : (xs : List ℕ) (r : ScanState) (p q : ℕ) → scan r p xs ≡ breaks_at q → Halts r p q xs
unfolding scan
halts [] r p q e = by (may_end r) e
  where
    by : (c : Bool) → (if c then passes else breaks_at p) ≡ breaks_at q → Halts r p q []
    by true f = let z : ◌≡◌ {A = ℕ} 0 1 = cc in absurd (omega arith)
    by false f =
        let g : p ≡ q = cc in
        record { far = 0; place = omega arith; within = omega arith; more = ending r; can = ending_fine r p; cannot = λ l. absurd (omega arith) }
halts (b ∷ bs) r p q e = by (step r b) refl (halts bs)
  where
    by : (s : ScanStep) → step r b ≡ s → ((r : ScanState) (p q : ℕ) → scan r p bs ≡ breaks_at q → Halts r p q bs) → Halts r p q (b ∷ bs)
    by stops f ih =
        let g : breaks_at p ≡ breaks_at q = sym (scan_stop r b p bs f) ∙ e in
        let h : p ≡ q = cc in
        record {
          far = 0;
          place = omega arith;
          within = omega arith;
          more = ending r;
          can = ending_fine r p;
          cannot = λ l ys. scan_stop r b p ys f ∙ g;
        }
    by (goes_on s) f ih =
        let h = ih s (suc p) q (sym (scan_on r s b p bs f) ∙ e) in
        record {
          far = suc h.far;
          place = omega (arith, h.place);
          within = omega (arith, h.within);
          more = h.more;
          can = scan_on r s b p (take h.far bs ++ h.more) f ∙ h.can;
          cannot = λ l ys. scan_on r s b p (take (suc h.far) bs ++ ys) f ∙ h.cannot (omega arith) ys;
        }

never : (xs : List ℕ) (p : ℕ) → scan (due 0) 0 xs ≡ breaks_at p → IsTerm xs → ⊥
never xs p e w = let g = scan_whole xs w in let z : ◌≡◌ {A = ℕ} 0 1 = cc in omega arith

-- the place is the first byte with which no term can go on, or the text's length if it ends too soon
pub scan_place : (text : List ℕ) (p : ℕ) → scan (due 0) 0 text ≡ breaks_at p → StopsAt IsTerm text p
scan_place text p e = by (halts text (due 0) 0 p e)
  where
    by : Halts (due 0) 0 p text → StopsAt IsTerm text p
    by h = at h.far (omega (arith, h.place)) h.within h.can h.cannot
      where
        at : (k : ℕ) → k ≡ p → k ≤ length text → scan (due 0) 0 (take k text ++ h.more) ≡ passes
            → (k < length text → (ys : List ℕ) → scan (due 0) 0 (take (suc k) text ++ ys) ≡ breaks_at p) → StopsAt IsTerm text p
        at k d l c n =
            record {
              within = rw (← d) l;
              can = rw (← d) (record { more = h.more; whole = whole_term (take k text ++ h.more) c });
              cannot = rw (← d) (λ m g. never (take (suc k) text ++ g.more) p (n m g.more) g.whole);
              short = never text p e;
            }

-- ---- the term that a text is

abbrev seen : (n : List ℕ) (k r : Terms) (o : List Terms) → Seen
seen n k r o = record { name = n; inner = k; right = r; outside = o }

seen_name : (n ys : List ℕ) (k r : Terms) (o : List Terms) → all_name_bytes n ≡ true → seen_from ys ≡ seen [] k r o
    → seen_from (n ++ ys) ≡ seen n k r o
unfolding seen_from before
seen_name [] ys k r o a e = e
seen_name (b ∷ bs) ys k r o a e = rw (byte_first b bs a, seen_name bs ys k r o (byte_others b bs a) e)

seen_open : (ys n : List ℕ) (k r f : Terms) (o : List Terms) → seen_from ys ≡ seen n k r (f ∷ o) → seen_from (40 ∷ ys) ≡ seen [] (term n k r) f o
unfolding seen_from before is_name_byte is_letter
seen_open ys n k r f o e = rw e

seen_close : (ys : List ℕ) (r : Terms) (o : List Terms) → seen_from ys ≡ seen [] none r o → seen_from (41 ∷ ys) ≡ seen [] none none (r ∷ o)
unfolding seen_from before is_name_byte is_letter
seen_close ys r o e = rw e

seen_comma : (ys n : List ℕ) (k r : Terms) (o : List Terms) → seen_from ys ≡ seen n k r o → seen_from (44 ∷ ys) ≡ seen [] none (term n k r) o
unfolding seen_from before is_name_byte is_letter
seen_comma ys n k r o e = rw e

mutual
  unfolding AllNames

  seen_brackets : (k r : Terms) (ys : List ℕ) (o : List Terms) → AllNames k → seen_from ys ≡ seen [] none r o
      → seen_from (bracketed k ++ ys) ≡ seen [] k r o
  seen_brackets none f ys o a e = e
  seen_brackets (term n k r) f ys o a e =
      rw (brackets_after n k r ys)
      (seen_open (n ++ (bracketed k ++ (following r ++ 41 ∷ ys))) n k r f o
      (seen_name n (bracketed k ++ (following r ++ 41 ∷ ys)) k r (f ∷ o) (name_bytes_lem n a.0)
      (seen_brackets k r (following r ++ 41 ∷ ys) (f ∷ o) a.1 (seen_following r (41 ∷ ys) (f ∷ o) a.2 (seen_close ys f o e)))))

  seen_following : (r : Terms) (ys : List ℕ) (o : List Terms) → AllNames r → seen_from ys ≡ seen [] none none o
      → seen_from (following r ++ ys) ≡ seen [] none r o
  seen_following none ys o a e = e
  seen_following (term n k r) ys o a e =
      rw (comma_after n k r ys)
      (seen_comma (n ++ (bracketed k ++ (following r ++ ys))) n k r o
      (seen_name n (bracketed k ++ (following r ++ ys)) k r o (name_bytes_lem n a.0)
      (seen_brackets k r (following r ++ ys) o a.1 (seen_following r ys o a.2 e))))

seen_end : seen_from [] ≡ seen [] none none []
unfolding seen_from
seen_end = refl

term_seen : (t : Term) → AllNames (alone t) → seen_term (seen_from (text_of t)) ≡ t
unfolding AllNames
term_seen t a =
    let e = seen_name t.name (bracketed t.inner ++ []) t.inner none [] (name_bytes_lem t.name a.0)
    (seen_brackets t.inner none [] [] a.1 seen_end) in
    let f = text_of_lem t ∙ ap (λ (l : List ℕ). t.name ++ l) (sym (append-nil (bracketed t.inner))) in
    ap seen_term (ap seen_from f ∙ e)

-- a term is read back from its text
pub term_of : (t : Term) → AllNames (alone t) → term_from (text_of t) ≡ t
unfolding term_from
term_of t a = rw (term_seen t a, same_list_refl (text_of t))

-- of a text that is a term: the term
pub term_from_lem : (text : List ℕ) (w : IsTerm text) → term_from text ≡ w.is
term_from_lem text w = ap term_from (sym w.written) ∙ term_of w.is w.names

-- refusal 19: a term is not refused, and behind it a result is of a term
pub term_or_taken : (text : List ℕ) → IsTerm text → (o : Outcome) → term_then text o ≡ o
unfolding term_then
term_or_taken text w o = rw (scan_whole text w)

pub term_or_back : (text : List ℕ) (t : ℕ) (o : Outcome) → term_then text o ≡ result t → IsTerm text × (o ≡ result t)
unfolding term_then
term_or_back text t o e = by (scan (due 0) 0 text) refl e
  where
    by : (s : Scan) → scan (due 0) 0 text ≡ s → break_then s o ≡ result t → IsTerm text × (o ≡ result t)
    by passes f g = (whole_term text f, g)
    by (breaks_at p) f g = let z : ◌≡◌ {A = ℕ} 0 1 = cc in absurd (omega arith)

-- ---- "A term is a name, or a name followed by `(`, one or more terms with `,` between them, and `)`."

-- the texts of terms, from left to right
unfoldable pub texts : Terms → List (List ℕ)
texts none = []
texts (term n inner right) = text_of (record { name = n; inner = inner }) ∷ texts right

commas_texts : (f : Terms) → commas (texts f) ≡ text_of_terms f
unfolding commas texts text_of_terms text_of
commas_texts none = refl
commas_texts (term n inner none) = refl
commas_texts (term n inner (term m k r)) =
    ap (λ (x : List ℕ). x ++ 44 ∷ commas (texts (term m k r))) (text_of_lem (record { name = n; inner = inner }))
    ∙ ap (λ (x : List ℕ). n ++ bracketed inner ++ 44 ∷ x) (commas_texts (term m k r))

texts_terms : (f : Terms) → AllNames f → (k : ℕ) → k < length (texts f) → IsTerm (get_or (texts f) k [])
unfolding texts AllNames
texts_terms none h k l = absurd (not-suc-le-zero l)
texts_terms (term n inner right) h zero l = record { is = record { name = n; inner = inner }; names = (h.0, h.1, tt); written = refl }
texts_terms (term n inner right) h (suc k) l = texts_terms right h.2 k (le_of_suc-le-suc l)

brackets_some : (f : Terms) → 1 ≤ length (texts f) → bracketed f ≡ 40 ∷ (commas (texts f) ++ 41 ∷ [])
unfolding texts
brackets_some none l = absurd (not-suc-le-zero l)
brackets_some (term n inner right) l = ap (λ (x : List ℕ). 40 ∷ (x ++ 41 ∷ [])) (sym (commas_texts (term n inner right)))

-- texts that are terms, as terms
pub record Read (ts : List (List ℕ)) : Type 0 where
  pub are : Terms
  pub names : AllNames are
  pub written : texts are ≡ ts

pub terms_texts : (ts : List (List ℕ)) → ((k : ℕ) → k < length ts → IsTerm (get_or ts k [])) → Read ts
unfolding texts AllNames
terms_texts [] h = record { are = none; names = tt; written = refl }
terms_texts (t ∷ ts) h =
    let w = h 0 (omega arith) in
    let r = terms_texts ts (λ k l. h (suc k) (omega arith)) in
    record { are = term w.is.name w.is.inner r.are; names = (w.names.0, w.names.1, r.names); written = λ i. w.written i ∷ r.written i }

-- a name is a term, and so is a name followed by terms in brackets
name_term : (n : List ℕ) → is_name n ≡ true → IsTerm n
unfolding AllNames
name_term n e = record { is = record { name = n; inner = none }; names = (e, tt, tt); written = text_of_lem (record { name = n; inner = none }) ∙ append-nil n }

applied_term : (text : List ℕ) (a : Applied text) → Read a.terms → IsTerm text
unfolding AllNames
applied_term text a r = record {
  is = record { name = a.name; inner = r.are };
  names = (a.named, r.names, tt);
  written =
      text_of_lem (record { name = a.name; inner = r.are })
      ∙ ap (λ (x : List ℕ). a.name ++ x) (brackets_some r.are (rw r.written a.some))
      ∙ ap (λ (x : List (List ℕ)). a.name ++ (40 ∷ (commas x ++ 41 ∷ []))) r.written
      ∙ a.written;
}

-- the term that is read from such a text
pub name_from : (n : List ℕ) → is_name n ≡ true → term_from n ≡ record { name = n; inner = none }
unfolding name_term
name_from n e = term_from_lem n (name_term n e)

pub applied_from : (text : List ℕ) (a : Applied text) (r : Read a.terms) → term_from text ≡ record { name = a.name; inner = r.are }
unfolding applied_term
applied_from text a r = term_from_lem text (applied_term text a r)

pub term_sentence : TermSentence
unfolding AllNames texts
term_sentence text = (λ w. there w.is.name w.is.inner w.names (sym (text_of_lem w.is) ∙ w.written), back)
  where
    there : (n : List ℕ) (f : Terms) → AllNames (term n f none) → n ++ bracketed f ≡ text → (is_name text ≡ true) ⊎ Applied text
    there n none h e = inl (rw (sym e ∙ append-nil n) h.0)
    there n (term m k r) h e =
        let f = term m k r in
        inr (record {
          name = n;
          named = h.0;
          terms = texts f;
          some = omega arith;
          each = texts_terms f h.1;
          written = ap (λ (x : List ℕ). n ++ x) (sym (brackets_some f (omega arith))) ∙ e;
        })

    back : (is_name text ≡ true) ⊎ Applied text → IsTerm text
    back (inl e) = name_term text e
    back (inr a) = applied_term text a (terms_texts a.terms a.each)
