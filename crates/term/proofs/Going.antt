-- The text read so far, with the entries that are kept. Assumes nothing.
use Rattle.std.specs.Prelude.{if◌then◌else◌, Result, Ok, Err}
use Rattle.model.specs.Answers.{Outcome, refused, refused_by}
use Rattle.model.specs.Choice.{first_faulty}
use Rattle.model.specs.declared.Refusal.{Refusal}
use Prim.Native.Nat.{ℕ, zero, suc, ◌+◌, ◌-◌, ◌*◌, ◌<◌, ◌≤◌}
use mathlib.Core.Path.{◌≡◌, refl, sym, ap, ◌∙◌}
use mathlib.Core.Bool.{Bool, true, false, not}
use mathlib.Core.List.{List, [], ◌∷◌, ◌++◌, append_assoc, append-nil, head-eq_of_cons-eq}
use native.Mathlib.Omega.{arith}
use lib.ListN.{length, get_or, take, drop, replicate, length-append, length-replicate, drop_of_length-le}
use lib.Dec.{eqb, ltb}
use lib.Seq.{get_or-drop}
use borrow.Author.Tests.{eqb-true, lt-ltb, ltb-true, ltb-false}
use Rattle.model.specs.Names.{is_letter, is_name_byte, all_name_bytes, is_name, same_name, line_at, symbol_of, how_many_names}
use Rattle.model.specs.Term.{Scan, passes, breaks_at, due, in_name, closed, goes_on, stops, after_term, onward, step, scan, run, name_at, term_then}
use Rattle.model.specs.TermOperations.{name_ground}
use Rattle.model.proofs.Choice.{no_fault, fault_refused}
use Rattle.model.proofs.Lists.{drop_next}
use Rattle.model.proofs.Scan.{whole_term}
use Rattle.model.proofs.Bytes.{letter_byte, byte_first, byte_others, name_bytes_lem, name_parts, NoByte, run_all, run_bytes}
use Rattle.model.proofs.Alike.{same_folded, small_name}
use Rattle.std.specs.Prelude.{Some, None}
use Rattle.chains.proofs.First.{first_is}
use Rattle.words.specs.Words.{is_inner}
use Rattle.names.specs.NamesIndex.{name_found, stretch, NamesIndexed, StretchFrom}
use Rattle.names.specs.declared.Stretch.{Stretch}
use Rattle.names.proofs.Bytes.{name_inner, outer_no_byte, stretch_split, stretch_all}
use Rattle.names.proofs.Lines.{name_short, part_stretch}
use Rattle.scan.specs.TextState.{scanned}
use Rattle.term.specs.Emit.{node_entries, emitted}
use Rattle.term.proofs.Tokens.{emitted_is}
use Rattle.term.proofs.Runs.{Fresh, fresh_first, run_within, rest_is, other_ground, other_fresh, after_byte, run_is, run_clean, run_whole, longer, run_entries, run_grounds, listed_ground, unlisted_ground}
use Rattle.term.specs.Pass.{Barred, Onward, Breaks, unlisted_at, SymbolPut, Cleared, Holds, Passed}
use Rattle.term.proofs.Kept.{kept_more}

-- ---- the scan of a name

-- bytes of a name, up to the 24th
name_scan : (more ys : List ℕ) (d j p : ℕ) → all_name_bytes more ≡ true → j + length more ≤ 24
    → scan (in_name d j) p (more ++ ys) ≡ scan (in_name d (j + length more)) (p + length more) ys
unfolding scan step
name_scan [] ys d j p a l = let z : j + 0 ≡ j = omega arith in let y : p + 0 ≡ p = omega arith in rw (z, y)
name_scan (b ∷ more) ys d j p a l =
    let z : suc j + length more ≡ j + suc (length more) = omega arith in
    let y : suc p + length more ≡ p + suc (length more) = omega arith in
    rw (byte_first b more a, lt-ltb j 24 (omega arith)) (name_scan more ys d (suc j) (suc p) (byte_others b more a) (omega arith) ∙ rw (z, y))

-- the 25th
name_breaks : (more ys : List ℕ) (d j p : ℕ) → all_name_bytes more ≡ true → j ≤ 24 → 24 < j + length more
    → scan (in_name d j) p (more ++ ys) ≡ breaks_at (p + (24 - j))
unfolding scan step
name_breaks [] ys d j p a h l = absurd (omega arith)
name_breaks (b ∷ more) ys d j p a h l = go (ltb j 24) refl (λ m. name_breaks more ys d (suc j) (suc p) (byte_others b more a) m (omega arith))
  where
    go : (t : Bool) → ltb j 24 ≡ t → (suc j ≤ 24 → scan (in_name d (suc j)) (suc p) (more ++ ys) ≡ breaks_at (suc p + (24 - suc j)))
        → scan (in_name d j) p (b ∷ (more ++ ys)) ≡ breaks_at (p + (24 - j))
    go true e ih =
        let m = ltb-true j 24 e in
        let z : suc p + (24 - suc j) ≡ p + (24 - j) = omega arith in
        rw (byte_first b more a, e) (ih m ∙ ap breaks_at z)
    go false e ih =
        let m = ltb-false j 24 e in
        let z : p ≡ p + (24 - j) = omega arith in
        rw (byte_first b more a, e) (ap breaks_at z)

-- ---- the answers

passed_refused : {names text entries : List ℕ} (e : Refusal) → ((o : Outcome) → refused_by e ≡ term_then text (first_faulty (length text) (name_ground names text) o))
    → Passed names text entries (Err e)
passed_refused e d = record { decided = d; counted = λ m h. never h; held = λ m h. never h }
  where
    never : {A : Type 0} {m : ℕ} → (let r : Result ℕ Refusal = Err e in r ≡ Ok m) → A
    never h = let z : ◌≡◌ {A = ℕ} 0 1 = cc in absurd (omega arith)

passed_breaks : {names text entries : List ℕ} {e : Refusal} (p : ℕ) → refused_by e ≡ refused 19 p → scanned text ≡ breaks_at p → Passed names text entries (Err e)
unfolding term_then
passed_breaks {e = e} p r s = passed_refused e (λ o. rw s r)

passed_unlisted : {names text entries : List ℕ} {e : Refusal} (i : ℕ) → refused_by e ≡ refused 20 i → scanned text ≡ passes → i < length text
    → ((j : ℕ) → j < i → name_ground names text j ≡ 0) → name_ground names text i ≡ 20 → Passed names text entries (Err e)
unfolding term_then
passed_unlisted {names} {text} {e = e} i r s l d g =
    passed_refused e (λ o. rw s (r ∙ fault_refused (length text) i 20 (name_ground names text) o l d g (omega arith)))

passed_taken : {names text entries : List ℕ} (m : ℕ) → scanned text ≡ passes → ((j : ℕ) → j < length text → name_ground names text j ≡ 0)
    → m ≡ length (emitted names false text) → Holds entries (emitted names false text) → Passed names text entries (Ok m)
unfolding term_then
passed_taken {names} {text} {entries} m e s c x = record {
  decided = λ o. rw e (sym (no_fault (length text) (name_ground names text) o s));
  counted = λ k h. sym (same k h) ∙ c ∙ ap length (emitted_is names text (whole_term text e));
  held = λ k h. rw (sym (emitted_is names text (whole_term text e))) x;
}
  where
    same : (k : ℕ) → (let r : Result ℕ Refusal = Ok m in r ≡ Ok k) → m ≡ k
    same k h = cc

-- ---- the text read so far

-- a name is due at i, with so many brackets open; the names before it are listed, and the entries up to it are kept, so many
pub record Going (names text entries : List ℕ) (at depth i : ℕ) : Type 0 where
  pub short : length text ≤ 65536
  pub within : i ≤ length text
  pub shallow : depth ≤ i
  pub small : at ≤ 2 * i
  pub same : scan (due depth) i (drop i text) ≡ scanned text
  pub sound : (j : ℕ) → j < i → name_ground names text j ≡ 0
  pub fresh : Fresh text i
  pub done : List ℕ
  pub place : length done ≡ at
  pub whole : done ++ emitted names false (drop i text) ≡ emitted names false text
  pub held : Holds entries done

pub go_first : (names text entries : List ℕ) → length text ≤ 65536 → Cleared entries → Going names text entries 0 0 0
go_first names text entries h z = record {
  short = h;
  within = omega arith;
  shallow = omega arith;
  small = omega arith;
  same = refl;
  sound = λ j l. absurd (omega arith);
  fresh = fresh_first text;
  done = [];
  place = refl;
  whole = refl;
  held = record { long = z.long; same = λ k l. z.none k l };
}

-- a letter stands at i, and the run of name bytes from there ends at `end`
pub record NameRead (names text entries : List ℕ) (at depth i end : ℕ) : Type 0 where
  pub going : Going names text entries at depth i
  pub inside : i < length text
  pub letter : is_letter (get_or text i 0) ≡ true
  pub ends : end ≡ i + length (run (drop i text))
  pub within : end ≤ length text

module _ {names text entries : List ℕ} {at depth i end : ℕ} (x : NameRead names text entries at depth i end) where
  pub first_byte : is_name_byte (get_or text i 0) ≡ true
  first_byte = letter_byte (get_or text i 0) x.letter

  pub past : i < end
  past = longer names text i end x.inside first_byte x.ends

  ends_at : end ≡ i + suc (length (run (drop (i + 1) text)))
  ends_at = x.ends ∙ ap (λ (y : List ℕ). i + length y) (run_is names text i end x.inside first_byte x.ends)

  others : all_name_bytes (run (drop (i + 1) text)) ≡ true
  others = byte_others (get_or text i 0) (run (drop (i + 1) text)) (run_clean names text i end x.inside first_byte x.ends)

  first_read : scan (due depth) i (drop i text) ≡ scan (in_name depth 1) (suc i) (run (drop (i + 1) text) ++ drop end text)
  unfolding scan step
  first_read = rw (run_whole names text i end x.inside first_byte x.ends, x.letter)

  -- it has more than 24 bytes
  long_breaks : 24 < end - i → scan (due depth) i (drop i text) ≡ breaks_at (i + 24)
  long_breaks h =
      let z : suc i + (24 - 1) ≡ i + 24 = omega arith in
      first_read
      ∙ name_breaks (run (drop (i + 1) text)) (drop end text) depth 1 (suc i) others (omega arith) (omega (arith, ends_at))
      ∙ ap breaks_at z

  name_read : end - i ≤ 24 → scan (in_name depth (1 + length (run (drop (i + 1) text)))) end (drop end text) ≡ scanned text
  name_read h =
      let z : suc i + length (run (drop (i + 1) text)) ≡ end = omega (arith, ends_at) in
      sym
      (sym x.going.same
      ∙ first_read
      ∙ name_scan (run (drop (i + 1) text)) (drop end text) depth 1 (suc i) others (omega (arith, ends_at))
      ∙ ap (λ (k : ℕ). scan (in_name depth (1 + length (run (drop (i + 1) text)))) k (drop end text)) z)

-- ---- what is looked up: the stretch of bytes from `-` to `z`

no_pass : {A : Type 0} {p : ℕ} → passes ≡ breaks_at p → A
no_pass h = let z : ◌≡◌ {A = ℕ} 0 1 = cc in absurd (omega arith)

-- the text ends where a name is due, or goes on with no letter
ended : (text : List ℕ) (depth i : ℕ) → length text ≤ i → scan (due depth) i (drop i text) ≡ breaks_at i
unfolding scan
ended text depth i ge = rw (drop_of_length-le text {i = i} ge)

no_letter : (text : List ℕ) (depth i : ℕ) → i < length text → is_letter (get_or text i 0) ≡ false → scan (due depth) i (drop i text) ≡ breaks_at i
unfolding scan step
no_letter text depth i l e = rw (drop_next text i l, e)

-- after a name in a term comes `(`, `)`, `,` or nothing
mark_after_name : (ys : List ℕ) (d m p : ℕ) → scan (in_name d m) p ys ≡ passes → is_name_byte (get_or ys 0 0) ≡ false → is_inner (get_or ys 0 0) ≡ false
unfolding scan step
mark_after_name [] d m p s e = refl
mark_after_name (b ∷ bs) d m p s e = opened (eqb b 40) refl (rw e at s)
  where
    third : (d : ℕ) (u v : Bool) → eqb b 44 ≡ u → eqb b 41 ≡ v
        → onward (λ next. scan next (suc p) bs) (if u then goes_on (due (suc d)) else if v then goes_on (closed d) else stops) p ≡ passes → is_inner b ≡ false
    third d true v f g s = ap is_inner (eqb-true b 44 f)
    third d false true f g s = ap is_inner (eqb-true b 41 g)
    third d false false f g s = no_pass (sym s)

    second : (d : ℕ) → onward (λ next. scan next (suc p) bs) (after_term d b) p ≡ passes → is_inner b ≡ false
    second zero s = no_pass (sym s)
    second (suc d) s = third d (eqb b 44) (eqb b 41) refl refl s

    opened : (t : Bool) → eqb b 40 ≡ t → onward (λ next. scan next (suc p) bs) (if t then goes_on (due (suc d)) else after_term d b) p ≡ passes → is_inner b ≡ false
    opened true f s = ap is_inner (eqb-true b 40 f)
    opened false f s = second d s

-- in a term it is the name's run
module _ {names text entries : List ℕ} {at depth i : ℕ} (x : Going names text entries at depth i) (s : scanned text ≡ passes) where
  pass : scan (due depth) i (drop i text) ≡ passes
  pass = x.same ∙ s

  inside_term : i < length text
  inside_term = go (ltb i (length text)) refl
    where
      go : (t : Bool) → ltb i (length text) ≡ t → i < length text
      go true e = ltb-true i (length text) e
      go false e = no_pass (sym pass ∙ ended text depth i (ltb-false i (length text) e))

  letter_term : is_letter (get_or text i 0) ≡ true
  letter_term = go (is_letter (get_or text i 0)) refl
    where
      go : (t : Bool) → is_letter (get_or text i 0) ≡ t → t ≡ true
      go true e = refl
      go false e = no_pass (sym pass ∙ no_letter text depth i inside_term e)

  name_term : NameRead names text entries at depth i (i + length (run (drop i text)))
  name_term = record { going = x; inside = inside_term; letter = letter_term; ends = refl; within = run_within text i x.within }

  short_term : i + length (run (drop i text)) - i ≤ 24
  short_term = go (ltb 24 (i + length (run (drop i text)) - i)) refl
    where
      go : (t : Bool) → ltb 24 (i + length (run (drop i text)) - i) ≡ t → i + length (run (drop i text)) - i ≤ 24
      go true e = no_pass (sym pass ∙ long_breaks name_term (ltb-true 24 (i + length (run (drop i text)) - i) e))
      go false e = ltb-false 24 (i + length (run (drop i text)) - i) e

  stretch_term : stretch (drop i text) ≡ run (drop i text)
  stretch_term =
      let end = i + length (run (drop i text)) in
      ap stretch (rest_is text i end refl)
      ∙ stretch_all (run (drop i text)) (drop end text) (name_inner (run (drop i text)) (run_bytes (drop i text)))
      (mark_after_name (drop end text) depth (1 + length (run (drop (i + 1) text))) end (name_read name_term short_term ∙ s)
      (after_byte names text i end inside_term (first_byte name_term) refl))

-- no line has it
pub go_unlisted : {names text entries : List ℕ} {at depth i : ℕ} → Going names text entries at depth i → (n end : ℕ) → n ≡ how_many_names names
    → end ≡ i + length (stretch (drop i text)) → name_found names n (take (end - i) (drop i text)) ≡ None
    → {r : Refusal} → refused_by r ≡ unlisted_at (scanned text) i → Passed names text entries (Err r)
go_unlisted {names} {text} {entries} {at} {depth} {i} x n end c e f {r} t = go (scanned text) refl t
  where
    go : (s : Scan) → scanned text ≡ s → refused_by r ≡ unlisted_at s i → Passed names text entries (Err r)
    go passes h t =
        let q : end ≡ i + length (run (drop i text)) = e ∙ ap (λ (y : List ℕ). i + length y) (stretch_term x h) in
        passed_unlisted i t h (inside_term x h) x.sound (unlisted_ground names text i end (inside_term x h) (first_byte (name_term x h)) q n c x.fresh f)
    go (breaks_at p) h t = passed_breaks p t h

-- the run is a name, and line k has it
pub record NameFound (names text entries : List ℕ) (at depth i end n k : ℕ) : Type 0 where
  pub read : NameRead names text entries at depth i end
  pub short : end - i ≤ 24
  pub count : n ≡ how_many_names names
  pub found : name_found names n (take (end - i) (drop i text)) ≡ Some k

-- equal to a name, so a name
name_same : (a b : List ℕ) → same_name a b ≡ true → is_name a ≡ true → is_name b ≡ true
name_same a b e n = sym (small_name b) ∙ ap is_name (sym (same_folded a b e)) ∙ small_name a ∙ n

-- a stretch of name bytes is their run
run_stretch : (xs : List ℕ) → all_name_bytes (stretch xs) ≡ true → run xs ≡ stretch xs
run_stretch xs e =
    let p = stretch_split xs in
    let n : NoByte (drop (length (stretch xs)) xs) =
    ap is_name_byte (get_or-drop (length (stretch xs)) xs 0 0 ∙ ap (λ (k : ℕ). get_or xs k 0) (let z : length (stretch xs) + 0 ≡ length (stretch xs) = omega arith in z)) ∙ outer_no_byte _ p.1 in
    ap run p.0 ∙ run_all (stretch xs) (drop (length (stretch xs)) xs) e n

-- line k has what was looked up, and every line is a name
module _ {names text entries : List ℕ} {at depth i : ℕ} (x : Going names text entries at depth i) (n k end : ℕ) (c : n ≡ how_many_names names)
    (e : end ≡ i + length (stretch (drop i text))) (w : end ≤ length text)
    (all : (j : ℕ) → j < n → is_name (line_at names j).bytes ≡ true) (f : name_found names n (take (end - i) (drop i text)) ≡ Some k) where
  part : take (end - i) (drop i text) ≡ stretch (drop i text)
  part = part_stretch text i end e

  is_name_lem : is_name (stretch (drop i text)) ≡ true
  is_name_lem =
      let g = first_is (λ j. same_name (line_at names j).bytes (take (end - i) (drop i text))) n k f in
      ap is_name (sym part) ∙ name_same (line_at names k).bytes (take (end - i) (drop i text)) g.1 (all k g.0)

  here : i < length text
  here = let p = name_parts (stretch (drop i text)) is_name_lem in omega (arith, ap length p.is)

  begins : is_letter (get_or text i 0) ≡ true
  begins =
      let p = name_parts (stretch (drop i text)) is_name_lem in
      let r : p.first ∷ (p.others ++ drop (length (stretch (drop i text))) (drop i text)) ≡ get_or text i 0 ∷ drop (i + 1) text =
      ap (λ (y : List ℕ). y ++ drop (length (stretch (drop i text))) (drop i text)) (sym p.is) ∙ sym (stretch_split (drop i text)).0 ∙ drop_next text i here in
      ap is_letter (sym (head-eq_of_cons-eq r)) ∙ p.letter

  pub found_name : NameFound names text entries at depth i end n k
  found_name = record {
    read = record {
      going = x;
      inside = here;
      letter = begins;
      ends = e ∙ ap (λ (y : List ℕ). i + length y) (sym (run_stretch (drop i text) (name_bytes_lem (stretch (drop i text)) is_name_lem)));
      within = w;
    };
    short = omega (arith, name_short (stretch (drop i text)) is_name_lem);
    count = c;
    found = f;
  }

-- the same of the index that is looked in and the stretch that is looked up
pub name_there : {seed : ℕ} {names starts heads next text entries : List ℕ} {at depth i n k : ℕ} {r : Stretch} → Going names text entries at depth i
    → NamesIndexed seed names starts heads next n → n ≡ how_many_names names → StretchFrom seed text i r
    → name_found names n (take (r.end - i) (drop i text)) ≡ Some k → NameFound names text entries at depth i r.end n k
name_there x t c s f = found_name x _ _ _ c s.ends s.within (λ j l. (t.lined.stands j l).named) f

module _ {names text entries : List ℕ} {at depth i end n k : ℕ} (x : NameFound names text entries at depth i end n k) where
  listed : (name_ground names text i ≡ 0) × (symbol_of names (name_at text i) ≡ k + 1) × (k < n)
  listed = listed_ground names text i end x.read.inside (first_byte x.read) x.read.ends n k x.count x.found

  pub line_below : k < n
  line_below = listed.2

  sound_to : (i' : ℕ) → i' ≤ length text → ((j : ℕ) → end ≤ j → j < i' → is_name_byte (get_or text j 0) ≡ false) → (j : ℕ) → j < i' → name_ground names text j ≡ 0
  sound_to i' w o j m = go (ltb j end) refl
    where
      go : (t : Bool) → ltb j end ≡ t → name_ground names text j ≡ 0
      go true g = run_grounds names text i end x.read.inside (first_byte x.read) x.read.ends listed.0 x.read.going.sound j (ltb-true j end g)
      go false g = other_ground names text j (omega arith) (o j (ltb-false j end g) m)

  module _ (new : List ℕ) (p : SymbolPut entries new at (k + 1)) (i' bars : ℕ) (b : Barred text end i' bars) where
    abbrev done_after : List ℕ
    done_after = x.read.going.done ++ ((k + 1) ∷ replicate bars 0)

    whole_after : done_after ++ emitted names false (drop i' text) ≡ emitted names false text
    whole_after =
        append_assoc x.read.going.done ((k + 1) ∷ replicate bars 0) (emitted names false (drop i' text))
        ∙ ap (λ (y : List ℕ). x.read.going.done ++ y)
        (sym (b.entries names (k + 1))
        ∙ ap (λ (s : ℕ). node_entries s (not (eqb (get_or text end 0) 40)) ++ emitted names false (drop end text)) (sym listed.1)
        ∙ sym (run_entries names text i end x.read.inside (first_byte x.read) x.read.ends))
        ∙ x.read.going.whole

    length_after : length done_after ≡ at + 1 + bars
    length_after =
        length-append x.read.going.done ((k + 1) ∷ replicate bars 0)
        ∙ (let z = length-replicate {A = ℕ} bars 0 in
        let y : length x.read.going.done + suc (length (replicate {A = ℕ} bars 0)) ≡ at + 1 + bars = omega (arith, x.read.going.place) in
        y)

    held_after_lem : Holds new done_after
    held_after_lem = kept_more entries new x.read.going.done at (k + 1) bars x.read.going.place x.read.going.held p

  -- another name is due
  pub go_name : (new : List ℕ) → SymbolPut entries new at (k + 1) → (i' d bars : ℕ) → Onward text end depth i' d bars → Going names text new (at + (1 + bars)) d i'
  go_name new p i' d bars o = record {
    short = x.read.going.short;
    within = o.barred.within;
    shallow = omega (arith, x.read.going.shallow, o.shallow, past x.read, o.further);
    small = omega (arith, x.read.going.small, o.few, past x.read, o.further);
    same = sym (o.scans (1 + length (run (drop (i + 1) text)))) ∙ name_read x.read x.short;
    sound = sound_to i' o.barred.within o.barred.others;
    fresh = fresh_after;
    done = done_after new p i' bars o.barred;
    place = length_after new p i' bars o.barred ∙ (let z : at + 1 + bars ≡ at + (1 + bars) = omega arith in z);
    whole = whole_after new p i' bars o.barred;
    held = held_after_lem new p i' bars o.barred;
  }
    where
      fresh_after : Fresh text i'
      fresh_after =
          let a = o.further in
          let w = o.barred.within in
          let z : i' - 1 + 1 ≡ i' = omega arith in
          rw z at (other_fresh names text (i' - 1) (omega arith) (o.barred.others (i' - 1) (omega arith) (omega arith)))

  -- the text ends
  pub go_taken : (new : List ℕ) → SymbolPut entries new at (k + 1) → (bars : ℕ) → Barred text end (length text) bars → ((m : ℕ) → scan (in_name depth m) end (drop end text) ≡ passes)
      → Passed names text new (Ok (at + 1 + bars))
  unfolding emitted
  go_taken new p bars b s =
      passed_taken (at + 1 + bars)
      (sym (name_read x.read x.short) ∙ s (1 + length (run (drop (i + 1) text))))
      (sound_to (length text) (omega arith) b.others)
      (sym (length_after new p (length text) bars b) ∙ ap length all)
      (rw all at (held_after_lem new p (length text) bars b))
    where
      all : done_after new p (length text) bars b ≡ emitted names false text
      all = sym (append-nil (done_after new p (length text) bars b))
          ∙ ap (λ (y : List ℕ). done_after new p (length text) bars b ++ emitted names false y) (sym (drop_of_length-le text {i = length text} (omega arith)))
          ∙ whole_after new p (length text) bars b

  -- it breaks
  pub go_breaks : (new : List ℕ) {e : Refusal} → Breaks text end depth e → Passed names text new (Err e)
  go_breaks new b = passed_breaks b.place b.refuses (sym (name_read x.read x.short) ∙ b.scans (1 + length (run (drop (i + 1) text))))
