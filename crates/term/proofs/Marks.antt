-- The marks after a name: brackets and commas. Assumes nothing.
use Rattle.std.specs.Prelude.{if◌then◌else◌, Result, Ok, Err, Option, Some, None}
use Prim.Native.Nat.{ℕ, zero, suc, ◌+◌, ◌-◌, ◌<◌, ◌≤◌}
use mathlib.Core.Path.{◌≡◌, refl, sym, ap, ◌∙◌}
use mathlib.Core.Bool.{Bool, true, false, not, cond}
use mathlib.Core.List.{List, [], ◌∷◌, ◌++◌}
use native.Mathlib.Omega.{arith}
use native.Mathlib.Numerals.{add-one}
use lib.ListN.{length, get_or, take, drop, replicate, length-drop, drop_of_length-le, get_or-eq_default}
use lib.Seq.{take_all, get_or-drop}
use Rattle.std.specs.List.{prefix_len}
use Rattle.std.proofs.lemmas.List.Folds.{length-prefix_len}
use lib.Dec.{eqb, ltb}
use borrow.Author.Tests.{eqb-true, eq-eqb, ne_eqb, eqb-false, ltb-true, ltb-false}
use Rattle.model.specs.Names.{is_name_byte}
use Rattle.model.specs.Term.{passes, breaks_at, due, in_name, closed, step, scan}
use Rattle.model.proofs.Lists.{drop_next}
use Rattle.model.proofs.Bytes.{open_no_byte, close_no_byte, comma_no_byte}
use Rattle.term.specs.Emit.{node_entries, emitted}
use Rattle.term.proofs.Runs.{other_entries}
use Rattle.term.specs.Pass.{Closing, Barred, Onward, Follows}
use Rattle.term.specs.declared.After.{After}
use Rattle.term.specs.declared.Due.{Due}
use Rattle.model.specs.Answers.{refused, refused_by}
use Rattle.model.specs.declared.Refusal.{Refusal}

-- ---- one mark

module _ (text : List ℕ) (i : ℕ) (l : i < length text) where
  opened : (d m : ℕ) → get_or text i 0 ≡ 40 → scan (in_name d m) i (drop i text) ≡ scan (due (d + 1)) (i + 1) (drop (i + 1) text)
  unfolding scan step
  opened d m e = rw (drop_next text i l, e, open_no_byte, add-one d, add-one i)

  commaed : (d : ℕ) → get_or text i 0 ≡ 44 → 0 < d → scan (closed d) i (drop i text) ≡ scan (due d) (i + 1) (drop (i + 1) text)
  unfolding scan step
  commaed zero e p = absurd (omega arith)
  commaed (suc d) e p = rw (drop_next text i l, e, add-one i)

  closed_one : (d : ℕ) → get_or text i 0 ≡ 41 → scan (closed (suc d)) i (drop i text) ≡ scan (closed d) (i + 1) (drop (i + 1) text)
  unfolding scan step
  closed_one d e = rw (drop_next text i l, e, add-one i)

  stopped : (d : ℕ) → (0 < d → get_or text i 0 ≡ 41 → ⊥) → (0 < d → get_or text i 0 ≡ 44 → ⊥) → scan (closed d) i (drop i text) ≡ breaks_at i
  unfolding scan step
  stopped zero c k = rw (drop_next text i l)
  stopped (suc d) c k = rw (drop_next text i l, ne_eqb (get_or text i 0) 44 (k (omega arith)), ne_eqb (get_or text i 0) 41 (c (omega arith)))

-- the text ends
ended : (text : List ℕ) (i d : ℕ) → length text ≤ i → scan (closed d) i (drop i text) ≡ (if eqb d 0 then passes else breaks_at i)
unfolding scan
ended text i d ge = rw (drop_of_length-le text {i = i} ge)

-- after a name that is not opened the text goes on as after `)`
name_shut : (text : List ℕ) (i d m : ℕ) → i ≤ length text → is_name_byte (get_or text i 0) ≡ false → eqb (get_or text i 0) 40 ≡ false → scan (in_name d m) i (drop i text) ≡ scan (closed d) i (drop i text)
unfolding scan step
name_shut text i d m w e f = go (ltb i (length text)) refl
  where
    name_next : i < length text → scan (in_name d m) i (drop i text) ≡ scan (closed d) i (drop i text)
    name_next l = rw (drop_next text i l, e, f)

    go : (t : Bool) → ltb i (length text) ≡ t → scan (in_name d m) i (drop i text) ≡ scan (closed d) i (drop i text)
    go true g = name_next (ltb-true i (length text) g)
    go false g = let ge = ltb-false i (length text) g in rw (drop_of_length-le text {i = i} ge)

-- ---- so many `)`

closed_all : (c : ℕ) (text : List ℕ) (at d : ℕ) → c ≤ d → at + c ≤ length text → ((j : ℕ) → at ≤ j → j < at + c → get_or text j 0 ≡ 41)
    → scan (closed d) at (drop at text) ≡ scan (closed (d - c)) (at + c) (drop (at + c) text)
closed_all zero text at d f w m = let z : at + 0 ≡ at = omega arith in let y : d - 0 ≡ d = omega arith in rw (z, y)
closed_all (suc c) text at zero f w m = absurd (omega arith)
closed_all (suc c) text at (suc d) f w m =
    let z : at + 1 + c ≡ at + suc c = omega arith in
    let y : suc d - suc c ≡ d - c = omega arith in
    closed_one text at (omega arith) d (m at (omega arith) (omega arith))
    ∙ closed_all c text (at + 1) d (omega arith) (omega arith) (λ j g l. m j (omega arith) (omega arith))
    ∙ rw (z, y)

closed_entries : (c : ℕ) (names text : List ℕ) (at : ℕ) → at + c ≤ length text → ((j : ℕ) → at ≤ j → j < at + c → get_or text j 0 ≡ 41)
    → emitted names false (drop at text) ≡ replicate c 0 ++ emitted names false (drop (at + c) text)
closed_entries zero names text at w m = let z : at + 0 ≡ at = omega arith in rw z
closed_entries (suc c) names text at w m =
    let z : at + 1 + c ≡ at + suc c = omega arith in
    let e = m at (omega arith) (omega arith) in
    other_entries names text at (omega arith) (rw e close_no_byte)
    ∙ ap (λ (b : Bool). (if b then 0 ∷ [] else []) ++ emitted names false (drop (at + 1) text)) (eq-eqb (get_or text at 0) 41 e)
    ∙ ap (λ (x : List ℕ). 0 ∷ x) (closed_entries c names text (at + 1) (omega arith) (λ j g l. m j (omega arith) (omega arith)) ∙ ap (λ (k : ℕ). replicate c 0 ++ emitted names false (drop k text)) z)

-- so many at the front of a list, no more than n
record Front (xs : List ℕ) (n c : ℕ) : Type 0 where
  few : c ≤ n
  within : c ≤ length xs
  marks : (j : ℕ) → j < c → get_or xs j 0 ≡ 41
  stop : c < n → get_or xs c 0 ≡ 41 → ⊥

abbrev is_close : ℕ → Bool
is_close b = eqb b 41

front_is : (n : ℕ) (xs : List ℕ) → Front xs n (prefix_len is_close (take n xs))
front_is zero xs = record { few = omega arith; within = omega arith; marks = λ j l. absurd (omega arith); stop = λ l e. absurd (omega arith) }
front_is (suc n) [] = record { few = omega arith; within = omega arith; marks = λ j l. absurd (omega arith); stop = λ l e. omega arith }
front_is (suc n) (x ∷ xs) = go (is_close x) refl (front_is n xs)
  where
    go : (t : Bool) → is_close x ≡ t → Front xs n (prefix_len is_close (take n xs)) → Front (x ∷ xs) (suc n) (cond t (1 + prefix_len is_close (take n xs)) 0)
    go true h f = record {
      few = omega (arith, f.few);
      within = omega (arith, f.within);
      marks = elim [ zero ↦ λ l. eqb-true x 41 h | suc j ↦ λ l. f.marks j (omega arith) ];
      stop = λ l e. f.stop (omega arith) (let z : 1 + prefix_len is_close (take n xs) ≡ suc (prefix_len is_close (take n xs)) = omega arith in rw z at e);
    }
    go false h f = record { few = omega arith; within = omega arith; marks = λ j l. absurd (omega arith); stop = λ l e. eqb-false x 41 h e }

-- so many of the first bytes from `at` on
pub closing_is : (text : List ℕ) (at depth c : ℕ) → at ≤ length text
    → c ≡ length (take (prefix_len (λ b. eqb b 41) (take depth (take (length text - at) (drop at text)))) (take depth (take (length text - at) (drop at text)))) → Closing text at depth c
closing_is text at depth c l e =
    let n = length-drop at text in
    let all : take (length text - at) (drop at text) ≡ drop at text = take_all (length text - at) (drop at text) (omega arith) in
    let ys : List ℕ = take depth (drop at text) in
    let d : c ≡ prefix_len is_close ys = rw all at e ∙ length-prefix_len is_close ys in
    let f = front_is depth (drop at text) in
    rw d (record {
      few = f.few;
      within = omega (arith, f.within);
      marks = λ j g h. let z : at + (j - at) ≡ j = omega arith in sym (ap (λ (k : ℕ). get_or text k 0) z) ∙ sym (get_or-drop at text (j - at) 0) ∙ f.marks (j - at) (omega arith);
      stop = λ g h. f.stop g (get_or-drop at text (prefix_len is_close ys) 0 ∙ h);
    })

-- ---- what follows a name

-- another name, and the text's end
abbrev named : (i d b : ℕ) → After
named i d b = record { bars = b; due = Some (record { place = i; depth = d }) }

abbrev ended_by : ℕ → After
ended_by b = record { bars = b; due = None }

-- an answer by its case
abbrev Found : Type 0
Found = Result After Refusal

module _ {a : After} where
  -- an answer is one thing
  same_after : {a' : After} → (let r : Found = Ok a in r ≡ Ok a') → a ≡ a'
  same_after e = cc

  no_refusal : {A : Type 0} {p : Refusal} → (let r : Found = Ok a in r ≡ Err p) → A
  no_refusal e = let z : ◌≡◌ {A = ℕ} 0 1 = cc in absurd (omega arith)

due_same : {u v : Due} → (let r : Option Due = Some u in r ≡ Some v) → u ≡ v
due_same e = cc

due_never : {A : Type 0} {u : Due} → (let r : Option Due = Some u in r ≡ None) → A
due_never e = let z : ◌≡◌ {A = ℕ} 0 1 = cc in absurd (omega arith)

follows_name : {text : List ℕ} {end depth i d b : ℕ} → Onward text end depth i d b → Follows text end depth (Ok (named i d b))
follows_name {text} {end} {depth} {i} {d} {b} x = record {
  name = λ a u e f.
      let h = same_after e in
      let k = due_same (ap (λ (y : After). y.due) h ∙ f) in
      rw (sym (ap (λ (y : After). y.bars) h), sym (ap (λ (y : Due). y.place) k), sym (ap (λ (y : Due). y.depth) k)) x;
  ends = λ a e f. due_never (ap (λ (y : After). y.due) (same_after e) ∙ f);
  breaks = λ p e. no_refusal e;
}

follows_end : {text : List ℕ} {end depth b : ℕ} → Barred text end (length text) b → ((m : ℕ) → scan (in_name depth m) end (drop end text) ≡ passes) → Follows text end depth (Ok (ended_by b))
follows_end {text} {end} {depth} {b} x y = record {
  name = λ a u e f. due_never (sym f ∙ sym (ap (λ (z : After). z.due) (same_after e)));
  ends = λ a e f. (rw (sym (ap (λ (z : After). z.bars) (same_after e))) x, y);
  breaks = λ p e. no_refusal e;
}

follows_break : {text : List ℕ} {end depth p : ℕ} {e : Refusal} → refused_by e ≡ refused 19 p → ((m : ℕ) → scan (in_name depth m) end (drop end text) ≡ breaks_at p)
    → Follows text end depth (Err e)
follows_break {text} {end} {depth} {p} {e} x y = record { name = λ a u h f. never h; ends = λ a h f. never h; breaks = λ q h. rw (sym (same q h)) (record { place = p; refuses = x; scans = y }) }
  where
    same : (q : Refusal) → (let r : Found = Err e in r ≡ Err q) → e ≡ q
    same q h = cc

    never : {A : Type 0} {a : After} → (let r : Found = Err e in r ≡ Ok a) → A
    never h = let z : ◌≡◌ {A = ℕ} 0 1 = cc in absurd (omega arith)

-- a byte other than 0 stands inside the text
inside : (text : List ℕ) (i b : ℕ) → get_or text i 0 ≡ suc b → i < length text
inside text i b e = go (ltb i (length text)) refl
  where
    go : (t : Bool) → ltb i (length text) ≡ t → i < length text
    go true g = ltb-true i (length text) g
    go false g = let z = get_or-eq_default text 0 {n = i} (ltb-false i (length text) g) in absurd (omega arith)

module _ (text : List ℕ) (end depth : ℕ) (nb : is_name_byte (get_or text end 0) ≡ false) where
  -- `(`
  module _ (e : eqb (get_or text end 0) 40 ≡ true) where
    is_open : get_or text end 0 ≡ 40
    is_open = eqb-true (get_or text end 0) 40 e

    open_inside : end < length text
    open_inside = inside text end 39 is_open

    open_entries : (names : List ℕ) (s : ℕ) → node_entries s (not (eqb (get_or text end 0) 40)) ++ emitted names false (drop end text) ≡ s ∷ emitted names false (drop (end + 1) text)
    open_entries names s =
        ap (λ (b : Bool). node_entries s (not b) ++ emitted names false (drop end text)) e
        ∙ ap (λ (x : List ℕ). s ∷ x)
        (other_entries names text end open_inside nb
        ∙ ap (λ (b : Bool). (if b then 0 ∷ [] else []) ++ emitted names false (drop (end + 1) text)) (ne_eqb (get_or text end 0) 41 (λ h. let z = is_open in omega arith)))

    pub opened_on : Follows text end depth (Ok (named (end + 1) (depth + 1) 0))
    opened_on =
        let l = open_inside in
        follows_name (record {
          barred = record {
            within = omega arith;
            few = omega arith;
            others = λ j g m. let z : j ≡ end = omega arith in rw z nb;
            entries = open_entries;
          };
          further = omega arith;
          few = omega arith;
          shallow = omega arith;
          scans = λ m. opened text end l depth m is_open;
        })

  -- no `(`: so many `)`, and what comes after them
  module _ (e : eqb (get_or text end 0) 40 ≡ false) (c : ℕ) (x : Closing text end depth c) where
    shut_scans : (m : ℕ) → scan (in_name depth m) end (drop end text) ≡ scan (closed (depth - c)) (end + c) (drop (end + c) text)
    shut_scans m =
        let w = x.within in
        name_shut text end depth m (omega arith) nb e ∙ closed_all c text end depth x.few x.within x.marks

    shut_entries : (names : List ℕ) (s : ℕ) → node_entries s (not (eqb (get_or text end 0) 40)) ++ emitted names false (drop end text) ≡ s ∷ (replicate (c + 1) 0 ++ emitted names false (drop (end + c) text))
    shut_entries names s =
        ap (λ (b : Bool). node_entries s (not b) ++ emitted names false (drop end text)) e
        ∙ ap (λ (y : List ℕ). s ∷ 0 ∷ y) (closed_entries c names text end x.within x.marks)
        ∙ ap (λ (k : ℕ). s ∷ (replicate k 0 ++ emitted names false (drop (end + c) text))) (sym (add-one c))

    closes_others : (j : ℕ) → end ≤ j → j < end + c → is_name_byte (get_or text j 0) ≡ false
    closes_others j g m = rw (x.marks j g m) close_no_byte

    -- the text ends
    module _ (z : end + c ≡ length text) where
      pub shut_ends : depth ≡ c → Follows text end depth (Ok (ended_by (c + 1)))
      shut_ends d = follows_end
          (record {
            within = omega arith;
            few = omega arith;
            others = λ j g m. closes_others j g (omega arith);
            entries = λ names s. shut_entries names s ∙ ap (λ (k : ℕ). s ∷ (replicate (c + 1) 0 ++ emitted names false (drop k text))) z;
          })
          (λ m. shut_scans m ∙ ended text (end + c) (depth - c) (omega arith) ∙ ap (λ (b : Bool). if b then passes else breaks_at (end + c)) (eq-eqb (depth - c) 0 (omega arith)))

      pub shut_early : (depth ≡ c → ⊥) → {e : Refusal} → refused_by e ≡ refused 19 (end + c) → Follows text end depth (Err e)
      shut_early d t = follows_break t
          (λ m. shut_scans m ∙ ended text (end + c) (depth - c) (omega arith) ∙ ap (λ (b : Bool). if b then passes else breaks_at (end + c)) (ne_eqb (depth - c) 0 (λ h. d (let f = x.few in omega arith))))

    -- it goes on
    module _ (l : end + c < length text) where
      pub shut_over : depth ≡ c → {e : Refusal} → refused_by e ≡ refused 19 (end + c) → Follows text end depth (Err e)
      shut_over d t = follows_break t (λ m. shut_scans m ∙ stopped text (end + c) l (depth - c) (λ p. absurd (omega arith)) (λ p. absurd (omega arith)))

      pub shut_other : (depth ≡ c → ⊥) → (get_or text (end + c) 0 ≡ 44 → ⊥) → {e : Refusal} → refused_by e ≡ refused 19 (end + c) → Follows text end depth (Err e)
      shut_other d k t = follows_break t (λ m. shut_scans m ∙ stopped text (end + c) l (depth - c) (λ p h. x.stop (omega arith) h) (λ p h. k h))

      pub shut_rest : (get_or text (end + c) 0 ≡ 44 → depth ≤ c) → (e' : Refusal) → refused_by e' ≡ refused 19 (end + c) → Follows text end depth (Err e')
      shut_rest k e' t = go (eqb depth c) refl
        where
          go : (s : Bool) → eqb depth c ≡ s → Follows text end depth (Err e')
          go true h = shut_over (eqb-true depth c h) t
          go false h = let d = eqb-false depth c h in let f = x.few in shut_other d (λ g. d (let m = k g in omega arith)) t

      pub shut_comma : (depth ≡ c → ⊥) → get_or text (end + c) 0 ≡ 44 → Follows text end depth (Ok (named (end + c + 1) (depth - c) (c + 1)))
      shut_comma d k =
          let f = x.few in
          let p : 0 < depth - c = pos d f in
          follows_name (record {
            barred = record {
              within = omega arith;
              few = omega arith;
              others = λ j g m. mark j g m (eqb j (end + c)) refl;
              entries = λ names s. shut_entries names s ∙ ap (λ (y : List ℕ). s ∷ (replicate (c + 1) 0 ++ y)) (comma_entries names);
            };
            further = omega arith;
            few = omega arith;
            shallow = omega arith;
            scans = λ m. shut_scans m ∙ commaed text (end + c) l (depth - c) k p;
          })
        where
          pos : (depth ≡ c → ⊥) → c ≤ depth → 0 < depth - c
          pos n f = omega arith

          mark : (j : ℕ) → end ≤ j → j < end + c + 1 → (t : Bool) → eqb j (end + c) ≡ t → is_name_byte (get_or text j 0) ≡ false
          mark j g m true h = rw (eqb-true j (end + c) h, k) comma_no_byte
          mark j g m false h = let n = eqb-false j (end + c) h in closes_others j g (omega arith)

          comma_entries : (names : List ℕ) → emitted names false (drop (end + c) text) ≡ emitted names false (drop (end + c + 1) text)
          comma_entries names =
              other_entries names text (end + c) l (rw k comma_no_byte)
              ∙ ap (λ (b : Bool). (if b then 0 ∷ [] else []) ++ emitted names false (drop (end + c + 1) text)) (ne_eqb (get_or text (end + c) 0) 41 (λ h. omega arith))
