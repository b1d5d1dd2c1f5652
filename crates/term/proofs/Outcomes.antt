-- What the parts of the two operations answer, put together. Assumes nothing.
use Rattle.std.specs.Prelude.{Result, Ok, Err, if◌then◌else◌, Some, None}
use Prim.Native.Nat.{ℕ, ◌<◌, ◌≤◌}
use mathlib.Core.Path.{◌≡◌, refl, sym, ap, ◌∙◌}
use mathlib.Core.Bool.{Bool, true, false}
use mathlib.Core.List.{List}
use native.Mathlib.Omega.{arith}
use lib.ListN.{length, get_or, take, replicate, length-replicate, get_or-replicate}
use lib.Seq.{get_or-take, ext_get_or, length-take-le}
use lib.Dec.{ltb}
use borrow.Author.Tests.{lt-ltb, le-ltb, ltb-true, ltb-false}
use Rattle.model.specs.Answers.{Outcome, result, refused, refused_by, outcome, lent_after}
use Rattle.model.specs.Names.{how_many_names, names_then}
use Rattle.model.specs.Term.{Scan, passes, breaks_at}
use Rattle.model.specs.Tree.{WellFormed}
use Rattle.model.specs.TermOperations.{entries_of, bytes_of, fits_in, read_fits, read_named, symbol_ground, write_fits, write_formed, write_named, read_term_outcome, write_term_outcome, read_term_list, write_term_list}
use Rattle.model.specs.declared.Kind.TheVariants.{NotATerm}
use Rattle.model.specs.declared.Refusal.{Refusal}
use Rattle.std.specs.List.{position, position_or_len}
use Rattle.std.proofs.lemmas.List.Sums.{passes_at_first, fails_before_first}
use Rattle.model.proofs.Choice.{no_fault, fault_refused, is_false, not_both}
use Rattle.tree.specs.Reading.{Decides}
use Rattle.tree.proofs.Laws.{list_refused}
use Rattle.chains.specs.First.{first_with}
use Rattle.chains.proofs.First.{first_is, first_at, none_first, first_none}
use Rattle.scan.specs.TextState.{place_of, not_a_term_at}
use Rattle.term.specs.Emit.{entries_text}
use Rattle.term.specs.Pass.{unlisted_at, Cleared, pass_then, Passed}
use Rattle.term.specs.Written.{Front, EntriesNamed, Gave, ReadTerm, WriteTerm}
use Rattle.names.specs.NamesIndex.{names_check_then}
use Rattle.term.proofs.EntriesText.{entries_text_lem}

-- an answer with its list
pub gave_refused : {o : Outcome} {written old : List ℕ} {r : Result ℕ Refusal} (k p : ℕ) → outcome r ≡ refused k p → refused k p ≡ o → Gave o written old old r
gave_refused {o} {written} {old} k p a e = record { answer = a ∙ e; list = ap (λ (x : Outcome). lent_after x written old) e }

pub gave_result : {o : Outcome} {written old new : List ℕ} {r : Result ℕ Refusal} (n : ℕ) → outcome r ≡ result n → result n ≡ o → Front old new written → Gave o written old new r
gave_result {o} {written} {old} n a e f = record { answer = a ∙ e; list = f.holds ∙ ap (λ (x : Outcome). lent_after x written old) e }

pub gave_same : {o o' : Outcome} {written old new : List ℕ} {r : Result ℕ Refusal} → o ≡ o' → Gave o written old new r → Gave o' written old new r
gave_same {o} {o'} {written} {old} e g = record { answer = g.answer ∙ e; list = g.list ∙ ap (λ (x : Outcome). lent_after x written old) e }

-- ---- reading

-- 19 before 20
pub unlisted_breaks : (s : Scan) (r : Result (Unit {0}) Refusal) (place : ℕ) → r ≡ not_a_term_at (place_of s) → (e : Refusal) → r ≡ Err e → refused_by e ≡ unlisted_at s place
unlisted_breaks passes r place f e h = let z : ◌≡◌ {A = ℕ} 0 1 = cc in absurd (omega arith)
unlisted_breaks (breaks_at q) r place f e h = let z : e ≡ record { place = q; kind = NotATerm } = cc in ap refused_by z

pub unlisted_whole : (s : Scan) (r : Result (Unit {0}) Refusal) (place : ℕ) → r ≡ not_a_term_at (place_of s) → r ≡ Ok tt → refused 20 place ≡ unlisted_at s place
unlisted_whole passes r place f h = refl
unlisted_whole (breaks_at q) r place f h = let z : ◌≡◌ {A = ℕ} 0 1 = cc in absurd (omega arith)

pub cleared : Cleared (replicate 4096 0)
cleared = record { long = length-replicate {A = ℕ} 4096 0; none = λ k l. get_or-replicate {A = ℕ} 4096 k 0 0 l }

-- 19 and 20, and what follows them
module _ {names text entries : List ℕ} {r : Result ℕ Refusal} (x : Passed names text entries r) (room : ℕ) (short : length text ≤ 65536) where
  told : pass_then r (read_fits 4096 names text room) ≡ read_named 4096 names text room
  told = rw (le-ltb 65536 (length text) short) (x.decided (read_fits 4096 names text room))

  pub told_refused : (e : Refusal) → r ≡ Err e → refused_by e ≡ read_named 4096 names text room
  told_refused e h = rw h at told

  fits_by : (m : ℕ) → r ≡ Ok m → fits_in 4096 m room ≡ read_named 4096 names text room
  fits_by m e = ap (λ (k : ℕ). fits_in 4096 k room) (x.counted m e) ∙ rw e at told

  -- what is kept are the entries of the tree
  kept_are : (m : ℕ) → r ≡ Ok m → m ≤ 4096 → take m entries ≡ entries_of names text
  kept_are m e l =
      let h = x.held m e in
      let n = length-take-le m entries (let w = h.long in omega arith) in
      ext_get_or 0 (take m entries) (entries_of names text) (n ∙ x.counted m e) (λ i g. get_or-take m entries i 0 (omega arith) ∙ h.same i (omega arith))

  same_list_lem : (m : ℕ) → r ≡ Ok m → (old : List ℕ) → lent_after (fits_in 4096 m room) (take m entries) old ≡ lent_after (fits_in 4096 m room) (entries_of names text) old
  same_list_lem m e old = go (ltb 4096 m) refl
    where
      go : (t : Bool) → ltb 4096 m ≡ t → lent_after (fits_in 4096 m room) (take m entries) old ≡ lent_after (fits_in 4096 m room) (entries_of names text) old
      go true g = rw g
      go false g = ap (λ (y : List ℕ). lent_after (fits_in 4096 m room) y old) (kept_are m e (ltb-false 4096 m g))

  pub told_gave : (m : ℕ) → r ≡ Ok m → {old new : List ℕ} {a : Result ℕ Refusal} → Gave (fits_in 4096 m room) (take m entries) old new a → Gave (read_named 4096 names text room) (entries_of names text) old new a
  told_gave m e {old} g = gave_same (fits_by m e) (record { answer = g.answer; list = g.list ∙ same_list_lem m e old })

-- 17, and what follows where the names list keeps to the rules
module _ {A : Type 0} (names : List ℕ) {r : Result A Refusal} (decided : (o : Outcome) → names_check_then r o ≡ names_then names o) (o : Outcome) {written old : List ℕ} where
  pub gave_faulty : (k : Refusal) → r ≡ Err k → Gave (names_then names o) written old old (Err k)
  gave_faulty k e = gave_refused _ _ refl (rw e at (decided o))

  pub gave_sound : {new : List ℕ} {a : Result ℕ Refusal} (l : A) → r ≡ Ok l → Gave o written old new a → Gave (names_then names o) written old new a
  gave_sound l e g = gave_same (rw e at (decided o)) g

pub read_told : {names text old new : List ℕ} {r : Result ℕ Refusal} → Gave (names_then names (read_named 4096 names text (length old))) (entries_of names text) old new r → ReadTerm names text old new r
unfolding read_term_outcome read_term_list
read_told g = record { answer = g.answer; list = g.list }

-- ---- writing

-- 24, and the result
module _ (names tree : List ℕ) (room needed : ℕ) (w : WellFormed tree) (e : needed ≡ length (entries_text names 0 tree)) where
  bytes_are : needed ≡ length (bytes_of names tree)
  bytes_are = e ∙ ap length (entries_text_lem names tree w)

  pub short_text : room < needed → refused 24 needed ≡ write_fits names tree room
  short_text l = rw (lt-ltb room (length (bytes_of names tree)) (omega (arith, bytes_are)), bytes_are)

  pub text_fits : needed ≤ room → result needed ≡ write_fits names tree room
  text_fits l = rw (le-ltb room (length (bytes_of names tree)) (omega (arith, bytes_are)), bytes_are)

pub text_front : (names tree old new : List ℕ) → WellFormed tree → Front old new (entries_text names 0 tree) → Front old new (bytes_of names tree)
text_front names tree old new w f = rw (sym (entries_text_lem names tree w)) f

-- the first place that passes a test
pub position_first : (q : ℕ → Bool) (xs : List ℕ) → position q xs ≡ first_with (λ i. q (get_or xs i 0)) (length xs)
position_first q xs = go (ltb (position_or_len q xs) (length xs)) refl
  where
    go : (t : Bool) → ltb (position_or_len q xs) (length xs) ≡ t → position q xs ≡ first_with (λ i. q (get_or xs i 0)) (length xs)
    go true e =
        let l = ltb-true (position_or_len q xs) (length xs) e in
        rw e (sym (first_at (λ i. q (get_or xs i 0)) (length xs) (position_or_len q xs) l (passes_at_first q xs 0 l) (λ k m t. not_both (q (get_or xs k 0)) t (fails_before_first q xs k 0 m))))
    go false e =
        let l = ltb-false (position_or_len q xs) (length xs) e in
        rw e (sym (none_first (λ i. q (get_or xs i 0)) (length xs) (λ k m t. not_both (q (get_or xs k 0)) t (fails_before_first q xs k 0 (omega arith)))))

-- 23
module _ (names tree : List ℕ) (n room : ℕ) (c : n ≡ how_many_names names) where
  ground_is : (i : ℕ) (t : Bool) → ltb n (get_or tree i 0) ≡ t → symbol_ground names tree i ≡ (if t then 23 else 0)
  unfolding symbol_ground
  ground_is i t e = rw (sym c, e)

  none_unnamed : first_with (λ i. ltb n (get_or tree i 0)) (length tree) ≡ None → (i : ℕ) → i < length tree → ltb n (get_or tree i 0) ≡ false
  none_unnamed e i l = is_false (ltb n (get_or tree i 0)) (first_none (λ i. ltb n (get_or tree i 0)) (length tree) e i l)

  pub unnamed : (p : ℕ) → first_with (λ i. ltb n (get_or tree i 0)) (length tree) ≡ Some p → refused 23 p ≡ write_formed names tree room
  unnamed p e =
      let f = first_is (λ i. ltb n (get_or tree i 0)) (length tree) p e in
      fault_refused (length tree) p 23 (symbol_ground names tree) (write_fits names tree room) f.0 (λ j l. ground_is j false (is_false (ltb n (get_or tree j 0)) (f.2 j l))) (ground_is p true f.1) (omega arith)

  pub all_named : first_with (λ i. ltb n (get_or tree i 0)) (length tree) ≡ None → write_fits names tree room ≡ write_formed names tree room
  all_named e = sym (no_fault (length tree) (symbol_ground names tree) (write_fits names tree room) (λ i l. ground_is i false (none_unnamed e i l)))

  pub named_low : length tree ≤ 4096 → first_with (λ i. ltb n (get_or tree i 0)) (length tree) ≡ None → EntriesNamed n tree
  named_low f e = record { few = f; named = λ i l. ltb-false n (get_or tree i 0) (none_unnamed e i l) }

-- 12 and 13
module _ {tree : List ℕ} {f : Result (Unit {0}) Refusal} (x : Decides tree f) (names : List ℕ) (room : ℕ) where
  pub not_a_tree : (r : Refusal) → f ≡ Err r → refused_by r ≡ write_named names tree room
  not_a_tree r e = list_refused x r e (write_formed names tree room)

pub write_told : {names tree old new : List ℕ} {r : Result ℕ Refusal} → Gave (names_then names (write_named names tree (length old))) (bytes_of names tree) old new r → WriteTerm names tree old new r
unfolding write_term_outcome write_term_list
write_told g = record { answer = g.answer; list = g.list }
