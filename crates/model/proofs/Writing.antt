-- Writing at the front of a lent list, piece by piece. Assumes nothing.
use Prim.Native.Nat.{ℕ, ◌+◌, ◌<◌, ◌≤◌}
use mathlib.Core.Path.{◌≡◌, refl, sym, ap, ◌∙◌}
use mathlib.Core.List.{List, [], ◌∷◌, ◌++◌, append_assoc, append-nil}
use native.Mathlib.Omega.{arith}
use native.Mathlib.Numerals.{add-one}
use lib.ListN.{length, take, drop, set, length-append, length-drop}
use lib.Seq.{take_at, drop_at, drop-drop, append_snoc, set_split}
use Rattle.model.specs.Answers.{Outcome, result, refused, lent_after, Lent}

-- of all that is to be written, the rest is not written yet; the next place comes after what is
pub record Writing (old new all rest : List ℕ) (at : ℕ) : Type 0 where
  pub done : List ℕ
  pub whole : done ++ rest ≡ all
  pub place : length done ≡ at
  pub holds : new ≡ done ++ drop at old
  pub room : length all ≤ length old

pub writing_first : (old all : List ℕ) → length all ≤ length old → Writing old old all all 0
writing_first old all l = record { done = []; whole = refl; place = refl; holds = refl; room = l }

module _ {old new all rest : List ℕ} {at : ℕ} (w : Writing old new all rest at) where
  -- the list keeps its length
  pub writing_length : length new ≡ length old
  writing_length =
      omega (arith, ap length w.holds, length-append w.done (drop at old), length-drop at old, w.place, w.room, ap length w.whole, length-append w.done rest)

  pub rest_fits : at + length rest ≤ length new
  rest_fits = omega (arith, writing_length, w.place, w.room, ap length w.whole, length-append w.done rest)

  -- what is written stands in front, and the old items behind it
  pub front_is : take at new ≡ w.done
  front_is = ap (λ (l : List ℕ). take at l) w.holds ∙ take_at w.done (drop at old) at w.place

  pub behind_is : drop at new ≡ drop at old
  behind_is = ap (λ (l : List ℕ). drop at l) w.holds ∙ drop_at w.done (drop at old) at w.place

-- a piece at the next place
module _ {old new all : List ℕ} {at : ℕ} (piece rest : List ℕ) (w : Writing old new all (piece ++ rest) at) where
  pub piece_fits : at + length piece ≤ length new
  piece_fits = omega (arith, rest_fits w, length-append piece rest)

  pub piece_written : (new' : List ℕ) (next : ℕ) → new' ≡ take at new ++ piece ++ drop (at + length piece) new → next ≡ at + length piece → Writing old new' all rest next
  piece_written new' next h e = record {
    done = w.done ++ piece;
    whole = append_assoc w.done piece rest ∙ w.whole;
    place = length-append w.done piece ∙ (let z : length w.done + length piece ≡ next = omega (arith, w.place) in z);
    holds =
        h
        ∙ ap (λ (l : List ℕ). l ++ piece ++ drop (at + length piece) new) (front_is w)
        ∙ ap (λ (l : List ℕ). w.done ++ piece ++ l) (sym (drop-drop (length piece) at new) ∙ ap (λ (l : List ℕ). drop (length piece) l) (behind_is w) ∙ drop-drop (length piece) at old)
        ∙ ap (λ (i : ℕ). w.done ++ piece ++ drop i old) (sym e);
    room = w.room;
  }

-- all is written
pub writing_last : {old new all : List ℕ} {at : ℕ} → Writing old new all [] at → new ≡ all ++ drop (length all) old
writing_last {old} {new} {all} {at} w =
    w.holds
    ∙ ap (λ (i : ℕ). w.done ++ drop i old) (sym w.place)
    ∙ ap (λ (l : List ℕ). l ++ drop (length l) old) (sym (append-nil w.done) ∙ w.whole)

-- one item is set
pub one_set : (old : List ℕ) (at x : ℕ) → at < length old → set old at x ≡ take at old ++ (x ∷ []) ++ drop (at + 1) old
one_set old at x l = set_split old at x l ∙ ap (λ (i : ℕ). take at old ++ x ∷ drop i old) (sym (add-one at)) ∙ sym (append_snoc (take at old) x (drop (at + 1) old))

-- ---- what a lent list holds after an answer

-- after a result: all of it; and its front
pub lent_all : (o : Outcome) (n : ℕ) (written old : List ℕ) → o ≡ result n → lent_after o written old ≡ written ++ drop (length written) old
lent_all o n written old e = rw e

pub lent_front : (o : Outcome) (n : ℕ) (written old : List ℕ) → o ≡ result n → n ≡ length written → take n (lent_after o written old) ≡ written
lent_front o n written old e l = ap (take n) (lent_all o n written old e) ∙ take_at written (drop (length written) old) n (sym l)

-- a refusal writes nothing; a result's entries stand at the front, and the later ones stay
pub lent_told : (o : Outcome) (written old : List ℕ) → ((n : ℕ) → o ≡ result n → (n ≡ length written) × (n ≤ length old)) → Lent o written old (lent_after o written old)
lent_told o written old h =
    record {
      kept = λ k p e. rw e;
      front = λ n e. ((h n e).0, lent_front o n written old e (h n e).0);
      later = λ n e. ap (drop n) (lent_all o n written old e) ∙ drop_at written (drop (length written) old) n (sym (h n e).0) ∙ ap (λ (i : ℕ). drop i old) (sym (h n e).0);
      same = whole o h;
    }
  where
    whole : (o : Outcome) → ((n : ℕ) → o ≡ result n → (n ≡ length written) × (n ≤ length old)) → length (lent_after o written old) ≡ length old
    whole (result n) h =
        let l = h n refl in
        omega (arith, length-append written (drop (length written) old), length-drop (length written) old, l.0, l.1)
    whole (refused k p) h = refl
