-- Writing a tree at the front of a lent list, each child into what is left of it. Assumes nothing.
use Prim.Native.Nat.{ℕ, ◌+◌, ◌-◌, ◌<◌, ◌≤◌}
use mathlib.Core.Path.{◌≡◌, refl, sym, ap, ◌∙◌}
use mathlib.Core.List.{List, [], ◌∷◌, ◌++◌, append_assoc, append-nil}
use native.Mathlib.Omega.{arith}
use lib.ListN.{length, take, drop, set, drop_of_length-le, length-append, length-take, length-drop}
use lib.Seq.{take_all, drop-drop, drop-set-lt}
use Rattle.model.specs.Table.{Row}
use Rattle.model.proofs.Writing.{Writing, rest_fits, piece_fits, piece_written, writing_last, one_set}
use Rattle.rows.specs.Words.{symbol_in, args_in, rows_in}
use Rattle.unrank.specs.declared.Entered.{Entered}
use Rattle.unrank.specs.declared.Spot.{Spot}
use Rattle.unrank.specs.Trees.{Enters, TakesChild, value_entries, Wrote}
use Rattle.unrank.proofs.Trees.{kids_in, entries_are}
use Rattle.unrank.proofs.ValueReady.{ValueReady}
use Rattle.unrank.proofs.Children.{Going, going_begins, going_next, kids_turn, kids_end}

-- the first entry is written
symbol_first : (old : List ℕ) (x : ℕ) (all rest : List ℕ) → all ≡ x ∷ rest → length all ≤ length old → Writing (set old 0 x) (set old 0 x) all rest 1
symbol_first [] x all rest e l = absurd (omega (arith, ap length e))
symbol_first (y ∷ old) x all rest e l = record { done = x ∷ []; whole = sym e; place = refl; holds = refl; room = l }

-- a piece is written by another, into the part of the list from the next place on
module _ {old new all : List ℕ} {at : ℕ} (piece rest : List ℕ) (w : Writing old new all (piece ++ rest) at) where
  part_room : length piece ≤ length (take (length new - at) (drop at new))
  part_room = omega (arith, piece_fits piece rest w, length-take (length new - at) (drop at new), length-drop at new)

  whole_part : take (length new - at) (drop at new) ≡ drop at new
  whole_part = take_all (length new - at) (drop at new) (omega (arith, length-drop at new))

  none_behind : drop (length new - at) (drop at new) ≡ []
  none_behind = drop_of_length-le (drop at new) {i = length new - at} (omega (arith, length-drop at new))

  part_put : (ys : List ℕ) (n : ℕ) → n ≡ length piece → ys ≡ piece ++ drop n (take (length new - at) (drop at new))
      → Writing old (take at new ++ (ys ++ drop (length new - at) (drop at new))) all rest (at + n)
  part_put ys n e h =
      piece_written piece rest w _ (at + n)
      (ap (λ (l : List ℕ). take at new ++ (ys ++ l)) none_behind
      ∙ ap (λ (l : List ℕ). take at new ++ l) (append-nil ys ∙ h ∙ ap (λ (l : List ℕ). piece ++ drop n l) whole_part ∙ ap (λ (l : List ℕ). piece ++ l) (drop-drop n at new))
      ∙ sym (append_assoc (take at new) piece (drop (at + n) new))
      ∙ ap (λ (i : ℕ). take at new ++ piece ++ drop (at + i) new) e) (ap (λ (i : ℕ). at + i) e)

-- the last entry
module _ {old new all : List ℕ} {at x : ℕ} (w : Writing old new all (x ∷ []) at) where
  last_fits : at < length new
  last_fits = omega (arith, rest_fits w)

  last_place : at + 1 ≡ length all
  last_place = omega (arith, w.place, ap length w.whole, length-append w.done (x ∷ []))

  last_put : set new at x ≡ all ++ drop (at + 1) old
  last_put =
      writing_last (piece_written (x ∷ []) [] w (set new at x) (at + 1) (one_set new at x last_fits) refl)
      ∙ ap (λ (i : ℕ). all ++ drop i old) (sym last_place)

-- the earlier children are written
pub record WritingTree (rows : List Row) (counts : List ℕ) (q value : ℕ) (old new states : List ℕ) (w h at : ℕ) : Type 0 where
  pub going : Going counts q states w h
  pub writes : Writing old new (value_entries rows counts q value) (kids_in rows counts q states w h ++ 0 ∷ []) at

-- a tree has an entry
pub some_entry : {pool words counts : List ℕ} {q value : ℕ} {e : Entered} → Enters pool words counts q value e → 0 < length (value_entries (rows_in pool words) counts q value)
some_entry y = omega (arith, ap length (entries_are y))

module _ {pool words first counts sums : List ℕ} {q value : ℕ} (x : ValueReady pool words first counts sums q value) where
  abbrev rows : List Row
  rows = rows_in pool words

  pub tree_begins : {e : Entered} → Enters pool words counts q value e → (old : List ℕ) → length (value_entries rows counts q value) ≤ length old
      → WritingTree rows counts q value (set old 0 (symbol_in e.word)) (set old 0 (symbol_in e.word)) (args_in pool e.word) e.weight e.rest 1
  tree_begins {e} y old l = record {
    going = going_begins x y;
    writes = symbol_first old (symbol_in e.word) (value_entries rows counts q value) (kids_in rows counts q (args_in pool e.word) e.weight e.rest ++ 0 ∷ []) (entries_are y) l;
  }

  module _ {old new states : List ℕ} {w h at : ℕ} (t : WritingTree rows counts q value old new states w h at) where
    module _ {states' : List ℕ} {w' h' : ℕ} {c : Spot} (k : TakesChild counts states w h c states' w' h') where
      abbrev piece : List ℕ
      piece = value_entries rows counts c.state c.value

      abbrev others : List ℕ
      others = kids_in rows counts q states' w' h' ++ 0 ∷ []

      turns : Writing old new (value_entries rows counts q value) (piece ++ others) at
      turns = rw (sym (append_assoc piece (kids_in rows counts q states' w' h') (0 ∷ []))) (rw (kids_turn x t.going k) at t.writes)

      pub child_room : length piece ≤ length (take (length new - at) (drop at new))
      child_room = part_room piece others turns

      pub tree_next : (ys : List ℕ) (n : ℕ) → Wrote rows counts c.state c.value (take (length new - at) (drop at new)) ys n
          → WritingTree rows counts q value old (take at new ++ (ys ++ drop (length new - at) (drop at new))) states' w' h' (at + n)
      tree_next ys n o = record { going = going_next x t.going k; writes = part_put piece others turns ys n o.many o.holds }

    module _ (none : states ≡ []) where
      bar_left : Writing old new (value_entries rows counts q value) (0 ∷ []) at
      bar_left = rw (kids_end rows counts q states w h none) at t.writes

      -- the first entry was written before the children: the entries after the tree are still those of the list as lent
      pub tree_ends : (out : List ℕ) (s : ℕ) → old ≡ set out 0 s → Wrote rows counts q value out (set new at 0) (at + 1)
      tree_ends out s z = record {
        many = last_place bar_left;
        holds = last_put bar_left ∙ ap (λ (l : List ℕ). value_entries rows counts q value ++ l) (ap (λ (l : List ℕ). drop (at + 1) l) z ∙ drop-set-lt (at + 1) out 0 s (omega arith));
      }
