-- The children of a row in turn. Assumes nothing.
use Prim.Native.Nat.{ℕ, suc, ◌+◌, ◌/◌, ◌%◌, ◌<◌, ◌≤◌}
use mathlib.Core.Path.{◌≡◌, ap, ◌∙◌}
use mathlib.Core.List.{List, [], ◌∷◌, ◌++◌, map}
use native.Mathlib.Omega.{arith}
use lib.ListN.{length, get_or, length-append}
use Rattle.model.specs.Table.{Row}
use Rattle.model.specs.Count.{product}
use Rattle.model.proofs.Good.{AllBelow}
use Rattle.model.proofs.Values.{Share, share}
use Rattle.rows.specs.Words.{args_in, rows_in}
use Rattle.rows.proofs.Words.{rows_long}
use Rattle.counts.specs.States.{held}
use Rattle.unrank.specs.declared.Entered.{Entered}
use Rattle.unrank.specs.declared.Spot.{Spot}
use Rattle.unrank.specs.Trees.{Enters, Shared, TakesChild, value_entries}
use Rattle.unrank.proofs.Trees.{kids_in, row_entered, entries_are, kids_none, kids_next}
use Rattle.unrank.proofs.ValueReady.{ValueReady}

-- ---- one child, the first of those that are left

module _ {counts states : List ℕ} {w h : ℕ} (s : Shared counts states w h) {a : ℕ} {later : List ℕ} (e : states ≡ a ∷ later) where
  pub parts : Share (held counts) a later w h
  parts = share (held counts) a later w h (s.weighs ∙ ap (λ (l : List ℕ). product (map (held counts) l)) e) s.falls

  pub shared_next : Shared counts later (w / held counts a) (h % (w / held counts a))
  shared_next =
      let p : (k : ℕ) → k < length (a ∷ later) → get_or (a ∷ later) k 0 < length counts = rw e at s.placed in
      record { placed = λ k l. p (suc k) (omega arith); weighs = parts.leaves; falls = parts.remains }

-- of an iterator that goes over the same counts
pub takes_of : {cs counts states states' : List ℕ} {w h w' h' : ℕ} {c : Spot} {B : Type 0} → cs ≡ counts → TakesChild cs states w h c states' w' h' × B → TakesChild counts states w h c states' w' h'
takes_of e t = rw e at t.0

-- ---- the children of a row of state q

-- those that are left have lower states
pub record Going (counts : List ℕ) (q : ℕ) (states : List ℕ) (w h : ℕ) : Type 0 where
  pub below : AllBelow q states
  pub shared : Shared counts states w h

module _ {pool words first counts sums : List ℕ} {q value : ℕ} (x : ValueReady pool words first counts sums q value) where
  abbrev rows : List Row
  rows = rows_in pool words

  module _ {e : Entered} (y : Enters pool words counts q value e) where
    lower_args : AllBelow q (args_in pool e.word)
    lower_args = rw (y.mine, row_entered y) at (x.ordered y.row (rw (rows_long pool words) y.inside))

    pub going_begins : Going counts q (args_in pool e.word) e.weight e.rest
    going_begins = record {
      below = lower_args;
      shared = record { placed = λ k l. omega (arith, lower_args k l, x.counts_place); weighs = rw (row_entered y) at y.weighs; falls = y.falls };
    }

  module _ {states states' : List ℕ} {w h w' h' : ℕ} {c : Spot} (g : Going counts q states w h) (t : TakesChild counts states w h c states' w' h') where
    lower : AllBelow q (c.state ∷ states')
    lower = rw t.first at g.below

    pub child_lower : c.state < q
    child_lower = lower 0 (omega arith)

    pub child_valued : c.value < held counts c.state
    child_valued = rw (t.value, t.divides) (parts g.shared t.first).value

    pub going_next : Going counts q states' w' h'
    going_next = record { below = λ k l. lower (suc k) (omega arith); shared = rw (t.remains, t.divides) (shared_next g.shared t.first) }

    pub kids_turn : kids_in rows counts q states w h ≡ value_entries rows counts c.state c.value ++ kids_in rows counts q states' w' h'
    kids_turn =
        ap (λ (l : List ℕ). kids_in rows counts q l w h) t.first
        ∙ rw (t.value, t.remains, t.divides) (kids_next rows counts q x.ordered c.state child_lower states' w h)

-- no child is left
pub kids_end : (rows : List Row) (counts : List ℕ) (q : ℕ) (states : List ℕ) (w h : ℕ) → states ≡ [] → kids_in rows counts q states w h ≡ []
kids_end rows counts q states w h e = ap (λ (l : List ℕ). kids_in rows counts q l w h) e ∙ kids_none rows counts q w h

-- the entries of the earlier children are counted, with the symbol and the bar
pub record Measuring (rows : List Row) (counts : List ℕ) (q value : ℕ) (states : List ℕ) (w h n : ℕ) : Type 0 where
  pub going : Going counts q states w h
  pub sum : n + length (kids_in rows counts q states w h) ≡ length (value_entries rows counts q value)

module _ {pool words first counts sums : List ℕ} {q value : ℕ} (x : ValueReady pool words first counts sums q value) where
  pub measure_begins : {e : Entered} → Enters pool words counts q value e → Measuring (rows_in pool words) counts q value (args_in pool e.word) e.weight e.rest 2
  measure_begins {e} y = record {
    going = going_begins x y;
    sum = omega (arith, ap length (entries_are y), length-append (kids_in (rows_in pool words) counts q (args_in pool e.word) e.weight e.rest) (0 ∷ []));
  }

  module _ {states : List ℕ} {w h n : ℕ} (m : Measuring (rows_in pool words) counts q value states w h n) where
    module _ {states' : List ℕ} {w' h' : ℕ} {c : Spot} (t : TakesChild counts states w h c states' w' h') (r : ℕ) (o : r ≡ length (value_entries (rows_in pool words) counts c.state c.value)) where
      pub measure_next : Measuring (rows_in pool words) counts q value states' w' h' (n + r)
      measure_next = record {
        going = going_next x m.going t;
        sum = omega (
          arith,
          m.sum,
          o,
          ap length (kids_turn x m.going t),
          length-append (value_entries (rows_in pool words) counts c.state c.value) (kids_in (rows_in pool words) counts q states' w' h'),
        );
      }

      pub measure_small : n + r ≤ 4096
      measure_small = omega (arith, measure_next.sum, x.short)

    pub measure_ends : states ≡ [] → n ≡ length (value_entries (rows_in pool words) counts q value)
    measure_ends e = omega (arith, m.sum, ap length (kids_end (rows_in pool words) counts q states w h e))
