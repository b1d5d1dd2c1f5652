-- The steps of the reading, and the bytes read so far. Assumes nothing.
use Rattle.std.specs.Prelude.{if◌then◌else◌}
use Prim.Native.Nat.{ℕ, zero, suc, ◌+◌, ◌<◌, ◌≤◌}
use mathlib.Core.Path.{◌≡◌, refl, sym, ap, ◌∙◌}
use mathlib.Core.Bool.{Bool, true, false}
use mathlib.Core.List.{List}
use native.Mathlib.Omega.{arith}
use native.Mathlib.Numerals.{add-one}
use lib.ListN.{length, get_or, drop, drop_of_length-le}
use lib.Dec.{eqb, ltb}
use Rattle.model.specs.Names.{is_letter, is_name_byte}
use Rattle.model.specs.Term as term
use Rattle.model.specs.Term.{after_term, may_end}
use Rattle.model.proofs.Lists.{drop_next}
use Rattle.std.specs.Prelude.{Option, Some, None, Ok, Err}
use Rattle.std.specs.Option.{ok_or}
use Rattle.model.specs.declared.Kind.TheVariants.{NotATerm}
use Rattle.model.specs.declared.Refusal.{Refusal}
use Rattle.scan.specs.TextState.{seen, seen_step, depth_of, place_of, scanned, not_a_term_at}
use Rattle.scan.specs.declared.TextState.{TextState}
use Rattle.scan.specs.declared.TextState.TheVariants.{Due}

-- a bracket after bytes of a name
pub name_opens : (depth bytes b : ℕ) → b ≡ 40 → term.goes_on (term.due (depth + 1)) ≡ term.step (term.in_name depth bytes) b
unfolding term.step is_name_byte is_letter
name_opens depth bytes b h = rw (h, add-one depth)

-- a step opens at most one bracket
after_deep : (d b : ℕ) (m : term.ScanState) → after_term d b ≡ term.goes_on m → depth_of m ≤ suc d
after_deep zero b m e = let z : ◌≡◌ {A = ℕ} 0 1 = cc in absurd (omega arith)
after_deep (suc d) b m e = go (eqb b 44) (eqb b 41) e
  where
    go : (s t : Bool) → (if s then term.goes_on (term.due (suc d)) else if t then term.goes_on (term.closed d) else term.stops) ≡ term.goes_on m → depth_of m ≤ suc (suc d)
    go true t h = let z : term.due (suc d) ≡ m = cc in rw (sym z) (omega arith)
    go false true h = let z : term.closed d ≡ m = cc in rw (sym z) (omega arith)
    go false false h = let z : ◌≡◌ {A = ℕ} 0 1 = cc in absurd (omega arith)

step_deep : (r m : term.ScanState) (b : ℕ) → term.step r b ≡ term.goes_on m → depth_of m ≤ suc (depth_of r)
unfolding term.step
step_deep (term.due d) m b e = go (is_letter b) e
  where
    go : (s : Bool) → (if s then term.goes_on (term.in_name d 1) else term.stops) ≡ term.goes_on m → depth_of m ≤ suc d
    go true h = let z : term.in_name d 1 ≡ m = cc in rw (sym z) (omega arith)
    go false h = let z : ◌≡◌ {A = ℕ} 0 1 = cc in absurd (omega arith)
step_deep (term.in_name d k) m b e = go (is_name_byte b) (ltb k 24) (eqb b 40) e
  where
    go : (s t u : Bool) → (if s then (if t then term.goes_on (term.in_name d (suc k)) else term.stops) else if u then term.goes_on (term.due (suc d)) else after_term d b) ≡ term.goes_on m
        → depth_of m ≤ suc d
    go true true u h = let z : term.in_name d (suc k) ≡ m = cc in rw (sym z) (omega arith)
    go true false u h = let z : ◌≡◌ {A = ℕ} 0 1 = cc in absurd (omega arith)
    go false t true h = let z : term.due (suc d) ≡ m = cc in rw (sym z) (omega arith)
    go false t false h = after_deep d b m h
step_deep (term.closed d) m b e = after_deep d b m e

-- the state after i bytes
pub record Read (text : List ℕ) (r : TextState) (i : ℕ) : Type 0 where
  pub within : i ≤ length text
  pub shallow : depth_of (seen r) ≤ i
  pub same : term.scan (seen r) i (drop i text) ≡ scanned text

pub begins : (text : List ℕ) → Read text (Due 0) 0
begins text = record { within = omega arith; shallow = omega arith; same = refl }

module _ {text : List ℕ} {r : TextState} {i : ℕ} (x : Read text r i) (l : i < length text) where
  here : term.onward (λ next. term.scan next (suc i) (drop (i + 1) text)) (term.step (seen r) (get_or text i 0)) i ≡ scanned text
  unfolding term.scan
  here = rw (drop_next text i l) at x.same

  goes : (n : TextState) → term.goes_on (seen n) ≡ term.step (seen r) (get_or text i 0) → Read text n (i + 1)
  goes n e = record {
    within = omega arith;
    shallow = omega (arith, step_deep (seen r) (seen n) (get_or text i 0) (sym e), x.shallow);
    same = ap (λ (j : ℕ). term.scan (seen n) j (drop (i + 1) text)) (add-one i) ∙ (rw (sym e) at here);
  }

  -- by what the step gave
  module _ (o : Option TextState) (f : Refusal) (s : seen_step o ≡ term.step (seen r) (get_or text i 0)) where
    pub goes_on_lem : (n : TextState) → ok_or o f ≡ Ok n → Read text n (i + 1)
    goes_on_lem n e = goes n (sym (ap seen_step (some_of o e)) ∙ s)
      where
        some_of : (p : Option TextState) → ok_or p f ≡ Ok n → p ≡ Some n
        some_of None h = cc
        some_of (Some m) h = cc

    pub stops_here : f ≡ record { place = i; kind = NotATerm } → (e : Refusal) → ok_or o f ≡ Err e → Err e ≡ not_a_term_at (place_of (scanned text))
    stops_here g e h = go o h s
      where
        go : (p : Option TextState) → ok_or p f ≡ Err e → seen_step p ≡ term.step (seen r) (get_or text i 0) → Err e ≡ not_a_term_at (place_of (scanned text))
        go None k t = let q : e ≡ f = cc in ap Err (q ∙ g) ∙ ap (λ (u : term.Scan). not_a_term_at (place_of u)) (rw (sym t) at here)
        go (Some n) k t = let z : ◌≡◌ {A = ℕ} 0 1 = cc in absurd (omega arith)

-- at the end
module _ {text : List ℕ} {r : TextState} {i : ℕ} (x : Read text r i) (ge : length text ≤ i) where
  at_end : (if may_end (seen r) then term.passes else term.breaks_at i) ≡ scanned text
  unfolding term.scan
  at_end = rw (drop_of_length-le text {i = i} ge) at x.same

  pub is_term : may_end (seen r) ≡ true → Ok tt ≡ not_a_term_at (place_of (scanned text))
  is_term e = ap (λ (s : term.Scan). not_a_term_at (place_of s)) (rw e at at_end)

  pub too_soon : may_end (seen r) ≡ false → (f : Refusal) → f ≡ record { place = length text; kind = NotATerm } → Err f ≡ not_a_term_at (place_of (scanned text))
  too_soon e f g =
      let l : length text ≡ i = omega (arith, x.within) in
      ap Err g ∙ ap (λ (k : ℕ). not_a_term_at (place_of (term.breaks_at k))) l ∙ ap (λ (s : term.Scan). not_a_term_at (place_of s)) (rw e at at_end)
