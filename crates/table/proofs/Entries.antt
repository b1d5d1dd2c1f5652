-- Laws of the accepting list's check. Assumes nothing.
use Rattle.std.specs.Prelude.{Err}
use Prim.Native.Nat.{ℕ, ◌+◌, ◌<◌, ◌≤◌}
use mathlib.Core.Path.{◌≡◌, refl, sym, ap, ◌∙◌}
use mathlib.Core.Bool.{Bool, true, false, not, ◌||◌, or-false}
use mathlib.Core.List.{List}
use native.Mathlib.Omega.{arith}
use native.Mathlib.Numerals.{add-one}
use lib.ListN.{length, get_or, set, length-set}
use lib.Seq.{get_or-set_same, get_or-set_other}
use lib.Dec.{eqb, ltb}
use borrow.Author.Tests.{eq-eqb, ne_eqb, eqb-true, eqb-false, lt-ltb, le-ltb}
use borrow.Author.Count.{below_more}
use Rattle.model.specs.declared.Refusal.{Refusal}
use Rattle.model.specs.Answers.{refused, refused_by}
use Rattle.model.specs.Choice.{any_below}
use Rattle.model.specs.Check.{accepting_ground}
use Rattle.model.proofs.Choice.{or_right}
use Rattle.chains.specs.First.{AllFine}
use Rattle.table.specs.Checked.{EntriesChecked}

-- some entry before entry i is q
abbrev pub listed : List ℕ → ℕ → ℕ → Bool
listed accepting i q = any_below i (λ j. eqb (get_or accepting j 0) q)

-- the first i entries are without fault, and the states that they name are marked
pub record Seeing (states : ℕ) (accepting : List ℕ) (seen : List Bool) (i : ℕ) : Type 0 where
  pub long : length seen ≡ 256
  pub marks : (q : ℕ) → q < 256 → get_or seen q false ≡ listed accepting i q
  pub fine : AllFine i (accepting_ground states accepting)

pub seeing_begins : (states : ℕ) (accepting : List ℕ) (seen : List Bool) → length seen ≡ 256 → ((q : ℕ) → q < 256 → get_or seen q false ≡ false) → Seeing states accepting seen 0
unfolding any_below
seeing_begins states accepting seen e z = record { long = e; marks = z; fine = λ i lt. absurd (omega arith) }

listed_more : (accepting : List ℕ) (i q : ℕ) → listed accepting (i + 1) q ≡ (listed accepting i q || eqb (get_or accepting i 0) q)
unfolding any_below
listed_more accepting i q = rw (add-one i)

module _ {states : ℕ} {accepting : List ℕ} {seen : List Bool} {i : ℕ} (x : Seeing states accepting seen i) (few : states ≤ 256) (lt : i < length accepting) (a : ℕ) (is : a ≡ get_or accepting i 0) where
  entry_found : accepting_ground states accepting i ≡ 7 → (f : Refusal) → refused_by f ≡ refused 7 i → EntriesChecked states accepting (Err f)
  entry_found e f said = record {
    passed = λ h. cc;
    stopped = λ g h. let z : g.place ≡ i = cc in rw z (record { inside = lt; before = x.fine; here = e });
    seventh = λ g h. cc;
  }

  pub no_state : states ≤ a → (f : Refusal) → refused_by f ≡ refused 7 i → EntriesChecked states accepting (Err f)
  unfolding accepting_ground
  no_state ge = entry_found (rw (le-ltb (get_or accepting i 0) states (rw is at ge)))

  module _ (state : a < states) where
    seen_is : get_or seen a false ≡ listed accepting i (get_or accepting i 0)
    seen_is = x.marks a (omega arith) ∙ ap (listed accepting i) is

    pub seen_before : get_or seen a false ≡ true → (f : Refusal) → refused_by f ≡ refused 7 i → EntriesChecked states accepting (Err f)
    unfolding accepting_ground
    seen_before m = entry_found (rw (or_right (not (ltb (get_or accepting i 0) states)) (listed accepting i (get_or accepting i 0)) (sym seen_is ∙ m)))

    module _ (new : get_or seen a false ≡ false) where
      fine_here : accepting_ground states accepting i ≡ 0
      unfolding accepting_ground
      fine_here =
          let m : listed accepting i (get_or accepting i 0) ≡ false = sym seen_is ∙ new in
          rw (m, lt-ltb (get_or accepting i 0) states (rw is at state))

      mark_more : (q : ℕ) → q < 256 → (t : Bool) → eqb q a ≡ t → get_or (set seen a true) q false ≡ listed accepting (i + 1) q
      mark_more q ql true e =
          let h : q ≡ a = eqb-true q a e in
          let here : a < length seen = omega (arith, x.long) in
          let m : listed accepting (i + 1) a ≡ true = listed_more accepting i a ∙ or_right (listed accepting i a) _ (eq-eqb _ _ (sym is)) in
          rw (h, m) (get_or-set_same seen a true false here)
      mark_more q ql false e =
          let ne = eqb-false q a e in
          let m : listed accepting (i + 1) q ≡ listed accepting i q =
          listed_more accepting i q ∙ ap (λ (t : Bool). listed accepting i q || t) (ne_eqb _ _ (λ h. ne (sym h ∙ sym is))) ∙ or-false (listed accepting i q) in
          rw m (get_or-set_other seen a q true false ne ∙ x.marks q ql)

      pub seeing_goes : Seeing states accepting (set seen a true) (i + 1)
      seeing_goes = record {
        long = length-set seen a true ∙ x.long;
        marks = λ q ql. mark_more q ql (eqb q a) refl;
        fine = below_more _ i x.fine fine_here;
      }
