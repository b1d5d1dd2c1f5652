-- What the parts of writing answer, put together. Assumes nothing.
use Prim.Native.Nat.{ℕ, ◌<◌, ◌≤◌}
use mathlib.Core.Path.{◌≡◌, sym, ap, ◌∙◌}
use mathlib.Core.List.{List, ◌++◌}
use native.Mathlib.Omega.{arith}
use lib.ListN.{length, drop}
use borrow.Author.Tests.{lt-ltb, le-ltb}
use Rattle.model.specs.Answers.{Outcome, result, refused, outcome, lent_after}
use Rattle.model.specs.Table.{Row}
use Rattle.model.specs.Write.{tree_fits}
use Rattle.std.specs.Prelude.{Result}
use Rattle.model.specs.declared.Refusal.{Refusal}
use Rattle.unrank.specs.declared.Spot.{Spot}
use Rattle.unrank.specs.Trees.{value_entries, Wrote, spot_of}
use Rattle.unrank.specs.Written.{number_entries, WroteNumber}

abbrev gives : (written old : List ℕ) → Outcome
gives written old = tree_fits (length old) (length written)

module _ (rows : List Row) (accepting counts : List ℕ) (number : ℕ) (s : Spot) (e : s ≡ spot_of accepting counts number) where
  spot_entries : value_entries rows counts s.state s.value ≡ number_entries rows accepting counts number
  unfolding number_entries
  spot_entries = rw e

  needed_is : (n : ℕ) → n ≡ length (value_entries rows counts s.state s.value) → n ≡ length (number_entries rows accepting counts number)
  needed_is n o = o ∙ ap length spot_entries

  pub number_short : (n : ℕ) (old : List ℕ) (r : Result ℕ Refusal) → n ≡ length (value_entries rows counts s.state s.value) → length old < n → outcome r ≡ refused 16 n
      → WroteNumber rows accepting counts number old old r
  number_short n old r o l a =
      let z = needed_is n o in
      let f : gives (number_entries rows accepting counts number) old ≡ refused 16 (length (number_entries rows accepting counts number)) = rw (lt-ltb (length old) (length (number_entries rows accepting counts number)) (omega arith)) in
      record { answer = a ∙ ap (λ (k : ℕ). refused 16 k) z ∙ sym f; list = sym (ap (λ (o : Outcome). lent_after o (number_entries rows accepting counts number) old) f) }

  pub number_fits : (n m : ℕ) (old new : List ℕ) (r : Result ℕ Refusal) → n ≡ length (value_entries rows counts s.state s.value) → n ≤ length old → outcome r ≡ result n
      → Wrote rows counts s.state s.value old new m → WroteNumber rows accepting counts number old new r
  number_fits n m old new r o l a w =
      let z = needed_is n o in
      let f : gives (number_entries rows accepting counts number) old ≡ result (length (number_entries rows accepting counts number)) = rw (le-ltb (length old) (length (number_entries rows accepting counts number)) (omega arith)) in
      record {
        answer = a ∙ ap result z ∙ sym f;
        list =
            w.holds
            ∙ ap (λ (k : ℕ). value_entries rows counts s.state s.value ++ drop k old) w.many
            ∙ ap (λ (l : List ℕ). l ++ drop (length l) old) spot_entries
            ∙ sym (ap (λ (o : Outcome). lent_after o (number_entries rows accepting counts number) old) f);
      }
