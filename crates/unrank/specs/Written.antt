-- What writing the tree of a number leaves. Assumes nothing: these are definitions.
use Rattle.std.specs.Prelude.{ℕ, ◌≡◌, not, List, length, ltb, if◌then◌else◌, Result}
use Rattle.model.specs.Answers.{Outcome, refused, outcome, lent_after}
use Rattle.model.specs.Table.{Row}
use Rattle.model.specs.Write.{tree_fits}
use Rattle.model.specs.declared.Refusal.{Refusal}
use Rattle.unrank.specs.Trees.{spot_of, value_entries}

-- the entries of the tree of a number, with the counts that are held
unfoldable pub number_entries : (rows : List Row) (accepting counts : List ℕ) (number : ℕ) → List ℕ
number_entries rows accepting counts number =
    let spot = spot_of accepting counts number in
    value_entries rows counts spot.state spot.value

-- writing a number below the total: the answer, and what the lent list then holds
pub record WroteNumber (rows : List Row) (accepting counts : List ℕ) (number : ℕ) (old new : List ℕ) (r : Result ℕ Refusal) : Type 0 where
  pub answer : outcome r ≡ tree_fits (length old) (length (number_entries rows accepting counts number))
  pub list : new ≡ lent_after (tree_fits (length old) (length (number_entries rows accepting counts number))) (number_entries rows accepting counts number) old

-- writing any number: 15, or the tree where it fits
abbrev pub write_below : (total number : ℕ) → Outcome → Outcome
write_below total number otherwise = if not (ltb number total) then refused 15 0 else otherwise

pub record WroteBelow (rows : List Row) (accepting counts : List ℕ) (total number : ℕ) (old new : List ℕ) (r : Result ℕ Refusal) : Type 0 where
  pub answer : outcome r ≡ write_below total number (tree_fits (length old) (length (number_entries rows accepting counts number)))
  pub list : new
      ≡ lent_after (write_below total number (tree_fits (length old) (length (number_entries rows accepting counts number)))) (number_entries rows accepting counts number) old
