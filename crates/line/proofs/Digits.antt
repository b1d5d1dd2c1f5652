-- "decimal digits": which bytes they are, and what they stand for, by computation. Assumes nothing.
use Prim.Native.Nat.{ℕ}
use mathlib.Core.Path.{◌≡◌, refl}
use mathlib.Core.List.{[], ◌∷◌, map}
use Rattle.model.specs.Text.{ascii}
use Rattle.model.proofs.TermExamples.{bytes_with}
use Rattle.line.specs.Lines.{is_digit, number_after, number_in}

-- of all 256 bytes, these
pub digit_bytes : bytes_with is_digit 256 ≡ ascii "0123456789"
unfolding ascii bytes_with
digit_bytes = refl

-- a digit alone
pub digit_values : map (λ (b : ℕ). number_in (b ∷ [])) (ascii "0123456789") ≡ 0 ∷ 1 ∷ 2 ∷ 3 ∷ 4 ∷ 5 ∷ 6 ∷ 7 ∷ 8 ∷ 9 ∷ []
unfolding ascii number_in number_after
digit_values = refl

-- more of them: "leading zeros allowed"
pub digits_in : number_in (ascii "1234567890") ∷ number_in (ascii "0012") ∷ [] ≡ 1234567890 ∷ 12 ∷ []
unfolding ascii number_in number_after
digits_in = refl
