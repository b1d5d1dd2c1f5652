-- The first number with a property, and the first with a ground for a refusal. Assumes nothing: these are definitions.
use Rattle.std.specs.Prelude.{ℕ, zero, suc, ◌<◌, ◌≡◌, Bool, true, false, Option, Some, None}

-- what was found before, or else k where the test holds
unfoldable pub or_else : Option ℕ → Bool → ℕ → Option ℕ
or_else (Some r) t k = Some r
or_else None true k = Some k
or_else None false k = None

-- the first number below n with the property
unfoldable pub first_with : (ℕ → Bool) → ℕ → Option ℕ
first_with p zero = None
first_with p (suc n) = or_else (first_with p n) (p n) n

-- all of n things are without a ground
abbrev pub AllFine : ℕ → (ℕ → ℕ) → Type 0
AllFine n ground_of = (i : ℕ) → i < n → ground_of i ≡ 0

-- thing i is the first of n for which a ground holds, the one of this number
pub record FirstAt (n : ℕ) (ground_of : ℕ → ℕ) (i number : ℕ) : Type 0 where
  pub inside : i < n
  pub before : AllFine i ground_of
  pub here : ground_of i ≡ number
