-- Choosing by tests, and by the first of several things that is faulty. Assumes nothing: these are definitions.
use Rattle.std.specs.Prelude.{ℕ, zero, suc, Bool, false, ◌||◌}
use Rattle.model.specs.Answers.{Outcome, refused}

-- a ground is given by its refusal's number; 0 says that none holds
unfoldable pub refuse_on : (number place : ℕ) → Outcome → Outcome
refuse_on zero place otherwise = otherwise
refuse_on (suc k) place otherwise = refused (suc k) place

-- "rows are taken in turn, and the first faulty row decides; its row number is the place"; "states are taken in turn from 0, the first
-- faulty state decides, and its number is the place": of n things, numbered from 0, the first for which a ground holds; where there is
-- none, what follows
unfoldable pub first_faulty : ℕ → (ℕ → ℕ) → Outcome → Outcome
first_faulty zero ground_of otherwise = otherwise
first_faulty (suc n) ground_of otherwise = first_faulty n ground_of (refuse_on (ground_of n) n otherwise)

-- some number below n has the property
unfoldable pub any_below : ℕ → (ℕ → Bool) → Bool
any_below zero p = false
any_below (suc n) p = any_below n p || p n
