-- Counts of at most 64 bits, or nothing. Assumes nothing: these are definitions.
use Rattle.std.specs.Prelude.{ℕ, ◌<◌, Option, SomeIff}
use Rattle.counts.specs.Marks.{ceiling}

-- n is kept: as it is where it has 64 bits, else as nothing (the laws `kept_within`, `kept_beyond`)
abbrev pub Is : (k : Option ℕ) (n : ℕ) → Type 0
Is k n = SomeIff k (n < ceiling) n
