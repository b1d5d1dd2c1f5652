-- Marks of states: one number that tells how many trees a state has and how long the longest is. Assumes nothing: these are definitions.
use Rattle.std.specs.Prelude.{ℕ, ◌/◌, ◌%◌, ◌^◌, ◌<◌, ◌≤◌, ◌≡◌, Bool, ◌⊎◌, leb}

-- the largest number of 64 bits, and the first beyond
abbrev pub top : ℕ
top = 18446744073709551615

abbrev pub ceiling : ℕ
ceiling = 18446744073709551616

-- lengths have a ceiling of their own: the first number above the 4,096 entries that a used state's longest tree may have
abbrev pub long_ceiling : ℕ
long_ceiling = 4097

-- the parts of a mark: the entries of the longest tree, the bits of the count (4,096 for a count beyond 64 bits), 1 for no trees
abbrev pub long_in : ℕ → ℕ
long_in m = m % 1048576

abbrev pub bits_in : ℕ → ℕ
bits_in m = m / 1048576 % 1048576

abbrev pub empty_in : ℕ → ℕ
empty_in m = m / 1099511627776

-- whether the count is beyond 64 bits, and that as a number: what stands above the 64 bits of the count
abbrev pub over_in : ℕ → Bool
over_in m = leb 4096 (bits_in m)

abbrev pub over_of : ℕ → ℕ
over_of m = bits_in m / 4096

-- each part has its room: sums of sixteen keep the parts apart
pub record Roomy (m : ℕ) : Type 0 where
  pub long : long_in m ≤ long_ceiling
  pub bits : bits_in m ≤ 4096
  pub empty : empty_in m ≤ 1

-- the mark tells of a state that counts so (kept to 2^64) and whose longest tree has so many entries
pub record Tells (m whole long : ℕ) : Type 0 where
  pub roomy : Roomy m
  pub none : 0 < empty_in m → (whole ≡ 0) × (long_in m ≡ 0)
  pub some : empty_in m ≡ 0 → (0 < whole) × (long_in m ≡ long)
  pub bits : ((bits_in m ≤ 64) × (whole ≤ 2 ^ bits_in m) × (whole ≤ top)) ⊎ ((bits_in m ≡ 4096) × (ceiling ≤ whole))
