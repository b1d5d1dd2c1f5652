-- The hash of a row: its symbol and argument count, and its arguments, four at a time. Assumes nothing: these are definitions.
use Rattle.std.specs.Prelude.{ℕ, ◌+◌, ◌*◌, ◌/◌, ◌%◌, ◌<◌, ◌≤◌, List, [], ◌∷◌}

-- two arguments as one number, and four: those below 256 fill 32 bits
abbrev pub two : ℕ → ℕ → ℕ
two a b = a + b * 65536

abbrev pub four : ℕ → ℕ → ℕ → ℕ → ℕ
four a b c d = two a b + two c d * 256

-- arguments four at a time, then two, then one
unfoldable pub fours : List ℕ → List ℕ
fours [] = []
fours (a ∷ []) = a ∷ []
fours (a ∷ b ∷ []) = two a b ∷ []
fours (a ∷ b ∷ c ∷ []) = two a b ∷ c ∷ []
fours (a ∷ b ∷ c ∷ d ∷ xs) = four a b c d ∷ fours xs

-- one number more in a hash by a multiplier
abbrev pub mix : (by h x : ℕ) → ℕ
mix by h x = (h * by + x) % 4294967296

-- all numbers, from the first
unfoldable pub mix_all : (by h : ℕ) → List ℕ → ℕ
mix_all by h [] = h
mix_all by h (x ∷ xs) = mix_all by (mix by h x) xs

-- one of `size` buckets, by the low 32 bits of a last product
abbrev pub spread_over : (by size h : ℕ) → ℕ
spread_over by size h = h * by % 4294967296 * size / 4294967296

-- the bucket of a key, which is symbol + 256 * count, and arguments
unfoldable pub hash_of : (by size key : ℕ) → List ℕ → ℕ
hash_of by size key xs = spread_over by size (mix_all by key (fours xs))

-- a multiplier with which no sum goes beyond 64 bits; which one it is, is of no account for any answer
abbrev pub Multiplier : ℕ → Type 0
Multiplier by = by < 3221225472

-- so many buckets
abbrev pub Sized : ℕ → Type 0
Sized size = (0 < size) × (size ≤ 65536)
