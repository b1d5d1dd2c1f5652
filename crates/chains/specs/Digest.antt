-- One step of a digest. Assumes nothing: these are definitions.
use Rattle.std.specs.Prelude.{ℕ, ◌*◌, ◌/◌, ◌%◌}
use Rattle.std.specs.Int.Bits.{bit_xor}

-- a word and what the digest was, each by a factor
abbrev pub product_by : (a b h w : ℕ) → ℕ
product_by a b h w = bit_xor (bit_xor h w % 4294967296 * a) (w / 4294967296 * b)

-- one word more in a digest
abbrev pub mixed_by : (a b h w : ℕ) → ℕ
mixed_by a b h w = bit_xor (product_by a b h w) (product_by a b h w / 4294967296)
