-- Two words at the bytes where setting a bit would go wrong, by computation. Assumes nothing.
use mathlib.Core.Path.{◌≡◌, refl}
use mathlib.Core.Bool.{true, false}
use Rattle.model.specs.Names.{lower, alike}
use Rattle.words.specs.Words.{places_alike, words_alike}

-- `GoToMain` and `gOtOmAIN`; then `@` and a grave accent, `[` and `{`, `_` and byte 127, `0` and byte 16, 193 and 225, 0 and 32, each in the eighth place or the fifth
pub word_examples : (words_alike 0x6e69_614d_6f54_6f47 0x4e49_416d_4f74_4f67 ≡ true)
    × (words_alike 0x4069_614d_6f54_6f47 0x6069_614d_6f54_6f47 ≡ false) × (words_alike 0x6e69_615b_6f54_6f47 0x6e69_617b_6f54_6f47 ≡ false)
    × (words_alike 0x5f69_614d_6f54_6f47 0x7f69_614d_6f54_6f47 ≡ false) × (words_alike 0x3069_614d_6f54_6f47 0x1069_614d_6f54_6f47 ≡ false)
    × (words_alike 0xc169_614d_6f54_6f47 0xe169_614d_6f54_6f47 ≡ false) × (words_alike 0 0x2000_0000_0000_0000 ≡ false)
unfolding lower alike places_alike words_alike
word_examples = (refl, refl, refl, refl, refl, refl, refl)
