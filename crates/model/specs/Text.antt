-- Texts as bytes. Assumes nothing: these are definitions.
use Rattle.std.specs.Prelude.{ℕ, List, [], ◌∷◌}
use Prim.Native.Char.{code}
use Prim.Native.String.{String, [] as no_text, ◌∷◌ as and_text}

-- the bytes of an ASCII text
unfoldable pub ascii : String → List ℕ
ascii no_text = []
ascii (and_text c cs) = code c ∷ ascii cs
