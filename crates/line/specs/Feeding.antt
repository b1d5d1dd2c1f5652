-- A line that is fed. Assumes nothing: these are definitions.
use Rattle.std.specs.Prelude.{ℕ, List}
use Rattle.line.specs.Held.{HoldsIn, Begins, held_after, put_for}
use Rattle.line.specs.declared.Line.{Line}

-- the line holds these bytes, of a line that is not ended
abbrev pub Holds : (bytes : List ℕ) → Line → Type 0
Holds bytes line = HoldsIn bytes line.text line.len line.number

-- bytes are fed to a line that holds others: what is held afterwards, and the list begins with what is put for them
pub record Prints (states : ℕ) (rows accepting names : List ℕ) (held bytes : List ℕ) (line : Line) (out : List ℕ) (count : ℕ) : Type 0 where
  pub holds : Holds (held_after held bytes) line
  pub puts : Begins out (put_for states rows accepting names held bytes) count
