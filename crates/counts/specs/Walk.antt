-- The rows along a chain of links. Assumes nothing: these are definitions.
use Rattle.std.specs.Prelude.{ℕ, ◌-◌, ◌≡◌, length, Option, Some, None}
use Rattle.std.specs.Iterator.{Count, at_most}
use Rattle.counts.specs.declared.RowsOfState.{RowsOfState}
use Rattle.counts.specs.Chain.{leads, Comes}

-- no more rows than stand from the link on
abbrev pub rows_left : RowsOfState → Count
rows_left s = at_most (length s.words.now - leads s.next (length s.words.now))

-- the row that the link leads to comes, with its word, and the words stay; none comes at the end
abbrev pub GivesRow : RowsOfState → Option (ℕ × ℕ) → RowsOfState → Type 0
GivesRow s None t = s.next ≡ 0
GivesRow s (Some (r, w)) t = Comes s.words.now s.next r w t.next × (t.words.now ≡ s.words.now)
