-- The children of a row in turn. Assumes nothing: these are definitions.
use Rattle.std.specs.Prelude.{◌≡◌, length, [], Option, Some, None}
use Rattle.std.specs.Iterator.{Count, at_most}
use Rattle.unrank.specs.declared.ChildrenOfRow.{ChildrenOfRow}
use Rattle.unrank.specs.declared.Spot.{Spot}
use Rattle.unrank.specs.Trees.{TakesChild}

abbrev pub children_left : ChildrenOfRow → Count
children_left s = at_most (length s.states.now)

-- the first child comes, and the counts stay; none comes at the end
abbrev pub GivesChild : ChildrenOfRow → Option Spot → ChildrenOfRow → Type 0
GivesChild s None t = s.states.now ≡ []
GivesChild s (Some child) t = TakesChild s.counts.now s.states.now s.weight s.rest child t.states.now t.weight t.rest × (t.counts.now ≡ s.counts.now)
