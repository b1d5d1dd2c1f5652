-- The lines along a chain of links. Assumes nothing: these are definitions.
use Rattle.std.specs.Prelude.{ℕ, ◌-◌, ◌≤◌, ◌≡◌, List, get_or, Option, Some, None}
use Rattle.std.specs.Iterator.{Count, at_most}
use Rattle.names.specs.declared.BucketLines.{BucketLines}

-- no more lines than the link says
abbrev pub lines_left : BucketLines → Count
lines_left s = at_most s.link

-- the line that the link leads to comes, and its link is next; none comes at the end
pub record Comes (links : List ℕ) (link k after : ℕ) : Type 0 where
  pub here : 1 ≤ link
  pub line : k ≡ link - 1
  pub next : after ≡ get_or links k 0

abbrev pub GivesLine : BucketLines → Option ℕ → BucketLines → Type 0
GivesLine s None t = s.link ≡ 0
GivesLine s (Some k) t = Comes s.links.now s.link k t.link × (t.links.now ≡ s.links.now)
