use borrow.Author.Rules.{rules}
use Prim.Native.Nat.{◌-◌}
use mathlib.Core.Path.{refl, ◌∙◌}
use lib.ListN.{length}
use borrow.Rule.Slice.PartMut.{same_len_mid}
use Rattle.line.proofs.Gathering.{gathers_first, gathers_more}
use Rattle.line.proofs.Lists.gather.Goals as goal

pub loop-i-init : goal.loop-i-init
loop-i-init c = (gathers_first _ _ _ _ _ _ _ _ (search rules), refl)

pub loop-i-preserved : goal.loop-i-preserved
loop-i-preserved c = (
  gathers_more c.loop-i.invariant.0 _ _ _ _ _ c.feed_line-fed.ensures.from_lt_next.0 c.feed_line-fed.ensures.from_lt_next.1 c.feed_line-fed.ensures.within c.feed_line-fed.ensures.by_index,
  same_len_mid c.loop-i.filled (length c.loop-i.out - c.loop-i.filled) c.loop-i.out c.feed_line-fed.new.out c.feed_line-fed.auto.out ∙ c.loop-i.invariant.1,
)
