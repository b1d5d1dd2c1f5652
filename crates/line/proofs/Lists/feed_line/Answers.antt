use Rattle.std.proofs.Common.{refl}
use Rattle.line.proofs.Walking.{ends_at, ends_none, walks_out, walks_end}
use Rattle.line.proofs.Lists.feed_line.Goals as goal

pub returns-in_default-clause-by_index : goal.returns-in_default-clause-by_index
returns-in_default-clause-by_index c held x = walks_out (ends_none _ _ c.requires.from_in_bounds.0 (rw c.in_default.is at c.line_end.ensures)) _ _ _ _ held _ (c.feed.ensures held x) _ refl _

pub returns-clause-by_index : goal.returns-clause-by_index
returns-clause-by_index c held x =
    let e = ends_at _ _ c.requires.from_in_bounds.0 _ (rw c.in-Some.is at c.line_end.ensures) in
    walks_end e.0 _ _ _ _ held e.1 e.2 _ c.clear.ensures _ _ (c.answer-n.ensures.begins _ (c.feed-2.ensures held x))
