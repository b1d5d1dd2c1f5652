-- The entries passed that have trees are marked.
use Rattle.used.specs.Marked.{MarkedToo}
use Rattle.used.proofs.Marks.{some, picked}
use Rattle.used.proofs.mark_listed.Given as goal

abbrev pub invariant-loop-a : goal.invariant-loop-a
invariant-loop-a l = MarkedToo (picked l.list (some l.counts) l.a-index) l.initial.used l.used
