use Rattle.std.proofs.Common.{rules}
use mathlib.Core.Path.{refl, sym, ap, ◌∙◌}
use Rattle.model.specs.Answers.{refused_by}
use Rattle.rank.proofs.Running.{running_begins, open_room, node_opens, top_room, close_room, close_fits, node_sticks, node_closes, some_read, end_sums, tree_ends}
use Rattle.rank.proofs.Numbering.number_formed.Goals as goal
use Rattle.rank.proofs.Numbering.number_formed.Goals.{in-Opens, in-Closes+in-Some}

pub loop-i-init : goal.loop-i-init
loop-i-init c = running_begins _ _ _ c.requires.0 c.requires.1 (refl, refl) (search rules)

pub open-requires : goal.open-requires
open-requires c = open_room c.loop-i.invariant c.loop-i-test.true c.from.ensures c.in-Opens.is

pub top-requires : goal.top-requires
top-requires c = top_room c.loop-i.invariant c.loop-i-test.true c.from.ensures c.in-Closes.is

pub close-requires : goal.close-requires
close-requires c = let top = c.top.ensures in rw (top.0, top.1, top.2) (close_fits c.loop-i.invariant c.loop-i-test.true c.from.ensures c.in-Closes.is)

pub returns-in_default : goal.returns-in_default
returns-in_default c =
    let top = c.top.ensures in
    ap refused_by c.new.ensures ∙ node_sticks c.loop-i.invariant c.loop-i-test.true c.from.ensures c.in-Closes.is (rw (top.0, top.1, top.2) at (sym c.close.ensures ∙ c.in_default.is))

pub close-requires-in-Closes : goal.close-requires-in-Closes
close-requires-in-Closes c = close_room c.loop-i.invariant c.loop-i-test.true c.from.ensures c.in-Closes.is

pub loop-i-preserved : goal.loop-i-preserved
loop-i-preserved c =
    elim c.match-from.branch [
      | in-Opens w ↦ rw (w.stack-is, w.open.ensures) (node_opens c.loop-i.invariant c.loop-i-test.true c.from.ensures w.in-Opens.is)
      | in-Closes+in-Some w ↦
          let top = w.top.ensures in
          rw (w.stack-is, w.close-in-Closes.ensures)
          (node_closes c.loop-i.invariant c.loop-i-test.true c.from.ensures w.in-Closes.is _ _ (rw (top.0, top.1, top.2) at (sym w.close.ensures ∙ w.in-Some.is)))
    ]

pub overflow_sub-tree : goal.overflow_sub-tree
overflow_sub-tree c = some_read c.loop-i.invariant c.loop-i-test.false

pub number_in-requires : goal.number_in-requires
number_in-requires c = end_sums c.loop-i.invariant c.loop-i-test.false

pub returns : goal.returns
returns c = c.number_in.ensures ∙ tree_ends c.loop-i.invariant c.loop-i-test.false
