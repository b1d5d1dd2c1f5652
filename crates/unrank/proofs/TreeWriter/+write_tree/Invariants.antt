-- The measure is the state's number: a child's state is a lower one.
use mathlib.Core.Path.{◌≡◌}
use Rattle.rows.specs.Listed.{all_rows}
use Rattle.unrank.proofs.Writing.{WritingTree}
use Rattle.unrank.proofs.TreeWriter.+write_tree.Given as goal

abbrev pub decreases-write_tree : goal.decreases-write_tree
decreases-write_tree l = l.spot.state

abbrev pub invariant-loop-child : goal.invariant-loop-child
invariant-loop-child l =
    (l.child-iterator.counts.now ≡ l.self.counts.now)
    × WritingTree (all_rows l.self.by_target.rows) l.self.counts.now l.fn.spot.state l.fn.spot.value l.initial.out l.out l.child-iterator.states.now l.child-iterator.weight l.child-iterator.rest l.at
