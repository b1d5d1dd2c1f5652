-- The measure is the state's number: a child's state is a lower one.
use mathlib.Core.Path.{◌≡◌}
use Rattle.rows.specs.Listed.{all_rows}
use Rattle.unrank.proofs.Children.{Measuring}
use Rattle.unrank.proofs.TreeWriter.+tree_length.Given as goal

abbrev pub decreases-tree_length : goal.decreases-tree_length
decreases-tree_length l = l.spot.state

abbrev pub invariant-loop-child : goal.invariant-loop-child
invariant-loop-child l =
    (l.child-iterator.counts.now ≡ l.self.counts.now)
    × Measuring (all_rows l.self.by_target.rows) l.self.counts.now l.fn.spot.state l.fn.spot.value l.child-iterator.states.now l.child-iterator.weight l.child-iterator.rest l.n
