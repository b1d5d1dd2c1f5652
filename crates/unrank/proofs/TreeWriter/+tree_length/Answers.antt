use native.Mathlib.Omega.{arith}
use mathlib.Core.Path.{◌∙◌}
use Rattle.unrank.proofs.ValueReady.{value_ready}
use Rattle.unrank.proofs.Children.{takes_of, going_begins, child_lower, child_valued, measure_begins, measure_next, measure_small, measure_ends}
use Rattle.unrank.proofs.TreeWriter.+tree_length.Goals as goal

pub children_of-child-items-requires-clause-shared : goal.children_of-child-items-requires-clause-shared
children_of-child-items-requires-clause-shared t c = (going_begins (value_ready c.args.self.now.ready c.requires) c.find_row-row.ensures).shared

pub loop-child-init : goal.loop-child-init
loop-child-init t c =
    let e = c.children_of-child-items.ensures in
    rw c.into_iter-child-iterator.ensures.into_iter_gives (
      e.counts,
      rw (e.states, e.parts.0, e.parts.1) (measure_begins (value_ready c.args.self.now.ready c.requires) c.find_row-row.ensures),
    )

pub tree_length-n-requires : goal.tree_length-n-requires
tree_length-n-requires t c =
    let x = value_ready c.args.self.now.ready c.requires in
    let g = c.loop-child.invariant.1.going in
    let k = takes_of c.loop-child.invariant.0 c.in-Some.ensures.steps in
    (omega (arith, child_lower x g k, c.decreases), child_valued x g k)

pub overflow_add-n : goal.overflow_add-n
overflow_add-n t c =
    omega (arith, measure_small (value_ready c.args.self.now.ready c.requires) c.loop-child.invariant.1 (takes_of c.loop-child.invariant.0 c.in-Some.ensures.steps) _ c.tree_length-n.ensures)

pub loop-child-preserved : goal.loop-child-preserved
loop-child-preserved t c = (
  c.in-Some.ensures.steps.1 ∙ c.loop-child.invariant.0,
  measure_next (value_ready c.args.self.now.ready c.requires) c.loop-child.invariant.1 (takes_of c.loop-child.invariant.0 c.in-Some.ensures.steps) _ c.tree_length-n.ensures,
)

pub returns : goal.returns
returns t c = measure_ends (value_ready c.args.self.now.ready c.requires) c.loop-child.invariant.1 c.in-None.ensures.steps
