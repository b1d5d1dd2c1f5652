use native.Mathlib.Omega.{arith}
use mathlib.Core.Path.{refl, ◌∙◌}
use Rattle.unrank.proofs.ValueReady.{value_ready}
use Rattle.unrank.proofs.Children.{takes_of, going_begins, child_lower, child_valued}
use Rattle.unrank.proofs.Writing.{some_entry, tree_begins, child_room, tree_next, tree_ends}
use Rattle.unrank.proofs.TreeWriter.+write_tree.Goals as goal

pub bounds-out-0 : goal.bounds-out-0
bounds-out-0 t c = omega (arith, some_entry c.find_row-row.ensures, c.requires.value_in_bounds)

pub children_of-child-items-requires-clause-shared : goal.children_of-child-items-requires-clause-shared
children_of-child-items-requires-clause-shared t c = (going_begins (value_ready c.args.self.now.ready c.requires.value_below) c.find_row-row.ensures).shared

pub loop-child-init : goal.loop-child-init
loop-child-init t c =
    let e = c.children_of-child-items.ensures in
    rw c.into_iter-child-iterator.ensures.into_iter_gives (
      e.counts,
      rw (e.states, e.parts.0, e.parts.1, c.symbol_in.ensures)
          (tree_begins (value_ready c.args.self.now.ready c.requires.value_below) c.find_row-row.ensures c.args.out.now c.requires.value_in_bounds),
    )

pub write_tree-at-requires : goal.write_tree-at-requires
write_tree-at-requires t c =
    let x = value_ready c.args.self.now.ready c.requires.value_below in
    let g = c.loop-child.invariant.1 in
    let k = takes_of c.loop-child.invariant.0 c.in-Some.ensures.steps in
    (omega (arith, child_lower x g.going k, c.decreases), (child_valued x g.going k, child_room x g k))

pub loop-child-preserved : goal.loop-child-preserved
loop-child-preserved t c = (
  c.in-Some.ensures.steps.1 ∙ c.loop-child.invariant.0,
  tree_next (value_ready c.args.self.now.ready c.requires.value_below) c.loop-child.invariant.1 (takes_of c.loop-child.invariant.0 c.in-Some.ensures.steps) _ _ c.write_tree-at.ensures,
)

pub returns : goal.returns
returns t c = tree_ends (value_ready c.args.self.now.ready c.requires.value_below) c.loop-child.invariant.1 c.in-None.ensures.steps c.args.out.now _ refl
