-- The rows of the state are walked along their chain, to the last that does not begin above the value.
use native.Mathlib.Omega.{arith}
use mathlib.Core.Path.{◌∙◌}
use Rattle.counts.proofs.Chain.{comes_of}
use Rattle.unrank.proofs.ValueReady.{value_ready}
use Rattle.unrank.proofs.Rows.{some_row, walk_begins, next_summed, enters_here, walk_next, enters_last}
use Rattle.unrank.proofs.TreeWriter.find_row.Goals as goal

pub rows_of-rows-requires : goal.rows_of-rows-requires
rows_of-rows-requires c = (value_ready c.args.self.now.ready c.requires).first_place

pub unreachable-requires : goal.unreachable-requires
unreachable-requires c = absurd (omega (arith, some_row (value_ready c.args.self.now.ready c.requires), c.in_default.ensures.steps, c.rows_of-rows.ensures.first))

pub loop-r-init : goal.loop-r-init
loop-r-init c =
    rw c.into_iter-r-iterator.ensures.into_iter_gives (
      c.in-Some.ensures.steps.1 ∙ c.rows_of-rows.ensures.words,
      walk_begins (value_ready c.args.self.now.ready c.requires) c.rows_of-rows.ensures.first (comes_of c.rows_of-rows.ensures.words c.in-Some.ensures.steps),
    )

pub bounds-self-r : goal.bounds-self-r
bounds-self-r c = next_summed (value_ready c.args.self.now.ready c.requires) c.loop-r.invariant.1 (comes_of c.loop-r.invariant.0 c.in-Some-2.ensures.steps)

pub returns-then-value-end : goal.returns-then-value-end
returns-then-value-end c =
    enters_here (value_ready c.args.self.now.ready c.requires) c.loop-r.invariant.1 (comes_of c.loop-r.invariant.0 c.in-Some-2.ensures.steps) c.if-value-end.true

pub loop-r-preserved : goal.loop-r-preserved
loop-r-preserved c = (
  c.in-Some-2.ensures.steps.1 ∙ c.loop-r.invariant.0,
  walk_next (value_ready c.args.self.now.ready c.requires) c.loop-r.invariant.1 (comes_of c.loop-r.invariant.0 c.in-Some-2.ensures.steps) c.if-value-end.false,
)

pub returns : goal.returns
returns c = enters_last (value_ready c.args.self.now.ready c.requires) c.loop-r.invariant.1 c.in-None.ensures.steps
