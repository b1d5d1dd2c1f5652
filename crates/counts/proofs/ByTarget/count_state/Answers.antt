-- The rows of the state are counted along their chain; each turn counts the row that comes.
use mathlib.Core.Path.{◌∙◌}
use Rattle.counts.specs.States.{MarksTell}
use Rattle.counts.proofs.Chain.{comes_of}
use Rattle.counts.proofs.Marks.{marks_placed, weighable}
use Rattle.counts.proofs.States.{marked_here, state_goes, state_begins, state_ends}
use Rattle.counts.proofs.ByTarget.count_state.Goals.{After-args_in-args}
use Rattle.counts.proofs.ByTarget.count_state.Goals as goal

marked : (c : After-args_in-args) → MarksTell c.args.counts.now c.args.marks.now c.args_in-args.result.now
marked c = marked_here _ c.args.self.now.chained c.requires c.loop-r.invariant.1 (comes_of c.loop-r.invariant.0 c.in-Some.ensures.steps) _ c.args_in-args.ensures

pub loop-r-init : goal.loop-r-init
loop-r-init c =
    rw c.into_iter-r-iterator.ensures.into_iter_gives
    (c.rows_of-r-items.ensures.words, state_begins _ _ c.args.self.now.chained c.requires _ c.rows_of-r-items.ensures.first)

pub row_sum-s-requires : goal.row_sum-s-requires
row_sum-s-requires c = marks_placed (marked (goal.at.row_sum-s-requires c).After-args_in-args)

pub row_weight-requires : goal.row_weight-requires
row_weight-requires c = weighable (marked (goal.at.row_weight-requires c).After-args_in-args) c.row_sum-s.ensures

pub loop-r-preserved : goal.loop-r-preserved
loop-r-preserved c =
    rw c.unwrap_or.ensures (
      c.in-Some.ensures.steps.1 ∙ c.loop-r.invariant.0,
      state_goes _ c.args.self.now.chained c.requires c.loop-r.invariant.1 (comes_of c.loop-r.invariant.0 c.in-Some.ensures.steps)
          _ c.args_in-args.ensures _ _ c.row_weight.result c.plus-count.result c.row_sum-s.ensures c.row_weight.ensures c.plus-count.ensures c.longer_of-long.ensures,
    )

pub returns : goal.returns
returns c = state_ends _ _ _ _ _ c.loop-r.invariant.1 c.in-None.ensures.steps c.min.ensures
