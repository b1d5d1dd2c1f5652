-- The rows of the state are taken along their chain; where all states below it that have trees are marked, the rows that are left mark
-- nothing new.
use mathlib.Core.Path.{◌∙◌}
use Rattle.counts.proofs.Chain.{comes_of}
use Rattle.used.proofs.Turn.{taking_ends, turn_begins, turn_stops, row_placed, turn_goes}
use Rattle.used.proofs.Counts.mark_rows.Goals as goal

pub loop-word-init : goal.loop-word-init
loop-word-init c =
    rw c.into_iter-word-iterator.ensures.into_iter_gives
    (c.rows_of-word-items.ensures.words, turn_begins _ _ c.args.by_target.now.chained c.requires _ c.rows_of-word-items.ensures.first)

pub returns-then-q-n : goal.returns-then-q-n
returns-then-q-n c = turn_stops _ _ c.args.by_target.now.chained c.requires c.loop-word.invariant.1 c.if-q-n.true

pub mark_row-requires : goal.mark_row-requires
mark_row-requires c =
    row_placed _ _ c.args.by_target.now.chained c.requires c.loop-word.invariant.1
    (comes_of c.loop-word.invariant.0 c.in-Some.ensures.steps) _ c.args_in-args.ensures

pub loop-word-preserved : goal.loop-word-preserved
loop-word-preserved c = (
  c.in-Some.ensures.steps.1 ∙ c.loop-word.invariant.0,
  turn_goes _ _ c.args.by_target.now.chained c.requires c.loop-word.invariant.1
      (comes_of c.loop-word.invariant.0 c.in-Some.ensures.steps) _ c.args_in-args.ensures _ c.mark_row.ensures _ c.pass_marked-n.ensures,
)

pub returns : goal.returns
returns c = taking_ends _ _ _ _ _ _ _ c.loop-word.invariant.1 c.in-None.ensures.steps
