-- Past the first test the row is whole.
use mathlib.Core.Path.{sym, ◌∙◌}
use native.Mathlib.Omega.{arith}
use Rattle.model.proofs.Checked.{not_cut}
use Rattle.rows.specs.Walk.{row_step}
use Rattle.rows.proofs.Walk.{whole_step}
use Rattle.rows.proofs.step_row.Goals as goal

pub returns-then-is_cut : goal.returns-then-is_cut
unfolding row_step
returns-then-is_cut c = simp (sym c.is_cut.ensures ∙ c.if-is_cut.true)

pub bounds-rows-at-2 : goal.bounds-rows-at-2
bounds-rows-at-2 c = omega (arith, (not_cut _ _ (sym c.is_cut.ensures ∙ c.if-is_cut.false)))

pub args_at-requires : goal.args_at-requires
args_at-requires c = not_cut _ _ (sym c.is_cut.ensures ∙ c.if-is_cut.false)

pub returns : goal.returns
returns c =
    let a = c.args in
    whole_step a.states a.rows.now a.i a.at _ _ (sym c.is_cut.ensures ∙ c.if-is_cut.false) c.args_at.ensures c.row_fault.ensures
