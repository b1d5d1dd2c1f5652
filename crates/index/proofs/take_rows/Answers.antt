-- Row by row: tested by 2 to 5, then looked for among those before it and entered.
use Rattle.std.proofs.Common.{◌≡◌, ap, sym, ◌∙◌, Err, rules, arith}
use Rattle.model.specs.Answers.{refused, kind_number}
use Rattle.index.specs.declared.TakeError.TheVariants.{Refused}
use Rattle.rows.proofs.Walk.{stepped}
use Rattle.index.proofs.Taking.{Placed, placed_ok, placed_err, still_sized, taking_begins, taking_enters, taking_goes, taking_refuses, taking_stops, taking_ends}
use Rattle.index.proofs.take_rows.Goals as goal

pub loop-at-init : goal.loop-at-init
loop-at-init c = let p = c.requires in taking_begins _ _ _ _ _ p.room p.clear

pub returns-in_err-map_err : goal.returns-in_err-map_err
returns-in_err-map_err c =
    let f = c.in_err-map_err.field-0.0 in
    let e : c.from_residual.result ≡ Err (Refused f) = search rules in
    let p : Placed c.loop-at.n c.step_row.result c.map_err.result = search rules in
    let q = placed_err _ _ _ p f c.in_err-map_err.was in
    rw e (taking_stops c.loop-at.invariant c.loop-at-test.true _ f.kind f (ap (refused (kind_number f.kind)) q.1) (sym c.step_row.ensures ∙ q.0))

pub args_at-requires : goal.args_at-requires
args_at-requires c = (stepped _ _ _ _ (placed_ok c.loop-at.n _ _ (search rules) c.in_ok-map_err.was c.step_row.ensures)).whole

pub bounds-rows-at-in-loop-at : goal.bounds-rows-at-in-loop-at
bounds-rows-at-in-loop-at c = omega (arith, (stepped _ _ _ _ (placed_ok c.loop-at.n _ _ (search rules) c.in_ok-map_err.was c.step_row.ensures)).whole)

pub enter_row-requires : goal.enter_row-requires
enter_row-requires c =
    taking_enters c.loop-at.invariant c.loop-at-test.true c.requires.few (placed_ok c.loop-at.n _ _ (search rules) c.in_ok-map_err.was c.step_row.ensures) c.requires.multiplier (still_sized _ _ c.requires.sized c.loop-at.auto.heads) _ c.args_at.ensures

pub returns-in_err-enter_row : goal.returns-in_err-enter_row
returns-in_err-enter_row c =
    let e : c.from_residual-in_err-enter_row.result ≡ Err c.in_err-enter_row.field-0.0 = search rules in
    rw e (taking_refuses c.loop-at.invariant c.loop-at-test.true c.requires.few (placed_ok c.loop-at.n _ _ (search rules) c.in_ok-map_err.was c.step_row.ensures) _ _ c.args_at.ensures c.in_err-enter_row.field-0.0 c.in_err-enter_row.ensures)

pub loop-at-preserved : goal.loop-at-preserved
loop-at-preserved c =
    taking_goes c.loop-at.invariant c.loop-at-test.true c.requires.few (placed_ok c.loop-at.n _ _ (search rules) c.in_ok-map_err.was c.step_row.ensures) _ c.args_at.ensures (c.enter_row.ensures.enters c.in_ok-enter_row.was)

pub returns : goal.returns
returns c = taking_ends c.loop-at.invariant _ c.requires.multiplier (still_sized _ _ c.requires.sized c.loop-at.auto.heads) c.loop-at-test.false
