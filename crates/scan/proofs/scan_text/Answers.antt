use Rattle.std.proofs.Common.{sym, ◌∙◌}
use Rattle.std.proofs.lemmas.Result.{err_from_is_err_and}
use Rattle.scan.proofs.Laws.{goes_on_lem, stops_here, is_term, too_soon}
use Rattle.scan.proofs.scan_text.Goals as goal

pub returns-in_err-r : goal.returns-in_err-r
returns-in_err-r c =
    let p = err_from_is_err_and c.from_residual.result c.from_residual.ensures.1 in
    rw (p.1, p.2) (stops_here c.loop-i.invariant c.loop-i-test.true _ _ c.step.ensures c.new.ensures _ (sym c.ok_or.ensures.value ∙ c.in_err-r.was))

pub loop-i-preserved : goal.loop-i-preserved
loop-i-preserved c = goes_on_lem c.loop-i.invariant c.loop-i-test.true _ _ c.step.ensures _ (sym c.ok_or.ensures.value ∙ c.in_ok-r.was)

pub returns-then-may_end : goal.returns-then-may_end
returns-then-may_end c = is_term c.loop-i.invariant c.loop-i-test.false (sym c.may_end.ensures ∙ c.if-may_end.true)

pub returns-else-may_end : goal.returns-else-may_end
returns-else-may_end c = too_soon c.loop-i.invariant c.loop-i-test.false (sym c.may_end.ensures ∙ c.if-may_end.false) _ c.new-else-may_end.ensures
