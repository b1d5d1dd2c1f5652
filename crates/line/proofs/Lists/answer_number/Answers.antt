use Rattle.std.proofs.Common.{◌≡◌, ◌∙◌, sym, Err, rules, arith}
use Rattle.line.proofs.Outcomes.{begins_as, wrote_fits, term_shown, term_turned, text_fits, term_told, line_end, result_shown, refusal_shown}
use Rattle.line.proofs.Lists.answer_number.Goals as goal

pub returns-in_err-count : goal.returns-in_err-count
returns-in_err-count c =
    let e : c.from_residual.result ≡ Err c.in_err-count.field-0.0 = search rules in
    rw e (term_turned c.write.ensures c.told-tree _ _ c.in_err-count.was)

pub shared_ref_as_front-write_term : goal.shared_ref_as_front-write_term
shared_ref_as_front-write_term c = wrote_fits c.write.ensures c.told-tree _ c.in_ok-count.was

pub returns-in_err-end : goal.returns-in_err-end
returns-in_err-end c =
    let e : c.from_residual-in_err-end.result ≡ Err c.in_err-end.field-0.0 = search rules in
    rw e (term_shown c.write.ensures c.told-tree _ _ c.in_ok-count.was ∙ refusal_shown (term_told c.write_term.ensures (search rules)) _ _ c.in_err-end.was)

pub bounds-out-end : goal.bounds-out-end
bounds-out-end c = omega (arith, text_fits c.write_term.ensures (search rules) _ c.in_ok-end.was)

pub overflow_add-result : goal.overflow_add-result
overflow_add-result c = omega (arith, text_fits c.write_term.ensures (search rules) _ c.in_ok-end.was)

pub returns : goal.returns
returns c =
    begins_as (sym (term_shown c.write.ensures c.told-tree _ _ c.in_ok-count.was ∙ result_shown (term_told c.write_term.ensures (search rules)) _ _ c.in_ok-end.was))
    (line_end c.write_term.ensures (search rules) _ c.in_ok-end.was (search rules))
