use Rattle.std.proofs.Common.{◌≡◌, ◌∙◌, sym, Err, rules}
use Rattle.line.specs.Lines.{decimal}
use Rattle.line.proofs.Outcomes.{begins_as, read_fits_lem, number_shown, number_turned, result_shown, refusal_shown}
use Rattle.line.proofs.Lists.answer_term.Goals as goal

pub returns-in_err-count : goal.returns-in_err-count
returns-in_err-count c =
    let e : c.from_residual.result ≡ Err c.in_err-count.field-0.0 = search rules in
    rw e (number_turned c.read_term.ensures c.told-tree _ _ _ _ c.in_err-count.was)

pub shared_ref_as_front-number : goal.shared_ref_as_front-number
shared_ref_as_front-number c = read_fits_lem c.read_term.ensures c.told-tree _ c.in_ok-count.was

pub returns-in_err-number : goal.returns-in_err-number
returns-in_err-number c =
    let e : c.from_residual-in_err-number.result ≡ Err c.in_err-number.field-0.0 = search rules in
    rw e (number_shown c.read_term.ensures c.told-tree _ _ _ _ c.in_ok-count.was ∙ refusal_shown c.number.ensures decimal _ c.in_err-number.was)

pub returns : goal.returns
returns c = begins_as (sym (number_shown c.read_term.ensures c.told-tree _ _ _ _ c.in_ok-count.was ∙ result_shown c.number.ensures decimal _ c.in_ok-number.was)) c.put_number.ensures
