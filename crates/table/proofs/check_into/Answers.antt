use Rattle.model.specs.Answers.{refused, refused_by}
-- One ground after the other, in the order of document 01.
use Rattle.std.proofs.Common.{◌≡◌, ℕ, Err, rules, refl, ap, ◌∙◌, arith}
use Rattle.model.proofs.Numbers.{kind_positive}
use Rattle.table.proofs.Outcomes.{too_many_lem, row_refused, entry_refused, refused_answer, states_ready, total_refused, total_passed}
use Rattle.table.proofs.Taken.{taken_fine, taken_room}
use Rattle.table.proofs.check_into.Goals as goal

pub returns-then-states-gt256 : goal.returns-then-states-gt256
returns-then-states-gt256 c = refused_answer _ ((ap refused_by c.new.ensures) ∙ too_many_lem _ _ _ c.if-states-gt256.true)

pub returns-in_err-checked : goal.returns-in_err-checked
returns-in_err-checked c =
    let f = c.in_err-checked.field-0.0 in
    let e : c.from_residual.result ≡ Err f = search rules in
    rw e (refused_answer f (row_refused _ _ _ c.if-states-gt256.false f.place _ (c.check_rows.ensures.stopped f c.in_err-checked.was) (kind_positive f.kind)))

pub returns-in_err-check_accepting : goal.returns-in_err-check_accepting
returns-in_err-check_accepting c =
    let f = c.in_err-check_accepting.field-0.0 in
    let e : c.from_residual-in_err-check_accepting.result ≡ Err f = search rules in
    let d = c.check_accepting.ensures in
    rw e (refused_answer f
    (ap (λ (k : ℕ). refused k f.place) (d.seventh f c.in_err-check_accepting.was)
    ∙ entry_refused _ _ _ c.if-states-gt256.false (taken_fine _ (c.check_rows.ensures.passed _ c.in_ok-checked.was)) _ (d.stopped f c.in_err-check_accepting.was)))

pub slice_bounds-check_states-end : goal.slice_bounds-check_states-end
slice_bounds-check_states-end c =
    omega (arith, (taken_room _ (c.check_rows.ensures.passed _ c.in_ok-checked.was) c.args.words.now c.check_rows.auto.words), c.check_rows.auto.words)

pub check_states-requires : goal.check_states-requires
check_states-requires c =
    states_ready _ _ _ c.if-states-gt256.false (c.check_rows.ensures.passed _ c.in_ok-checked.was)
    (c.check_accepting.ensures.passed c.in_ok-check_accepting.was) c.requires (taken_room _ (c.check_rows.ensures.passed _ c.in_ok-checked.was) c.args.words.now c.check_rows.auto.words)

pub returns-in_err-total : goal.returns-in_err-total
returns-in_err-total c =
    let f = c.in_err-total.field-0.0 in
    let e : c.from_residual-in_err-total.result ≡ Err f = search rules in
    rw e (total_refused _ _ _ c.if-states-gt256.false (c.check_rows.ensures.passed _ c.in_ok-checked.was)
    (c.check_accepting.ensures.passed c.in_ok-check_accepting.was) c.check_states.ensures f c.in_err-total.was)

pub returns : goal.returns
returns c =
    total_passed _ _ _ c.if-states-gt256.false (c.check_rows.ensures.passed _ c.in_ok-checked.was)
    (c.check_accepting.ensures.passed c.in_ok-check_accepting.was) c.check_states.ensures _ c.in_ok-total.was _ refl
