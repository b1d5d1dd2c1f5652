-- The check, and what follows it by the task.
use Rattle.std.proofs.Common.{◌≡◌, Err, rules, refl, arith}
use Rattle.operations.proofs.Laws.{blank, prepares_so, for_task, check_refused, number_ready, number_answers, write_ready, write_answers}
use Rattle.operations.proofs.answer_in.Goals as goal

pub check_into-requires : goal.check_into-requires
check_into-requires g c = blank _ _ _ c.requires.rows_room c.requires.sized c.requires.states_room

pub shared_whole_as_front-held : goal.shared_whole_as_front-held
shared_whole_as_front-held g c = omega (arith, (c.check_into.ensures.passed _ c.in_ok-checked.was).long, c.check_into.auto.words)

pub new-numbering-requires : goal.new-numbering-requires
new-numbering-requires g c = number_ready c.check_into.ensures c.args.out.now _ _ _ c.in_ok-checked.was (prepares_so c.prepares.ensures c.in-Number.is refl)

pub new-writer-requires : goal.new-writer-requires
new-writer-requires g c = write_ready c.check_into.ensures c.args.out.now _ _ _ c.in_ok-checked.was

pub returns-in_err-checked : goal.returns-in_err-checked
returns-in_err-checked g c =
    let f = c.in_err-checked.field-0.0 in
    let e : c.from_residual.result ≡ Err f = search rules in
    rw e (check_refused c.check_into.ensures _ _ f c.in_err-checked.was)

pub returns-in-Number : goal.returns-in-Number
returns-in-Number g c =
    let e = c.new-numbering.ensures in
    for_task c.in-Number.is (number_answers c.check_into.ensures _ _ _ _ c.in_ok-checked.was (prepares_so c.prepares.ensures c.in-Number.is refl) _ _ (rw (e.0, e.3, e.4, e.5) at c.number.ensures))

pub returns-in-Write : goal.returns-in-Write
returns-in-Write g c =
    let e = c.new-writer.ensures in
    for_task c.in-Write.is (write_answers c.check_into.ensures _ _ _ _ c.in_ok-checked.was _ _ _ (rw (e.0, e.1, e.3, e.4, e.6) at c.write.ensures))
