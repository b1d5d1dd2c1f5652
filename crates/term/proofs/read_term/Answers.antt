use Rattle.std.proofs.lemmas.Result.{err_from_is_err_and}
use Rattle.term.proofs.Outcomes.{gave_faulty, gave_sound, read_told}
use Rattle.term.proofs.read_term.Goals as goal

pub returns-in_err-list : goal.returns-in_err-list
returns-in_err-list c =
    let p = err_from_is_err_and c.from_residual.result c.from_residual.ensures.1 in
    rw (p.1, p.2) (read_told (gave_faulty c.args.names.now c.check.ensures.decided _ _ c.in_err-list.was))

pub returns : goal.returns
returns c =
    let same = rw c.in_ok-list.was at c.check.ensures.of_names in
    read_told (gave_sound c.args.names.now c.check.ensures.decided _ _ c.in_ok-list.was (rw same at c.read_named.ensures))
