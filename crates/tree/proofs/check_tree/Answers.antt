use mathlib.Core.Path.{sym, ◌∙◌}
use Rattle.std.proofs.lemmas.Result.{err_from_is_err_and}
use Rattle.tree.proofs.Laws.{refused_here}
use Rattle.tree.proofs.check_tree.Goals as goal

pub returns-in_err-s : goal.returns-in_err-s
returns-in_err-s c =
    let p = err_from_is_err_and c.from_residual.result c.from_residual.ensures.1 in
    rw (p.1, p.2) (record { decided = refused_here c.loop-e.invariant c.loop-e-test.true _ (sym c.entry.ensures ∙ c.in_err-s.was) })
