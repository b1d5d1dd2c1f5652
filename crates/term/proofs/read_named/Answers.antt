use mathlib.Core.Path.{refl, ap}
use native.Mathlib.Omega.{arith}
use Rattle.std.proofs.lemmas.Result.{err_from_is_err_and}
use Rattle.term.specs.Pass.{counted}
use Rattle.term.proofs.Outcomes.{cleared, gave_refused, told_refused, told_gave}
use Rattle.term.proofs.read_named.Goals as goal

pub read_text-requires : goal.read_text-requires
read_text-requires c = record { short = omega arith; cleared = (cleared, refl) }

pub returns-in_err-read_text : goal.returns-in_err-read_text
returns-in_err-read_text c =
    let p = err_from_is_err_and c.from_residual.result c.from_residual.ensures.1 in
    rw (p.1, p.2) (gave_refused _ _ refl (told_refused c.read_text.ensures _ (omega arith) _ (ap (counted _) c.in_err-read_text.was)))

pub returns : goal.returns
returns c = told_gave c.read_text.ensures _ (omega arith) _ (ap (counted _) c.in_ok-read_text.was) c.put_into.ensures
