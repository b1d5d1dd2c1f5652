use native.Mathlib.Omega.{arith}
use Rattle.rank.proofs.Folding.{unformed, formed_is, formable_fits}
use Rattle.rank.proofs.Numbering.value_in.Goals as goal

pub returns-then-self-from-eq0 : goal.returns-then-self-from-eq0
returns-then-self-from-eq0 c = unformed _ _ _ _ _ _ (rw (c.from.ensures) at c.if-self-from-eq0.true)

pub overflow_add-result : goal.overflow_add-result
overflow_add-result c = omega (arith, formable_fits _ _ _ _ _ _ c.requires (rw (c.from.ensures) at c.if-self-from-eq0.false) _ c.fold.ensures)

pub returns : goal.returns
returns c = formed_is _ _ _ _ _ _ (rw (c.from.ensures) at c.if-self-from-eq0.false) _ c.fold.ensures
