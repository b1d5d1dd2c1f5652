-- The grounds in their order, 4 and 5 by the largest argument.
use mathlib.Core.Path.{sym, ◌∙◌}
use Rattle.rows.proofs.Walk.{fault_3, fault_4, fault_5, fault_none}
use Rattle.rows.proofs.row_fault.Goals as goal

pub returns-then-is_too_many : goal.returns-then-is_too_many
returns-then-is_too_many c =
    let a = c.args in
    fault_3 a.states a.i a.symbol a.target a.args.now (sym c.is_too_many.ensures ∙ c.if-is_too_many.true)

pub returns-then-is_out : goal.returns-then-is_out
returns-then-is_out c =
    let a = c.args in
    fault_4 a.states a.i a.symbol a.target a.args.now _ c.above_all-top.ensures (sym c.is_too_many.ensures ∙ c.if-is_too_many.false) (sym c.is_out.ensures ∙ c.if-is_out.true)

pub returns-then-from-top : goal.returns-then-from-top
returns-then-from-top c =
    let a = c.args in
    fault_5 a.states a.i a.symbol a.target a.args.now _ c.above_all-top.ensures (sym c.is_too_many.ensures ∙ c.if-is_too_many.false) (sym c.is_out.ensures ∙ c.if-is_out.false) (rw c.from.ensures at c.if-from-top.true)

pub returns : goal.returns
returns c =
    let a = c.args in
    fault_none a.states a.i a.symbol a.target a.args.now _ c.above_all-top.ensures (sym c.is_too_many.ensures ∙ c.if-is_too_many.false) (sym c.is_out.ensures ∙ c.if-is_out.false) (rw c.from.ensures at c.if-from-top.false)
