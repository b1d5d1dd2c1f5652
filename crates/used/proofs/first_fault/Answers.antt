-- The used states passed are within the limits.
use Rattle.std.proofs.Common.{◌≡◌, ◌∙◌, sym, Err, rules}
use Rattle.used.proofs.Beyond.{none_begins, none_skips, none_goes, fault_there, fault_none}
use Rattle.used.proofs.first_fault.Goals.{then-used-q-ne0+in_ok-limits, else-used-q-ne0}
use Rattle.used.proofs.Marks.{is_marked, not_marked}
use Rattle.used.proofs.first_fault.Goals as goal

pub loop-q-init : goal.loop-q-init
loop-q-init c = none_begins c.args.states c.args.marks.now c.args.used.now

pub loop-q-preserved : goal.loop-q-preserved
loop-q-preserved c =
    elim c.if-used-q-ne0.branch [
      | then-used-q-ne0+in_ok-limits w ↦ none_goes c.args.states c.args.marks.now c.args.used.now c.loop-q.invariant c.loop-q-test.true (sym w.limits.ensures ∙ w.in_ok-limits.was)
      | else-used-q-ne0 w ↦ none_skips c.args.states c.args.marks.now c.args.used.now c.loop-q.invariant (not_marked w.if-used-q-ne0.false)
    ]

pub returns-in_err-limits : goal.returns-in_err-limits
returns-in_err-limits c =
    let f = c.in_err-limits.field-0.0 in
    let e : c.from_residual.result ≡ Err f = search rules in
    rw e (fault_there c.args.states c.args.marks.now c.args.used.now c.loop-q.invariant c.loop-q-test.true (is_marked c.if-used-q-ne0.true) f (sym c.limits.ensures ∙ c.in_err-limits.was))

pub returns : goal.returns
returns c = fault_none c.args.states c.args.marks.now c.args.used.now c.loop-q.invariant c.loop-q-test.false
