-- The states passed are within the limits.
use Rattle.std.proofs.Common.{◌≡◌, ◌∙◌, sym, Err, rules}
use Rattle.used.proofs.Beyond.{looking_stops, looking_goes, looking_ends}
use Rattle.used.proofs.first_beyond.Goals as goal

pub loop-q-preserved : goal.loop-q-preserved
loop-q-preserved c = looking_goes c.args.states c.args.marks.now c.args.from c.loop-q.invariant c.loop-q-test.true (sym c.limits.ensures ∙ c.in_ok-limits.was)

pub returns-in_err-limits : goal.returns-in_err-limits
returns-in_err-limits c =
    let f = c.in_err-limits.field-0.0 in
    let e : c.from_residual.result ≡ Err f = search rules in
    rw e (looking_stops c.args.states c.args.marks.now c.args.from c.loop-q.invariant c.loop-q-test.true f (sym c.limits.ensures ∙ c.in_err-limits.was))

pub returns : goal.returns
returns c = looking_ends c.args.states c.args.marks.now c.args.from c.loop-q.invariant c.loop-q-test.false
