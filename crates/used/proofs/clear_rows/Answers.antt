-- The sums of the state's rows are cleared along their chain.
use mathlib.Core.Path.{refl, ◌∙◌}
use Rattle.counts.proofs.Chain.{chained_onward, comes_of}
use Rattle.used.proofs.Clearing.{emptying_begins, emptying_goes, emptying_ends}
use Rattle.used.proofs.clear_rows.Goals as goal

pub invariant_of-r-items : goal.invariant_of-r-items
invariant_of-r-items c = record { onward = chained_onward c.requires.pool _ c.requires.chained c.args.q _ c.requires.state c.from.ensures }

pub loop-r-init : goal.loop-r-init
loop-r-init c = rw c.into_iter-r-iterator.ensures.into_iter_gives (refl, emptying_begins c.requires _ c.from.ensures)

pub loop-r-preserved : goal.loop-r-preserved
loop-r-preserved c = (c.in-Some.ensures.steps.1 ∙ c.loop-r.invariant.0, emptying_goes c.requires c.loop-r.invariant.1 (comes_of c.loop-r.invariant.0 c.in-Some.ensures.steps))

pub returns : goal.returns
returns c = emptying_ends c.loop-r.invariant.1 c.in-None.ensures.steps
