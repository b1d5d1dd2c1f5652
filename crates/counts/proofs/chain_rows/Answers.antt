-- The rows from m on are chained, and each turn puts the row before them in front of its target's chain.
use mathlib.Core.Path.{refl, ◌∙◌}
use native.Mathlib.Omega.{arith}
use Rattle.counts.proofs.Chain.{chaining_begins, target_room, word_fits, chaining_goes}
use Rattle.counts.proofs.chain_rows.Goals as goal

pub loop-m-init : goal.loop-m-init
loop-m-init c = chaining_begins c.requires

pub bounds-first-t : goal.bounds-first-t
bounds-first-t c = target_room c.loop-m.invariant c.loop-m-test.true c.requires _ (c.from-t.ensures ∙ c.target_in.ensures)

pub with_after-requires : goal.with_after-requires
with_after-requires c = omega (arith, word_fits c.loop-m.invariant c.loop-m-test.true c.requires _ (c.from-t.ensures ∙ c.target_in.ensures) _ refl)

pub bounds-first-t-in-loop-m : goal.bounds-first-t-in-loop-m
bounds-first-t-in-loop-m c = target_room c.loop-m.invariant c.loop-m-test.true c.requires _ (c.from-t.ensures ∙ c.target_in.ensures)

pub loop-m-preserved : goal.loop-m-preserved
loop-m-preserved c = rw c.with_after.ensures (chaining_goes c.loop-m.invariant c.loop-m-test.true c.requires _ (c.from-t.ensures ∙ c.target_in.ensures) _ refl)
