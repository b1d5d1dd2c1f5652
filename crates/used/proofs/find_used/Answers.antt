-- The states have their turns from the highest down, until every state below that has trees is marked.
use native.Mathlib.Omega.{arith}
use Rattle.used.proofs.Pass.{of_states, passing_begins, turn_ready, passing_goes, passing_skips, passing_ends}
use Rattle.used.proofs.Marks.{is_marked, not_marked}
use Rattle.used.proofs.find_used.Goals as goal

pub loop-m-init : goal.loop-m-init
loop-m-init c = passing_begins (of_states c.requires) _ _ c.mark_listed.ensures c.pass_marked-n.ensures

pub mark_rows-n-requires : goal.mark_rows-n-requires
mark_rows-n-requires c = turn_ready (of_states c.requires) c.mark_listed.ensures c.loop-m.invariant (omega arith)

pub loop-m-preserved-then-used-m-ne0 : goal.loop-m-preserved-then-used-m-ne0
loop-m-preserved-then-used-m-ne0 c = passing_goes (of_states c.requires) c.mark_listed.ensures c.loop-m.invariant (omega arith) _ _ (is_marked c.if-used-m-ne0.true) c.mark_rows-n.ensures

pub loop-m-preserved : goal.loop-m-preserved
loop-m-preserved c = passing_skips (of_states c.requires) c.mark_listed.ensures c.loop-m.invariant (omega arith) (not_marked c.if-used-m-ne0.false)

pub returns-after-loop-m : goal.returns-after-loop-m
returns-after-loop-m c = passing_ends (of_states c.requires) c.mark_listed.ensures c.loop-m.invariant (omega arith)

pub returns-then-m-n : goal.returns-then-m-n
returns-then-m-n c = passing_ends (of_states c.requires) c.mark_listed.ensures c.loop-m.invariant (omega arith)
