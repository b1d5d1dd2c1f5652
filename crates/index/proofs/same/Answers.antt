use native.Mathlib.Omega.{arith}
use borrow.Author.Tests.{eq-eqb, ne_eqb}
use lib.Dec.{eqb}
use Rattle.model.proofs.Lists.{same_step, same_end}
use Rattle.index.proofs.same.Goals as goal

pub returns-then-a-i : goal.returns-then-a-i
returns-then-a-i c =
    rw (same_step eqb c.args.a.now c.args.b.now c.loop-i.i (omega arith) (omega arith), ne_eqb _ _ c.if-a-i.true) at c.loop-i.invariant

pub loop-i-preserved : goal.loop-i-preserved
loop-i-preserved c =
    rw (same_step eqb c.args.a.now c.args.b.now c.loop-i.i (omega arith) (omega arith), eq-eqb _ _ c.if-a-i.false) at c.loop-i.invariant

pub returns : goal.returns
returns c = rw (same_end eqb c.args.a.now c.args.b.now c.loop-i.i (omega arith) (omega arith)) at c.loop-i.invariant
