use native.Mathlib.Omega.{arith}
use Rattle.term.proofs.Kept.{front_next}
use Rattle.term.proofs.Entries.put_front.Goals as goal

pub loop-i-preserved : goal.loop-i-preserved
loop-i-preserved c = rw c.from.ensures (front_next _ _ _ (omega arith) c.requires.1 _ _ c.loop-i.invariant c.loop-i-test.true)
