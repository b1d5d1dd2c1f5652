-- The links of chained rows lead on.
use native.Mathlib.Omega.{arith}
use Rattle.counts.proofs.Chain.{chained_onward}
use Rattle.counts.proofs.ByTarget.rows_of.Goals as goal

pub invariant_of-result : goal.invariant_of-result
invariant_of-result c = record { onward = chained_onward _ _ c.args.self.now.chained _ _ (omega arith) c.from.ensures }
