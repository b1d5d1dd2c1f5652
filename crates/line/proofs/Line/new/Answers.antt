use Prim.Native.Nat.{ℕ}
use lib.ListN.{length-replicate}
use Rattle.line.proofs.Feeding.{holds_none, holding_none}
use Rattle.line.proofs.Line.new.Goals as goal

pub invariant_of-result : goal.invariant_of-result
invariant_of-result c = record { holding = holding_none _ (length-replicate {A = ℕ} 4096 0) }

pub returns : goal.returns
returns c = holds_none _ (length-replicate {A = ℕ} 4096 0)
