use Prim.Native.Nat.{◌-◌}
use lib.ListN.{length}
use Rattle.term.proofs.Going.{Going}
use Rattle.term.proofs.read_text.Given as goal

abbrev pub invariant-loop-k : goal.invariant-loop-k
invariant-loop-k l = Going l.list.index.lines.names.now l.text l.entries.kept l.count l.depth l.i

abbrev pub decreases-loop-k : goal.decreases-loop-k
decreases-loop-k l = length l.text - l.i
