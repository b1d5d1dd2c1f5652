use Prim.Native.Nat.{◌-◌}
use mathlib.Core.Path.{◌≡◌}
use lib.ListN.{length}
use Rattle.line.proofs.Gathering.{Gathers}
use Rattle.line.proofs.Lists.gather.Given as goal

abbrev pub invariant-loop-i : goal.invariant-loop-i
invariant-loop-i l = Gathers l.self.states l.self.rows.now l.self.accepting.now l.self.names.now l.bytes l.from l.initial.line l.out l.line l.i l.filled × (length l.out ≡ length l.initial.out)

abbrev pub decreases-loop-i : goal.decreases-loop-i
decreases-loop-i l = length l.bytes - l.i
