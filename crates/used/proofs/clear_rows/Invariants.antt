-- The sums of the state's rows are cleared along their chain.
use mathlib.Core.Path.{◌≡◌}
use Rattle.used.proofs.Clearing.{Emptying}
use Rattle.used.proofs.clear_rows.Given as goal

abbrev pub invariant-loop-r : goal.invariant-loop-r
invariant-loop-r l = (l.r-iterator.words.now ≡ l.words) × Emptying l.words l.q l.initial.sums l.sums l.r-iterator.next
