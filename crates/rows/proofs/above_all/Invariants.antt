-- The largest of what was found and the arguments that are left is the largest of all.
use Rattle.std.proofs.Common.{◌≡◌, ◌<◌, drop}
use Rattle.rows.specs.Walk.{largest}
use Rattle.rows.proofs.above_all.Given as goal

abbrev pub invariant-loop-arg : goal.invariant-loop-arg
invariant-loop-arg l = (l.top < 65536) × (largest l.top (drop l.arg-index l.args) ≡ largest 0 l.args)
