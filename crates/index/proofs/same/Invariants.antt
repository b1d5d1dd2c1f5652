use Rattle.std.proofs.Common.{◌≡◌, drop}
use Rattle.model.specs.Table.{same_list}
use Rattle.index.proofs.same.Given as goal

abbrev pub invariant-loop-i : goal.invariant-loop-i
invariant-loop-i l = same_list (drop l.i l.a) (drop l.i l.b) ≡ same_list l.a l.b
