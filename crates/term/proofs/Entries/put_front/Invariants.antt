use lib.ListN.{take, drop}
use Rattle.model.proofs.Writing.{Writing}
use Rattle.term.proofs.Entries.put_front.Given as goal

abbrev pub invariant-loop-i : goal.invariant-loop-i
invariant-loop-i l = Writing l.initial.tree l.tree (take l.self.count l.self.kept) (drop l.i (take l.self.count l.self.kept)) l.i
