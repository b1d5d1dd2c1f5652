use Rattle.scan.proofs.Laws.{Read}
use Rattle.scan.proofs.scan_text.Given as goal

abbrev pub invariant-loop-i : goal.invariant-loop-i
invariant-loop-i l = Read l.text l.r l.i
