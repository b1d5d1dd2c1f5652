use Rattle.rank.proofs.Summing.{Summing}
use Rattle.rank.proofs.Numbering.number_in.Given as goal

abbrev pub invariant-loop-a : goal.invariant-loop-a
invariant-loop-a l = Summing l.self.accepting.now l.self.counts.now l.q l.earlier l.a-index
