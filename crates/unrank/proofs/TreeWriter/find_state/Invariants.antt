use Rattle.unrank.proofs.Accepting.{Seeking}
use Rattle.unrank.proofs.TreeWriter.find_state.Given as goal

abbrev pub invariant-loop-a : goal.invariant-loop-a
invariant-loop-a l = Seeking l.self.accepting.now l.self.counts.now l.number l.a-index l.value
