use Rattle.std.specs.Iterator.Adapters.{zip_first, zip_second}
use Rattle.std.specs.Slice.Iter.{iter_rest}
use Rattle.rank.proofs.Folding.{Folding}
use Rattle.rank.proofs.Closing.fold.Given as goal

abbrev pub invariant-loop-q : goal.invariant-loop-q
invariant-loop-q l = Folding l.counts l.self.states.now l.self.values.now l.h (iter_rest (zip_first l.q-iterator)) (iter_rest (zip_second l.q-iterator))
