use Rattle.std.proofs.Common.{drop}
use Rattle.words.proofs.Reading.{Packs}
use Rattle.words.proofs.rest_at.Given as goal

abbrev pub invariant-loop-b : goal.invariant-loop-b
invariant-loop-b l = Packs l.b-iterator.iter.rest.now (drop l.at l.bytes) l.w
