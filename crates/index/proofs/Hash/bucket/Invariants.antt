-- The arguments that are left are taken into the hash as all are.
use Rattle.std.proofs.Common.{◌≡◌, length}
use Rattle.index.specs.Hash.{fours, mix_all}
use Rattle.index.proofs.Hash.bucket.Given as goal

abbrev pub invariant-loop-left : goal.invariant-loop-left
invariant-loop-left l = mix_all l.self.by l.h (fours l.left) ≡ mix_all l.self.by l.key.front (fours l.key.args.now)

abbrev pub decreases-loop-left : goal.decreases-loop-left
decreases-loop-left l = length l.left
