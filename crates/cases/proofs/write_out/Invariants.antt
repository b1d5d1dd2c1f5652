use Rattle.std.proofs.Common.{length}
use Rattle.cases.proofs.write_out.Given as goal

abbrev pub decreases-loop-rest : goal.decreases-loop-rest
decreases-loop-rest l = length l.rest
