use Rattle.std.proofs.Common.{◌-◌, ◌<◌, length}
use Rattle.term.specs.Written.{Copied}
use Rattle.term.proofs.put_words.Given as goal

abbrev pub invariant-loop-i : goal.invariant-loop-i
invariant-loop-i g l = (l.i < length l.bytes) × Copied l.i l.initial.to l.to 0 l.bytes

abbrev pub decreases-loop-i : goal.decreases-loop-i
decreases-loop-i g l = length l.bytes - l.i
