-- The states passed without a mark are cleared.
use Rattle.used.proofs.Clearing.{clearing_ends}
use Rattle.used.proofs.clear_unused.Goals as goal

pub returns : goal.returns
returns c = clearing_ends c.requires c.loop-q.invariant c.loop-q-test.false
