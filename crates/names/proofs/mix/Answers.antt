use Rattle.names.specs.NamesIndex.{mixed}
use Rattle.names.proofs.mix.Goals as goal

pub returns : goal.returns
unfolding mixed
returns c = c.mixed.ensures
