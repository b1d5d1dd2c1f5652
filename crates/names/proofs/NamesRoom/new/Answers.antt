use Rattle.names.proofs.Lines.{fresh}
use Rattle.names.proofs.NamesRoom.new.Goals as goal

pub returns : goal.returns
returns c = fresh
