use Rattle.line.proofs.Feeding.{room_of, holds_none, holding_none}
use Rattle.line.proofs.Line.clear.Goals as goal

pub invariant_of-self : goal.invariant_of-self
invariant_of-self c = record { holding = holding_none _ (room_of c.args.self.now.holding) }

pub returns : goal.returns
returns c = holds_none _ (room_of c.args.self.now.holding)
