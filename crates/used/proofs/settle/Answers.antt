-- No state is beyond a limit and nothing is prepared, or the used states are found.
use mathlib.Core.Path.{sym, ◌∙◌}
use Rattle.used.proofs.Settling.{settled_none}
use Rattle.used.proofs.settle.Goals as goal

pub returns-else-is_err : goal.returns-else-is_err
returns-else-is_err c = settled_none c.requires c.args.prepare _ c.if-prepare.false c.first_beyond.ensures (sym c.is_err.ensures.value ∙ c.if-is_err.false)
