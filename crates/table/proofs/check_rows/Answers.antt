use Rattle.std.proofs.Common.{rules}
use Rattle.table.proofs.Taken.{takeable, still_ready}
use Rattle.table.proofs.check_rows.Goals as goal

pub take_rows-taken-requires-then-eq : goal.take_rows-taken-requires-then-eq
take_rows-taken-requires-then-eq c =
    takeable (still_ready c.requires.ready c.take_rows-taken.auto.words c.take_rows-taken.auto.heads) c.own_multiplier-by.ensures (search rules) (search rules)
