use borrow.Author.Rules.{rules}
use Rattle.line.proofs.Putting.{Spelt, mark_near, decimal_put}
use Rattle.line.proofs.put_decimal.Goals as goal

pub returns : goal.returns
returns c = let spelt : Spelt c.args.n c.decimal-k.result c.decimal-k.new.out = record { small = search rules; counts = c.decimal-k.ensures.in_bounds; fewest = c.decimal-k.ensures.len; bytes = c.decimal-k.ensures.digits } in (decimal_put spelt c.put_bytes-next.ensures (search rules) _, mark_near spelt c.put_bytes-next.ensures (search rules))
