use Rattle.std.proofs.Common.{rules, tests}
use lib.Dec.{eqb}
use Rattle.std.proofs.lemmas.Iterator.{YieldsList-from_slice}
use Rattle.std.proofs.lemmas.Iterator.Search.{position_from_yields_List}
use Rattle.line.proofs.Walking.{first_end}
use Rattle.line.proofs.line_end.Goals as goal

pub returns : goal.returns
returns c = first_end _ _ (position_from_yields_List (λ b. eqb b 10) _ _ _ c.position.ensures.ran (YieldsList-from_slice c.args.bytes.now cc) (λ x r q k. search (rules, tests)))
