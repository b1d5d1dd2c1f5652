use Rattle.std.proofs.Common.{◌-◌, eqb, take, drop, rules, tests, length}
use Rattle.std.proofs.lemmas.Iterator.{YieldsList-from_slice, YieldsList-from_take}
use Rattle.std.proofs.lemmas.Iterator.Search.{YieldsList-from_take_while}
use Rattle.std.proofs.lemmas.Iterator.Consumers.{count_from_yields_List}
use Rattle.term.proofs.Marks.{closing_is}
use Rattle.term.proofs.closes.Goals as goal

pub returns : goal.returns
returns c =
    let at = c.args.at in
    let text = c.args.text.now in
    let bytes = take (length text - at) (drop at text) in
    closing_is text at c.args.depth _ c.requires
    (count_from_yields_List c.take_while.result c.count.result c.count.ensures.ran
    (YieldsList-from_take_while _ (λ b. eqb b 41) (YieldsList-from_take c.args.depth (YieldsList-from_slice bytes (cc)) (cc)) c.take_while.ensures.closure c.take_while.ensures.done (λ x b q k. search (rules, tests))))
