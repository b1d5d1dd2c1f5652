use Rattle.std.proofs.Common.{◌∙◌, ltb, rules, tests}
use Rattle.std.proofs.lemmas.Iterator.{YieldsList-from_slice}
use Rattle.std.proofs.lemmas.Iterator.Search.{position_from_yields_List}
use Rattle.term.proofs.Outcomes.{position_first}
use Rattle.term.proofs.first_unnamed.Goals as goal

pub returns : goal.returns
returns c =
    let tree = c.args.tree.now in
    position_from_yields_List (ltb c.args.n) _ _ _ c.position.ensures.ran (YieldsList-from_slice tree cc) (λ x r q k. search (rules, tests))
    ∙ position_first (ltb c.args.n) tree
