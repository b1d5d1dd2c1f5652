-- No argument counts 0.
use Rattle.std.proofs.Common.{◌<◌, ◌∙◌, ltb, length, rules}
use borrow.Author.Tests.{tests}
use Rattle.std.proofs.lemmas.Iterator.{YieldsList-from_slice}
use Rattle.std.proofs.lemmas.Iterator.Adapters.{serves_from_places}
use Rattle.std.proofs.lemmas.Iterator.Search.{all_from_yields_List}
use Rattle.counts.specs.States.{held}
use Rattle.used.proofs.Marks.{item_placed, all_counted, row_some}
use Rattle.used.proofs.Counts.row_counts.Goals as goal

pub all-requires-clause-callable : goal.all-requires-clause-callable
all-requires-clause-callable c =
    serves_from_places (YieldsList-from_slice c.args.args.now c.iter.ensures.rest) (λ x q r. search rules)
    (λ x k l e. let p : x.now < length c.args.self.now.counts.now = item_placed c.requires k l e in search rules)

pub returns-then-self : goal.returns-then-self
returns-then-self c = c.if-self.true ∙ row_some _ _ _ c.args.self.now.some c.requires c.if-self.true

pub returns-else-self : goal.returns-else-self
returns-else-self c =
    all_from_yields_List (λ a. ltb 0 (held c.args.self.now.counts.now a)) _ _ _ c.all.ensures.ran (YieldsList-from_slice c.args.args.now c.iter.ensures.rest) (λ x b q k. search (rules, tests))
    ∙ all_counted c.args.self.now.counts.now c.args.args.now
