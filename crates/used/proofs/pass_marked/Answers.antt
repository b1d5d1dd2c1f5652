-- The states passed are marked, or have no trees.
use Rattle.std.proofs.Common.{rules, ◌<◌, length, arith}
use borrow.Author.Tests.{tests}
use Rattle.std.proofs.lemmas.Iterator.{serves_from_Range, first_from_Range}
use Rattle.used.proofs.Marks.{Passes, passed_by}
use Rattle.used.proofs.pass_marked.Goals as goal

pub find-requires-clause-callable : goal.find-requires-clause-callable
find-requires-clause-callable c =
    serves_from_Range (λ x q r. search rules)
    (λ x a b.
    let p : x < length c.args.counts.now = omega (arith, c.requires.counted) in
    let q : x < length c.args.used.now = omega (arith, c.requires.room) in
    search rules)

pub returns : goal.returns
returns c =
    passed_by c.args.counts.now c.args.used.now c.args.low c.args.m c.requires _ _ c.unwrap_or.ensures
    (first_from_Range _ _ _ _ (λ n. Unit {0}) (Passes c.args.counts.now c.args.used.now c.args.low c.args.m c.requires) c.find.ensures.ran (λ x q k. tt) (λ x q k. (search rules, λ p. search (rules, tests))))
