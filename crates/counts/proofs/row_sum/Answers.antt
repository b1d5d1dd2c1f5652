-- What was added is the sum of the marks so far; sixteen marks fit.
use Rattle.std.proofs.Common.{rules, ◌≡◌, ◌+◌, ◌<◌, ◌^◌, map, length, arith}
use Rattle.std.proofs.lemmas.Iterator.{YieldsList-from_slice}
use Rattle.model.specs.Count.{sum}
use Rattle.counts.specs.States.{held}
use Rattle.counts.proofs.Folds.{serves_along, fold_gives, sum_none, sum_push}
use Rattle.counts.proofs.Marks.{mark_placed, mark_fits}
use Rattle.counts.proofs.row_sum.Goals as goal

pub fold-requires-clause-callable : goal.fold-requires-clause-callable
fold-requires-clause-callable c =
    let h = held c.args.marks.now in
    serves_along (YieldsList-from_slice c.args.args.now c.iter.ensures.rest) _ _ 2 (λ ys n. n ≡ 2 + sum (map h ys)) (omega (arith, sum_none h))
    (λ ys n x q j r. (search rules, let t : q.1 ≡ n + h x.now = search rules in omega (arith, sum_push h ys x.now)))
    _
    (λ ys n x more e j.
    let p : x.now < length c.args.marks.now = mark_placed c.requires ys x.now more e in
    let k : n + h x.now < 2 ^ 64 = mark_fits c.requires ys x.now more e n j in
    search rules)

pub returns : goal.returns
returns c =
    let h = held c.args.marks.now in
    fold_gives (YieldsList-from_slice c.args.args.now c.iter.ensures.rest) _ _ 2 (λ ys n. n ≡ 2 + sum (map h ys)) (omega (arith, sum_none h))
    (λ ys n x q j r. (search rules, let t : q.1 ≡ n + h x.now = search rules in omega (arith, sum_push h ys x.now)))
    _ c.fold.ensures.ran
