-- What was multiplied is the product of the counts so far; one on the way that does not fit tells that it is beyond.
use Rattle.std.proofs.Common.{rules, ◌≡◌, sym, Some, None, ◌*◌, ◌<◌, map, length, arith}
use Rattle.std.proofs.lemmas.Iterator.{YieldsList-from_slice}
use Rattle.model.specs.Count.{product}
use Rattle.counts.specs.Marks.{ceiling}
use Rattle.counts.specs.Kept.{Is}
use Rattle.counts.specs.States.{held}
use Rattle.counts.proofs.Folds.{serves_along, try_fold_gives, product_none, product_push}
use Rattle.counts.proofs.KeptCounts.{kept_on, kept_broken, kept_end}
use Rattle.counts.proofs.Products.{factor_placed, factor_below}
use Rattle.counts.proofs.wide_product.Goals as goal

pub try_fold-requires-clause-callable : goal.try_fold-requires-clause-callable
try_fold-requires-clause-callable c =
    let h = held c.args.counts.now in
    serves_along (YieldsList-from_slice c.args.args.now c.iter.ensures.rest) _ _ 1 (λ ys n. (n < ceiling) × (n ≡ product (map h ys))) (omega arith, sym (product_none h))
    (λ ys n x q j r.
    let k : Is r.0 (n * h x.now) = search rules in
    let e : r.0 ≡ Some q.1 = search rules in
    (search rules, kept_on r.0 k e (rw j.1 (sym (product_push h ys x.now)))))
    _
    (λ ys n x more e j.
    let p : x.now < length c.args.counts.now = factor_placed c.requires ys x.now more e in
    search rules)

pub returns : goal.returns
returns c =
    let h = held c.args.counts.now in
    try_fold_gives (YieldsList-from_slice c.args.args.now c.iter.ensures.rest) _ _ 1 (λ ys n. (n < ceiling) × (n ≡ product (map h ys))) (omega arith, sym (product_none h))
    (λ ys n x q j r.
    let k : Is r.0 (n * h x.now) = search rules in
    let e : r.0 ≡ Some q.1 = search rules in
    (search rules, kept_on r.0 k e (rw j.1 (sym (product_push h ys x.now)))))
    _ _ _ _
    (λ n j w. let e : c.try_fold.result ≡ Some n = search rules in kept_end c.try_fold.result e j)
    (λ ys n x more e j b.
    let k : Is b.0 (n * h x.now) = search rules in
    let z : b.0 ≡ None = search rules in
    let y : c.try_fold.result ≡ None = search rules in
    kept_broken b.0 c.try_fold.result k z (factor_below c.requires ys x.now more e n j.1) y)
    c.try_fold.ensures.ran
