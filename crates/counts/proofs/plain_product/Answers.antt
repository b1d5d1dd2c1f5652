-- What was multiplied is the product of the counts so far; it is not 0 and fits.
use Rattle.std.proofs.Common.{rules, ◌≡◌, sym, ◌*◌, ◌<◌, ◌^◌, map, length, arith}
use Rattle.std.proofs.lemmas.Iterator.{YieldsList-from_slice}
use Rattle.model.specs.Count.{product}
use Rattle.counts.specs.States.{held}
use Rattle.counts.proofs.Folds.{serves_along, fold_gives, product_none, product_push}
use Rattle.counts.proofs.Products.{factor_placed, factor_below}
use Rattle.counts.proofs.plain_product.Goals as goal

pub fold-requires-clause-callable : goal.fold-requires-clause-callable
fold-requires-clause-callable c =
    let h = held c.args.counts.now in
    serves_along (YieldsList-from_slice c.args.args.now c.iter.ensures.rest) _ _ 1 (λ ys n. n ≡ product (map h ys)) (sym (product_none h))
    (λ ys n x q j r. (search rules, let t : q.1 ≡ n * h x.now = search rules in rw (t, j) (sym (product_push h ys x.now))))
    _
    (λ ys n x more e j.
    let p : x.now < length c.args.counts.now = factor_placed c.requires.some ys x.now more e in
    let k : n * h x.now < 2 ^ 64 = omega (arith, factor_below c.requires.some ys x.now more e n j, c.requires.fits) in
    search rules)

pub returns : goal.returns
returns c =
    let h = held c.args.counts.now in
    fold_gives (YieldsList-from_slice c.args.args.now c.iter.ensures.rest) _ _ 1 (λ ys n. n ≡ product (map h ys)) (sym (product_none h))
    (λ ys n x q j r. (search rules, let t : q.1 ≡ n * h x.now = search rules in rw (t, j) (sym (product_push h ys x.now))))
    _ c.fold.ensures.ran
