use Rattle.std.proofs.Common.{rules, ◌≡◌, sym, Some, None, ◌∙◌, ap}
use Rattle.std.proofs.lemmas.Iterator.{YieldsList-from_slice}
use Rattle.counts.proofs.Folds.{try_fold_gives}
use Rattle.line.specs.Held.{with_digits}
use Rattle.line.proofs.Feeding.{digits_none, digits_lost, digits_step, digits_end}
use Rattle.line.proofs.with_digits.Goals as goal

pub returns-in_err-number : goal.returns-in_err-number
returns-in_err-number c =
    let e : c.from_residual.result ≡ None = search rules in
    let f : c.args.number ≡ None = search rules in
    e ∙ sym (ap (λ o. with_digits o c.args.bytes.now) f ∙ digits_lost c.args.bytes.now)

pub returns : goal.returns
returns c =
    let f : Some c.in_ok-number.field-0 ≡ c.args.number = search rules in
    try_fold_gives (YieldsList-from_slice c.args.bytes.now c.iter.ensures.rest) _ _ c.in_ok-number.field-0 (λ ys n. Some n ≡ with_digits c.args.number ys) (f ∙ digits_none c.args.number)
    (λ ys n x q j r. (search rules, digits_step c.args.number ys x.now n (Some q.1) j (search rules)))
    _ _ _ _
    (λ n j w. let e : c.try_fold.result ≡ Some n = search rules in e ∙ j)
    (λ ys n x more e j b.
    let y : c.try_fold.result ≡ None = search rules in
    y ∙ digits_end c.args.number ys x.now n more e j (search rules))
    c.try_fold.ensures.ran
