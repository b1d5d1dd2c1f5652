-- The largest of what was found and the arguments that are left is the largest of all.
use Rattle.std.proofs.Common.{◌≡◌, ℕ, ◌+◌, max, get_or, sym, ap, ◌∙◌, arith}
use Rattle.std.proofs.lemmas.Bool.Decides.{nat_tests}
use Rattle.rows.proofs.Walk.{largest_step, largest_end, above_none, above_some}
use Rattle.rows.proofs.above_all.Goals as goal

pub loop-arg-preserved : goal.loop-arg-preserved
loop-arg-preserved c =
    let l = c.args.args.now in
    let m : c.max-top.result ≡ max c.loop-arg.top (get_or l c.loop-arg.arg-index 0) = grind arith in
    (omega (arith, m, c.type_inv.args c.loop-arg.arg-index), rw m (sym (largest_step c.loop-arg.top l c.loop-arg.arg-index c.loop-arg-test.true) ∙ c.loop-arg.invariant.1))

pub returns-then-is_empty : goal.returns-then-is_empty
returns-then-is_empty c = above_none _ (grind (arith, nat_tests))

pub returns-else-is_empty : goal.returns-else-is_empty
returns-else-is_empty c =
    let l = c.args.args.now in
    let e = sym (largest_end c.loop-arg.top l c.loop-arg.arg-index c.loop-arg-test.false) ∙ c.loop-arg.invariant.1 in
    ap (λ (n : ℕ). n + 1) (c.from.ensures ∙ e) ∙ above_some l (λ z. grind (arith, nat_tests))
