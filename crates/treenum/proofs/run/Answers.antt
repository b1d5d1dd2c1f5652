use Rattle.std.proofs.Common.{◌≡◌, Ok, Err}
use Rattle.treenum.specs.declared.Failure.TheVariants.{Write}
use Rattle.treenum.proofs.Laws.{was_ok, was_err, turned_on, turned_broke, turned_last, turned_unread, given_on, so_far_first, so_far_more, so_far_stops}
use Rattle.treenum.proofs.run.Goals as goal

pub loop-init : goal.loop-init
loop-init c = so_far_first _ _ c.new.ensures

pub returns-in-Err : goal.returns-in-Err
returns-in-Err c = so_far_stops c.loop.invariant _ _ (λ reads held x. turned_unread _ _ c.read_part.new.part reads held _ (rw c.in-Err.is at c.read_part.ensures))

pub returns-in_err-map_err-in-Ok-Some : goal.returns-in_err-map_err-in-Ok-Some
returns-in_err-map_err-in-Ok-Some c =
    let fed = was_err c.feed_all.result c.in_err-map_err-in-Ok-Some.field-0.0 _ c.in_err-map_err-in-Ok-Some.ensures.cases in
    let t = so_far_stops c.loop.invariant _ (Err (Write fed.0))
    (λ reads held x. turned_broke _ _ c.read_part.new.part c.in-Ok-Some.n (rw (c.in-Ok-Some.is, c.in-Ok-Some.field-0-is) at c.read_part.ensures) held c.feed_all.new.self.line _ fed.0 (rw fed.1 at (c.feed_all.ensures held x)) reads) in
    given_on _ _ (Write fed.0) t _ (rw fed.2 at c.from_residual.ensures.1)

pub returns-in-Ok-None : goal.returns-in-Ok-None
returns-in-Ok-None c =
    so_far_stops c.loop.invariant _ _
    (λ reads held x. turned_last _ _ c.read_part.new.part (rw (c.in-Ok-None.is, c.in-Ok-None.field-0-is) at c.read_part.ensures) held _ reads _ (c.finish.ensures held x) _ c.map_err-in-Ok-None.ensures.cases)

pub loop-preserved : goal.loop-preserved
loop-preserved c =
    let fed : c.feed_all.result ≡ Ok tt = was_ok _ _ _ _ (λ e q. q) c.in_ok-map_err-in-Ok-Some.ensures.cases in
    so_far_more c.loop.invariant _ _ (λ held x. turned_on _ _ _ c.in-Ok-Some.n (rw (c.in-Ok-Some.is, c.in-Ok-Some.field-0-is) at c.read_part.ensures) held _ _ (rw fed at (c.feed_all.ensures held x)))
