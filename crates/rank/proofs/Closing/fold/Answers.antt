use native.Mathlib.Omega.{arith}
use Rattle.std.proofs.lemmas.Slice.Zip.{either_empty_from_Zip}
use Rattle.rank.proofs.Folding.{fold_begins, fold_goes, fold_fits, fold_ends}
use Rattle.rank.proofs.Closing.fold.Goals as goal

pub loop-q-init : goal.loop-q-init
loop-q-init c = rw (c.into_iter-q-iterator.ensures.into_iter_gives, c.zip-q-items.ensures.first, c.iter.ensures.rest, c.zip-q-items.ensures.second.0) (fold_begins c.requires.valued)

pub overflow_mul-h : goal.overflow_mul-h
overflow_mul-h c = omega (arith, fold_fits c.loop-q.invariant c.in-Some.ensures.steps _ c.from.ensures c.requires)

pub overflow_add-h : goal.overflow_add-h
overflow_add-h c = omega (arith, fold_fits c.loop-q.invariant c.in-Some.ensures.steps _ c.from.ensures c.requires)

pub loop-q-preserved : goal.loop-q-preserved
loop-q-preserved c = fold_goes c.loop-q.invariant c.in-Some.ensures.steps _ c.from.ensures

pub returns : goal.returns
returns c = fold_ends _ _ c.loop-q.invariant (either_empty_from_Zip c.loop-q.q-iterator c.next.new.self _ c.in-None.is c.next.ensures.steps)
