use native.Mathlib.Omega.{arith}
use Rattle.names.proofs.Words.{stops, goes_within, goes}
use Rattle.names.proofs.stretch_at.Goals as goal

pub returns-then-n-lt8 : goal.returns-then-n-lt8
returns-then-n-lt8 c =
    stops c.args.bytes.now c.loop-at.i _ (λ k l. omega (arith, c.type_inv.bytes k)) c.word_or_rest-w.ensures _ c.inner_ahead-n.ensures c.if-n-lt8.true
    _ _ _ c.loop-at.invariant _ _ c.mix_front.ensures c.bucket.ensures

pub loop-at-smaller : goal.loop-at-smaller
loop-at-smaller c =
    omega (arith, goes_within c.args.bytes.now c.loop-at.i _ (λ k l. omega (arith, c.type_inv.bytes k)) c.word_or_rest-w.ensures _ c.inner_ahead-n.ensures c.if-n-lt8.false)

pub loop-at-preserved : goal.loop-at-preserved
loop-at-preserved c =
    goes c.args.bytes.now c.loop-at.i _ (λ k l. omega (arith, c.type_inv.bytes k)) c.word_or_rest-w.ensures _ c.inner_ahead-n.ensures c.if-n-lt8.false
    _ _ _ c.loop-at.invariant _ c.mix-h.ensures
