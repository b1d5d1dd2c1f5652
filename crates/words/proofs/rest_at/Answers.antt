use Rattle.std.proofs.Common.{arith, rules, refl}
use Rattle.words.proofs.Reading.{packs_none, packs_small, packs_more, packs_all, rest_word}
use Rattle.words.proofs.rest_at.Goals as goal

pub loop-b-init : goal.loop-b-init
loop-b-init c = packs_none c.args.at c.args.bytes.now _ (λ i l. omega (arith, c.type_inv.bytes i)) c.requires.1 (search rules)

pub overflow_mul-w : goal.overflow_mul-w
overflow_mul-w c = omega (arith, packs_small (packs_more c.next.new.self.iter.rest.now c.in-Some.b.now _ c.loop-b.invariant c.in-Some.ensures.steps refl))

pub overflow_add-w : goal.overflow_add-w
overflow_add-w c = omega (arith, packs_small (packs_more c.next.new.self.iter.rest.now c.in-Some.b.now _ c.loop-b.invariant c.in-Some.ensures.steps c.from.ensures))

pub loop-b-preserved : goal.loop-b-preserved
loop-b-preserved c = packs_more c.next.new.self.iter.rest.now c.in-Some.b.now _ c.loop-b.invariant c.in-Some.ensures.steps c.from.ensures

pub returns : goal.returns
returns c = rest_word c.args.bytes.now c.args.at c.loop-b.w (λ i l. omega (arith, c.type_inv.bytes i)) c.requires.1 (packs_all _ _ _ c.loop-b.invariant c.in-None.ensures.steps.0)
