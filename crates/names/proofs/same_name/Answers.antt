use Rattle.std.proofs.Common.{◌&&◌, Bool, sym, ap, ◌∙◌, arith, rules, tests}
use Rattle.std.proofs.lemmas.Iterator.{YieldsList-from_slice, YieldsList-from_zip}
use Rattle.std.proofs.lemmas.Iterator.Search.{all_from_yields_List}
use Rattle.model.specs.Names.{alike, same_name}
use Rattle.model.proofs.Lists.{same_length}
use Rattle.names.proofs.Words.{alike_chunks, parts_same, dropped_clean, dropped_inner}
use Rattle.names.proofs.same_name.Goals as goal

pub returns-then-a-b : goal.returns-then-a-b
returns-then-a-b c = sym (same_length alike _ _ c.if-a-b.true)

pub same_rest-requires-clause-a_value : goal.same_rest-requires-clause-a_value
same_rest-requires-clause-a_value c = rw c.as_chunks.ensures.back (dropped_clean _ c.args.a.now c.requires.a_value)

pub same_rest-requires-clause-b_value : goal.same_rest-requires-clause-b_value
same_rest-requires-clause-b_value c = rw c.as_chunks-2.ensures.back (dropped_inner _ c.args.b.now c.requires.b_value)

pub returns-then-same_words : goal.returns-then-same_words
returns-then-same_words c =
    let a = c.args.a.now in
    let b = c.args.b.now in
    let words = c.as_chunks.ensures in
    let others = c.as_chunks-2.ensures in
    let ran = all_from_yields_List alike_chunks c.all-same_words.new.self c.all-same_words.new.f c.all-same_words.result c.all-same_words.ensures.ran (YieldsList-from_zip (YieldsList-from_slice c.as_chunks.result.0.now cc) (YieldsList-from_slice c.as_chunks-2.result.0.now cc)) (λ x r q k. search (rules, tests)) in
    parts_same a b _ _ _ _ _ _ (λ i l. omega (arith, c.type_inv.a i)) (λ i l. omega (arith, c.type_inv.b i)) (omega arith) words.front others.front words.back others.back ran
    (c.same_rest.ensures ∙ ap (λ (t : Bool). t && same_name c.as_chunks.result.1.now c.as_chunks-2.result.1.now) (sym c.if-same_words.true))

pub returns-else-same_words : goal.returns-else-same_words
returns-else-same_words c =
    let a = c.args.a.now in
    let b = c.args.b.now in
    let words = c.as_chunks.ensures in
    let others = c.as_chunks-2.ensures in
    let ran = all_from_yields_List alike_chunks c.all-same_words.new.self c.all-same_words.new.f c.all-same_words.result c.all-same_words.ensures.ran (YieldsList-from_zip (YieldsList-from_slice c.as_chunks.result.0.now cc) (YieldsList-from_slice c.as_chunks-2.result.0.now cc)) (λ x r q k. search (rules, tests)) in
    parts_same a b _ _ _ _ _ _ (λ i l. omega (arith, c.type_inv.a i)) (λ i l. omega (arith, c.type_inv.b i)) (omega arith) words.front others.front words.back others.back ran
    (c.if-same_words.false ∙ ap (λ (t : Bool). t && same_name c.as_chunks.result.1.now c.as_chunks-2.result.1.now) (sym c.if-same_words.false))
