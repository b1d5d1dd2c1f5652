use Rattle.std.proofs.Common.{ℕ, rules, tests, ◌∙◌, arith}
use Rattle.std.proofs.lemmas.Iterator.{YieldsList-from_slice, YieldsList-from_zip}
use Rattle.std.proofs.lemmas.Iterator.Search.{all_from_yields_List}
use Rattle.model.proofs.Lists.{same_each}
use Rattle.names.proofs.Bytes.{same_caseless, names_caseless}
use Rattle.names.proofs.same_rest.Goals as goal

pub returns : goal.returns
returns c =
    let a = c.args.a.now in
    let b = c.args.b.now in
    all_from_yields_List (λ (p : ℕ × ℕ). same_caseless p.0 p.1) c.all.new.self c.all.new.f c.all.result c.all.ensures.ran (YieldsList-from_zip (YieldsList-from_slice a cc) (YieldsList-from_slice b cc)) (λ x r q k. search (rules, tests))
    ∙ same_each same_caseless a b c.requires.same_len
    ∙ names_caseless a b (λ i. omega (arith, c.type_inv.a i)) (λ i. omega (arith, c.type_inv.b i)) c.requires.a_value c.requires.b_value
