use Rattle.std.proofs.Common.{ℕ, ◌≡◌, ◌*◌, ◌+◌, ◌/◌, arith, sym, ap, ◌∙◌, rules, tests, List, [], length, get_or}
use Rattle.std.specs.Int.{w64, from_le_bytes}
use Rattle.std.proofs.lemmas.Iterator.{YieldsList-from_slice}
use Rattle.std.proofs.lemmas.Iterator.Search.{all_from_yields_List}
use Rattle.words.specs.Words.{is_list_byte}
use Rattle.names.proofs.Words.{no_bits, chunk_at, eight_listed, two_parts}
use Rattle.names.proofs.only_list_bytes.Goals as goal

pub loop-word-preserved : goal.loop-word-preserved
loop-word-preserved c = λ z.
    let names = c.args.names.now in
    let k = c.loop-word.word-index in
    let n = no_bits c.loop-word.marks c.foreign_bytes-marks.result z in
    let next : 8 * (k + 1) ≡ 8 * k + 8 = omega arith in
    let word = ap (λ (ws : List (List ℕ)). get_or ws k []) c.as_chunks.ensures.front ∙ chunk_at 8 (length names / 8) k names (omega arith) in
    rw next (eight_listed names (8 * k) _ (λ k l. omega (arith, c.type_inv.names k)) (omega arith) (c.from_le_bytes.ensures ∙ ap (from_le_bytes w64) word)
    (sym c.foreign_bytes-marks.ensures ∙ n.1) (c.loop-word.invariant n.0))

pub returns-then-marks-eq0 : goal.returns-then-marks-eq0
returns-then-marks-eq0 c = λ e.
    let names = c.args.names.now in
    let all = all_from_yields_List is_list_byte _ _ c.all.result c.all.ensures.ran (YieldsList-from_slice c.as_chunks.result.1.now cc) (λ x r q k. search (rules, tests)) in
    let same : 8 * c.loop-word.word-index ≡ length names / 8 * 8 = omega arith in
    two_parts names (length names / 8 * 8) (rw same at (c.loop-word.invariant c.if-marks-eq0.true)) (sym (rw c.as_chunks.ensures.back at all) ∙ e)
