use Rattle.std.proofs.Common.{◌≡◌, ◌+◌, ◌-◌, length, arith}
use Rattle.term.proofs.Copies.{copied_word, copied_whole}
use Rattle.term.proofs.put_words.Goals as goal

pub loop-i-preserved : goal.loop-i-preserved
loop-i-preserved g c =
    let l = c.loop-i-test.true in (
      omega (arith, l, c.requires.n_le_bytes),
      copied_word c.args.bytes.now c.loop-i.i g.row.N _ (omega arith) (omega arith) (omega (arith, l)) (λ i l. (c.type_inv.bytes i).fits) c.loop-i.invariant.1 c.word_at.ensures c.put_word.ensures,
    )

pub returns : goal.returns
returns g c =
    let l = c.args.bytes.now in
    let n = g.row.N in
    let e : length l - n + n ≡ length l = omega (arith, c.requires.n_le_bytes) in
    copied_whole l c.requires.same_len (rw e at
    (copied_word l (length l - n) n _ c.loop-i-test.false (omega (arith, c.loop-i.invariant.0, c.requires.n_le_bytes)) (omega (arith, c.requires.n_le_bytes))
    (λ i l. (c.type_inv.bytes i).fits) c.loop-i.invariant.1 c.word_at-2.ensures c.put_word-2.ensures))
