use Rattle.std.proofs.Common.{arith}
use Rattle.words.proofs.Reading.{few_word}
use Rattle.words.proofs.word_at.Goals as goal

pub returns : goal.returns
returns g c =
    few_word g.row.N c.args.at c.args.bytes.now _ _ (λ i l. omega (arith, c.type_inv.bytes i)) c.requires.at_in_bounds c.requires.n_le_8 c.from_le_bytes.ensures c.copy_from_slice.ensures.after
