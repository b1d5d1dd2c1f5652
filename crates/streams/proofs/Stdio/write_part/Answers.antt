use Rattle.std.proofs.Common.{rules}
use Rattle.streams.specs.declared.Entry.TheVariants.{ByteWritten}
use Rattle.streams.proofs.Laws.{logged_both}
use Rattle.streams.proofs.Stdio.write_part.Goals as goal

pub returns-in-Err : goal.returns-in-Err
returns-in-Err c = logged_both _ _ _ (c.with_bytes-self.ensures ByteWritten (λ b r p. search rules)) c.add.ensures
