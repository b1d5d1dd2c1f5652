use Rattle.std.proofs.Common.{rules, arith}
use Rattle.streams.specs.declared.Entry.TheVariants.{ByteRead}
use Rattle.streams.proofs.Laws.{logged_both, bytes_front}
use Rattle.streams.proofs.Stdio.read_part.Goals as goal

pub returns-in-Ok : goal.returns-in-Ok
returns-in-Ok c = (
  omega arith,
  omega (arith, c.in-Ok.ensures.bound),
  bytes_front c.in-Ok.n c.read.new.buf (λ i. search rules),
  logged_both _ _ _ (c.with_bytes-self.ensures ByteRead (λ b r p. search rules)) c.add-in-Ok.ensures,
)
