use Rattle.line.proofs.Answering.{last_none, last_some}
use Rattle.line.proofs.Lists.last_line.Goals as goal

pub returns-then-line-eq0-clause-begins : goal.returns-then-line-eq0-clause-begins
returns-then-line-eq0-clause-begins c held x = last_none x _ _ _ _ _ c.if-line-eq0.true

pub returns-clause-begins : goal.returns-clause-begins
returns-clause-begins c held x = last_some x _ _ _ _ _ _ c.if-line-eq0.false (c.answer.ensures.begins held x)
