use Rattle.line.proofs.Outcomes.{answers_as}
use Rattle.line.proofs.Answering.{number_answered, long_answered, term_answered}
use Rattle.line.proofs.Lists.answer_line.Goals as goal

pub returns-in-Some : goal.returns-in-Some
returns-in-Some c held x = answers_as _ _ (number_answered x _ _ _ _ _ c.number_of.ensures _ c.in-Some.is) c.answer_number.ensures

pub returns-then-line-gt4096 : goal.returns-then-line-gt4096
returns-then-line-gt4096 c held x = rw c.new.ensures (long_answered x _ _ _ _ _ c.number_of.ensures c.in_default.is c.if-line-gt4096.true)

pub returns : goal.returns
returns c held x = answers_as _ _ (term_answered x _ _ _ _ _ c.number_of.ensures c.in_default.is c.if-line-gt4096.false) c.answer_term.ensures
