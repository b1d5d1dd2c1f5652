use Rattle.model.specs.Answers.{refused_by}
use mathlib.Core.Path.{ap, refl}
use Rattle.term.proofs.Outcomes.{gave_refused, gave_result, short_text, text_fits, text_front}
use Rattle.term.proofs.write_fitting.Goals as goal

pub returns-then-text-needed : goal.returns-then-text-needed
returns-then-text-needed c = gave_refused _ _ (ap refused_by c.new.ensures) (short_text _ _ _ _ c.requires.well_formed c.text_length-needed.ensures c.if-text-needed.true)

pub returns : goal.returns
returns c = gave_result _ refl (text_fits _ _ _ _ c.requires.well_formed c.text_length-needed.ensures c.if-text-needed.false) (text_front _ _ _ _ c.requires.well_formed c.put_text.ensures)
