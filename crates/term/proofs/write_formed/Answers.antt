use Rattle.model.specs.Answers.{refused_by}
use mathlib.Core.Path.{ap, sym, ◌∙◌}
use Rattle.term.proofs.Outcomes.{gave_refused, gave_same, unnamed, all_named, named_low}
use Rattle.term.proofs.write_formed.Goals as goal

pub write_fitting-requires-clause-entries_named : goal.write_fitting-requires-clause-entries_named
write_fitting-requires-clause-entries_named c = named_low c.args.list.now.index.lines.names.now _ _ 0 c.args.list.now.whole c.requires.1 (sym c.first_unnamed.ensures ∙ c.in-None.is)

pub returns-in-Some : goal.returns-in-Some
returns-in-Some c = gave_refused _ _ (ap refused_by c.new.ensures) (unnamed c.args.list.now.index.lines.names.now c.args.tree.now _ _ c.args.list.now.whole _ (sym c.first_unnamed.ensures ∙ c.in-Some.is))

pub returns-in-None : goal.returns-in-None
returns-in-None c = gave_same (all_named _ _ _ _ c.args.list.now.whole (sym c.first_unnamed.ensures ∙ c.in-None.is)) c.write_fitting.ensures
