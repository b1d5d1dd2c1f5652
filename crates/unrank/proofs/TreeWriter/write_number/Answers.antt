use Rattle.model.specs.Answers.{refused_by}
use mathlib.Core.Path.{ap, refl}
use Rattle.unrank.proofs.Accepting.{spot_valued}
use Rattle.unrank.proofs.Outcomes.{number_short, number_fits}
use Rattle.unrank.proofs.ValueReady.{list_ready}
use Rattle.unrank.proofs.TreeWriter.write_number.Goals as goal

pub tree_length-needed-requires : goal.tree_length-needed-requires
tree_length-needed-requires c = spot_valued (list_ready c.args.self.now.ready c.requires) _ c.find_state-spot.ensures

pub returns-then-tree-needed : goal.returns-then-tree-needed
returns-then-tree-needed c = number_short _ _ _ _ _ c.find_state-spot.ensures _ _ _ c.tree_length-needed.ensures c.if-tree-needed.true (ap refused_by c.new.ensures)

pub write_tree-requires-clause-value_below : goal.write_tree-requires-clause-value_below
write_tree-requires-clause-value_below c = spot_valued (list_ready c.args.self.now.ready c.requires) _ c.find_state-spot.ensures

pub returns : goal.returns
returns c = number_fits _ _ _ _ _ c.find_state-spot.ensures _ _ _ _ _ c.tree_length-needed.ensures c.if-tree-needed.false refl c.write_tree.ensures
