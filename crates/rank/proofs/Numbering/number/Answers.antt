use Rattle.tree.proofs.Laws.{list_well}
use Rattle.rank.proofs.Numbering.number.Goals as goal

pub number_formed-requires : goal.number_formed-requires
number_formed-requires c = list_well c.check_tree.ensures c.in_ok-check_tree.was
