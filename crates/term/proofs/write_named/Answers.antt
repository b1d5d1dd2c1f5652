use Rattle.tree.proofs.Laws.{list_well}
use Rattle.term.proofs.write_named.Goals as goal

pub write_formed-requires : goal.write_formed-requires
write_formed-requires c = list_well c.check_tree.ensures c.in_ok-check_tree.was
