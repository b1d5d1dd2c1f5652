use Rattle.std.proofs.Common.{rules, tests, ◌∙◌}
use Rattle.std.proofs.lemmas.Iterator.{YieldsList-from_slice}
use Rattle.std.proofs.lemmas.Iterator.Search.{all_from_yields_List}
use Rattle.model.specs.Names.{is_name_byte}
use Rattle.names.proofs.Bytes.{each_named}
use Rattle.names.proofs.all_name_bytes.Goals as goal

pub returns : goal.returns
returns c =
    let name = c.args.name.now in
    all_from_yields_List is_name_byte _ _ _ c.all.ensures.ran (YieldsList-from_slice name cc) (λ x r q k. search (rules, tests)) ∙ each_named name
