use Rattle.std.proofs.Common.{ap, sym}
use Rattle.std.proofs.lemmas.Slice.Zip.{either_empty_from_Zip}
use lib.ListN.{length}
use Rattle.term.proofs.EntryText.{entries_none, sum_first, sum_next, sum_last, entry_named}
use Rattle.term.proofs.text_length.Goals as goal

pub returns-in_default : goal.returns-in_default
returns-in_default c = sym (ap length (entries_none c.args.lines.now.names.now c.args.tree.now c.in_default.ensures.cases))

pub loop-before-init : goal.loop-before-init
loop-before-init c =
    rw (c.into_iter-before-iterator.ensures.into_iter_gives, c.zip-before-items.ensures.first, c.iter.ensures.rest, c.zip-before-items.ensures.second.0)
    (sum_first _ _ c.requires _ _ c.in-Some.ensures.cases.0 _ c.first_length-sum.ensures)

pub entry_length-sum-requires : goal.entry_length-sum-requires
entry_length-sum-requires c = entry_named c.loop-before.invariant.paired c.in-Some-2.ensures.steps

pub loop-before-preserved : goal.loop-before-preserved
loop-before-preserved c = sum_next c.loop-before.invariant c.in-Some-2.ensures.steps _ c.entry_length-sum.ensures

pub returns : goal.returns
returns c = sum_last c.loop-before.invariant (either_empty_from_Zip c.loop-before.before-iterator c.next.new.self _ c.in-None.is c.next.ensures.steps)
