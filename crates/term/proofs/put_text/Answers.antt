use Rattle.std.proofs.lemmas.Slice.Zip.{either_empty_from_Zip}
use Rattle.term.proofs.EntryText.{first_fits, letter_none, letter_first, letter_fits, letter_put, letter_last, entry_named}
use Rattle.term.proofs.put_text.Goals as goal

pub returns-in_default : goal.returns-in_default
returns-in_default c = letter_none c.args.lines.now.names.now c.args.tree.now _ c.in_default.ensures.cases

pub put_first-at-requires-clause-e_in_bounds : goal.put_first-at-requires-clause-e_in_bounds
put_first-at-requires-clause-e_in_bounds c = first_fits c.args.lines.now.names.now _ _ _ c.in-Some.ensures.cases.0 c.requires.tree_in_bounds

pub loop-before-init : goal.loop-before-init
loop-before-init c =
    rw (c.into_iter-before-iterator.ensures.into_iter_gives, c.zip-before-items.ensures.first, c.iter.ensures.rest, c.zip-before-items.ensures.second.0)
    (letter_first _ _ _ _ c.requires.entries_named _ _ _ c.in-Some.ensures.cases.0 c.requires.tree_in_bounds c.put_first-at.ensures)

pub put_entry_text-at-requires-clause-e_le_n : goal.put_entry_text-at-requires-clause-e_le_n
put_entry_text-at-requires-clause-e_le_n c = entry_named c.loop-before.invariant.paired c.in-Some-2.ensures.steps

pub put_entry_text-at-requires-clause-e_in_bounds : goal.put_entry_text-at-requires-clause-e_in_bounds
put_entry_text-at-requires-clause-e_in_bounds c = letter_fits c.loop-before.invariant c.in-Some-2.ensures.steps

pub loop-before-preserved : goal.loop-before-preserved
loop-before-preserved c = letter_put c.loop-before.invariant c.in-Some-2.ensures.steps _ _ c.put_entry_text-at.ensures

pub returns : goal.returns
returns c = letter_last c.loop-before.invariant (either_empty_from_Zip c.loop-before.before-iterator c.next.new.self _ c.in-None.is c.next.ensures.steps)
