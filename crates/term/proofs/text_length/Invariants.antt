use lib.ListN.{length}
use Rattle.std.specs.Iterator.Adapters.{zip_first, zip_second}
use Rattle.std.specs.Slice.Iter.{iter_rest}
use Rattle.term.specs.Emit.{entries_text}
use Rattle.term.proofs.EntryText.{Summed}
use Rattle.term.proofs.text_length.Given as goal

abbrev pub invariant-loop-before : goal.invariant-loop-before
invariant-loop-before l = Summed l.lines.names.now l.lines.n (length (entries_text l.lines.names.now 0 l.tree)) l.sum (iter_rest (zip_first l.before-iterator)) (iter_rest (zip_second l.before-iterator))
