use Rattle.std.specs.Iterator.Adapters.{zip_first, zip_second}
use Rattle.std.specs.Slice.Iter.{iter_rest}
use Rattle.term.specs.Emit.{entries_text}
use Rattle.term.proofs.EntryText.{Lettered}
use Rattle.term.proofs.put_text.Given as goal

abbrev pub invariant-loop-before : goal.invariant-loop-before
invariant-loop-before l =
    Lettered l.lines.names.now l.lines.n (entries_text l.lines.names.now 0 l.tree) l.fn.text l.text l.at (iter_rest (zip_first l.before-iterator)) (iter_rest (zip_second l.before-iterator))
