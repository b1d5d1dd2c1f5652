use Rattle.std.proofs.Common.{◌≡◌}
use Rattle.chains.proofs.Chains.{Walk}
use Rattle.names.specs.NamesIndex.{bucket_of, Sought}
use Rattle.names.proofs.Lines.{sought}
use Rattle.names.proofs.find_name.Given as goal

abbrev pub invariant-loop-k : goal.invariant-loop-k
invariant-loop-k l =
    (l.k-iterator.links.now ≡ l.next) × ((x : Sought l.names l.starts l.heads l.next l.n l.name l.b) → Walk (bucket_of x.seed l.names) (sought l.names l.name) l.b l.n l.k-iterator.link)
