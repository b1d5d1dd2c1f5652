-- What a `Numbering` makes of a node and of a tree. Assumes nothing: these are definitions.
use Rattle.std.specs.Prelude.{ℕ, List}
use Rattle.model.specs.Answers.{Outcome}
use Rattle.rows.specs.Listed.{all_rows}
use Rattle.rank.specs.Machine.{Node, node_of, machine}
use Rattle.rank.specs.RankReady.{Closable}
use Rattle.rank.specs.declared.Numbering.{Numbering}

abbrev pub ClosableIn : Numbering → (s : ℕ) (xs vs : List ℕ) → Type 0
ClosableIn n = Closable (all_rows n.index.rows) n.counts.now n.sums.now

abbrev pub node_in : Numbering → (s : ℕ) (xs vs : List ℕ) → Node
node_in n = node_of (all_rows n.index.rows) n.counts.now n.sums.now

abbrev pub machine_in : Numbering → (tree : List ℕ) → Outcome
machine_in n = machine (all_rows n.index.rows) n.accepting.now n.counts.now n.sums.now
