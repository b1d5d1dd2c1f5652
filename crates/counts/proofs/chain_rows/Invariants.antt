-- The rows from m on are chained, and each turn puts the row before them in front of its target's chain.
use Rattle.counts.proofs.Chain.{Chaining}
use Rattle.counts.proofs.chain_rows.Given as goal

abbrev pub invariant-loop-m : goal.invariant-loop-m
invariant-loop-m l = Chaining l.pool l.initial.words l.initial.first l.words l.first l.m
