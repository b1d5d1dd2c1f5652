-- The states have their turns from the highest down, until every state below that has trees is marked.
use lib.ListN.{take}
use Rattle.used.proofs.Pass.{Passing}
use Rattle.used.proofs.find_used.Given as goal

abbrev pub invariant-loop-m : goal.invariant-loop-m
invariant-loop-m l = Passing l.states l.by_target.rows.pool.now l.accepting l.by_target.rows.words.now (take l.states l.counts) l.initial.used l.used l.m l.n
