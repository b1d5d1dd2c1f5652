-- The states below q are counted.
use Rattle.counts.proofs.All.{countable, counting_goes, counting_ends}
use Rattle.counts.proofs.ByTarget.count_states.Goals as goal

pub count_state-s-requires : goal.count_state-s-requires
count_state-s-requires c = countable c.args.self.now.rows.held c.requires c.loop-q.invariant c.loop-q-test.true

pub loop-q-preserved : goal.loop-q-preserved
loop-q-preserved c = rw c.unwrap_or.ensures (counting_goes c.args.self.now.rows.held c.requires c.loop-q.invariant c.loop-q-test.true c.count_state-s.ensures _ c.mark_of.ensures)

pub returns : goal.returns
returns c = counting_ends c.requires c.loop-q.invariant c.loop-q-test.false
