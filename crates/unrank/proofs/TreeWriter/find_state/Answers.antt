use Rattle.unrank.proofs.Accepting.{seek_begins, seek_next, seek_ends}
use Rattle.unrank.proofs.ValueReady.{list_ready}
use Rattle.unrank.proofs.TreeWriter.find_state.Goals as goal

pub loop-a-init : goal.loop-a-init
loop-a-init c = seek_begins (list_ready c.args.self.now.ready c.requires)

pub returns-then-value-self : goal.returns-then-value-self
returns-then-value-self c = rw c.from-state.ensures (seek_ends (list_ready c.args.self.now.ready c.requires) c.loop-a.invariant c.loop-a-test.true (rw c.from-state.ensures at c.if-value-self.true))

pub loop-a-preserved : goal.loop-a-preserved
loop-a-preserved c = rw c.from-state.ensures (seek_next (list_ready c.args.self.now.ready c.requires) c.loop-a.invariant c.loop-a-test.true (rw c.from-state.ensures at c.if-value-self.false))
