-- The next link leads further.
use Rattle.counts.proofs.Chain.{onward_shorter}
use Rattle.counts.proofs.RowsOfStateIterator.next.Goals as goal

pub returns-clause-goes : goal.returns-clause-goes
returns-clause-goes c = record { on = λ _. (tt, tt, onward_shorter c.args.self.now.onward _ _ c.in_ok-r.ensures c.after_in-self.ensures); keeps = tt; rests = λ _. tt }
