use Rattle.model.specs.Answers.{refused_by}
use native.Mathlib.Omega.{arith}
use mathlib.Core.Path.{ap, ◌∙◌}
use Rattle.rank.proofs.Summing.{sum_begins, sum_goes, sum_fits, number_fits, listed_here, not_listed}
use Rattle.rank.proofs.Numbering.number_in.Goals as goal

pub loop-a-init : goal.loop-a-init
loop-a-init c = sum_begins _ _ _

pub overflow_add-result : goal.overflow_add-result
overflow_add-result c = omega (arith, number_fits c.loop-a.invariant c.loop-a-test.true c.requires c.if-a-q.true)

pub returns-then-a-q : goal.returns-then-a-q
returns-then-a-q c = listed_here c.loop-a.invariant c.loop-a-test.true c.if-a-q.true _ _

pub overflow_add-earlier : goal.overflow_add-earlier
overflow_add-earlier c = omega (arith, sum_fits c.loop-a.invariant c.loop-a-test.true c.requires _ c.from.ensures)

pub loop-a-preserved : goal.loop-a-preserved
loop-a-preserved c = sum_goes c.loop-a.invariant c.loop-a-test.true _ c.from.ensures c.if-a-q.false

pub returns : goal.returns
returns c = (ap refused_by c.new.ensures) ∙ not_listed c.loop-a.invariant c.loop-a-test.false _ _
