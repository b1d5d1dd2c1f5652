-- The entries passed that have trees are marked.
use Rattle.used.proofs.Marks.{some, picks_begin, picks_end, listed_skip, listed_go}
use Rattle.used.proofs.mark_listed.Goals.{then-counts-q-ne0, else-counts-q-ne0}
use Rattle.used.proofs.mark_listed.Goals as goal

pub loop-a-init : goal.loop-a-init
loop-a-init c = picks_begin c.args.list.now (some c.args.counts.now) c.args.used.now

pub loop-a-preserved : goal.loop-a-preserved
loop-a-preserved c =
    elim c.if-counts-q-ne0.branch [
      | then-counts-q-ne0 w ↦ rw w.used-is (listed_go c.args.list.now c.args.counts.now c.args.used.now c.loop-a.used c.loop-a.a-index _ c.from-q.ensures (rw c.from-q.ensures (c.requires.marked.placed c.loop-a.a-index c.loop-a-test.true)) w.if-counts-q-ne0.true c.loop-a.invariant)
      | else-counts-q-ne0 w ↦ rw w.used-is (listed_skip c.args.list.now c.args.counts.now c.args.used.now c.loop-a.used c.loop-a.a-index _ c.from-q.ensures w.if-counts-q-ne0.false c.loop-a.invariant)
    ]

pub returns : goal.returns
returns c = picks_end c.args.list.now (some c.args.counts.now) _ _ c.loop-a.a-index c.loop-a.auto.a-index-end c.loop-a-test.false c.loop-a.invariant
