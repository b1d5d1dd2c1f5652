-- The entries passed are without fault, and the states that they name are marked.
use Rattle.std.proofs.Common.{Bool, false, ap, arith}
use Rattle.model.specs.Answers.{refused_by}
use lib.ListN.{length-replicate, get_or-replicate}
use Rattle.table.proofs.Entries.{seeing_begins, no_state, seen_before, seeing_goes}
use Rattle.table.proofs.check_accepting.Goals.{then-states-from-via-then-states-from, then-states-from-via-else-states-from+then-seen-q}
use Rattle.table.proofs.check_accepting.Goals as goal

pub loop-i-init : goal.loop-i-init
loop-i-init c = seeing_begins _ _ _ (length-replicate {A = Bool} 256 false) (λ q lt. get_or-replicate {A = Bool} 256 q false false lt)

pub returns-then-states-from : goal.returns-then-states-from
returns-then-states-from c = elim c.then-states-from.branch [
  | then-states-from-via-then-states-from w ↦ no_state c.loop-i.invariant c.requires c.loop-i-test.true _ c.from-q.ensures (omega (arith, c.from-q.ensures, c.from.ensures, w.if-states-from.true)) _ (ap refused_by c.new.ensures)
  | then-states-from-via-else-states-from+then-seen-q w ↦ seen_before c.loop-i.invariant c.requires c.loop-i-test.true _ c.from-q.ensures (omega (arith, c.from-q.ensures, c.from.ensures, w.if-states-from.false)) w.if-seen-q.true _ (ap refused_by c.new.ensures)
]

pub loop-i-preserved : goal.loop-i-preserved
loop-i-preserved c =
    seeing_goes c.loop-i.invariant c.requires c.loop-i-test.true _ c.from-q.ensures (omega (arith, c.from-q.ensures, c.from.ensures, c.if-states-from.false)) c.if-seen-q.false
