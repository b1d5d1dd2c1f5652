-- The counts of the children that are left have a product that each divides.
use Rattle.unrank.proofs.Children.{parts, shared_next}
use Rattle.unrank.proofs.ChildrenOfRowIterator.next.Goals as goal

pub nonzero_div-weight : goal.nonzero_div-weight
nonzero_div-weight c = rw c.from-state.ensures (parts c.args.self.now.shared c.in_ok-first.ensures.cases.0).counts

pub nonzero_div-value : goal.nonzero_div-value
nonzero_div-value c = rw c.from-state.ensures (parts c.args.self.now.shared c.in_ok-first.ensures.cases.0).positive

pub nonzero_rem-self : goal.nonzero_rem-self
nonzero_rem-self c = rw c.from-state.ensures (parts c.args.self.now.shared c.in_ok-first.ensures.cases.0).positive

pub invariant_of-self : goal.invariant_of-self
invariant_of-self c = record { shared = rw c.from-state.ensures (shared_next c.args.self.now.shared c.in_ok-first.ensures.cases.0) }
