use Prim.Native.Nat.{◌+◌}
use mathlib.Core.List.{◌++◌}
use native.Mathlib.Omega.{arith}
use lib.ListN.{take}
use borrow.Rule.Slice.PartMut.{Post-is}
use Rattle.line.proofs.Feeding.{fed_bytes, fed_holding}
use Rattle.line.proofs.Line.feed.Goals as goal

pub invariant_of-self : goal.invariant_of-self
invariant_of-self c =
    let text = c.args.self.now.text in
    let at = c.min-at.result in
    let n = c.min-n.result in
    record { holding = fed_holding c.args.bytes.now c.requires _ at n _ _ c.with_digits-self.ensures c.min-at.ensures c.min-n.ensures c.min-self.ensures (λ i. take at text ++ (c.copy_from_slice.ensures.after i ++ Post-is at (at + n) text (omega arith) i)) c.args.self.now.holding }

pub returns : goal.returns
returns c held x =
    let text = c.args.self.now.text in
    let at = c.min-at.result in
    let n = c.min-n.result in
    fed_bytes c.args.bytes.now c.requires _ at n _ _ c.with_digits-self.ensures c.min-at.ensures c.min-n.ensures c.min-self.ensures (λ i. take at text ++ (c.copy_from_slice.ensures.after i ++ Post-is at (at + n) text (omega arith) i)) x
