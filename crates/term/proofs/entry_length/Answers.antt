use Prim.Native.Nat.{ℕ, ◌+◌, ◌-◌, ◌≤◌}
use native.Mathlib.Omega.{arith}
use mathlib.Core.Path.{◌≡◌, ap, ◌∙◌}
use lib.ListN.{length, get_or}
use Rattle.term.specs.Emit.{entry_text, mark_after}
use Rattle.term.proofs.EntryText.{mark_some, line_length}
use Rattle.term.proofs.entry_length.Goals.{After-closing_length}
use Rattle.term.proofs.entry_length.Goals as goal

lengths : (c : After-closing_length)
    → (c.from.result - c.from-2.result + c.closing_length.result ≡ length (entry_text c.args.lines.now.names.now (mark_after c.args.before) c.args.e)) × (c.from.result - c.from-2.result + c.closing_length.result ≤ 25)
lengths c =
    let starts = c.args.lines.now.starts.now in
    let next : c.from.result ≡ get_or starts c.args.e 0 = c.from.ensures ∙ ap (λ (k : ℕ). get_or starts k 0) c.from-next.ensures in
    let from : c.from-2.result ≡ get_or starts (c.args.e - 1) 0 = c.from-2.ensures ∙ ap (λ (k : ℕ). get_or starts k 0) (c.saturating_sub.ensures ∙ ap (λ (k : ℕ). k - 1) c.from-next.ensures) in
    line_length c.args.lines.now.lined _ c.requires next from _ (mark_some c.args.before) c.closing_length.ensures

pub overflow_add-result : goal.overflow_add-result
overflow_add-result c = omega (arith, (lengths c).1)

pub returns : goal.returns
returns c = lengths c
