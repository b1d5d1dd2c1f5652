use Rattle.std.proofs.Common.{ap, sym, ◌∙◌, arith, rules, List, ℕ, ◌∷◌}
use lib.ListN.{length, length-set}
use Rattle.term.specs.Emit.{mark_after}
use Rattle.term.proofs.EntryText.{after_name, marked}
use Rattle.term.proofs.put_entry_text.Goals as goal

pub put_bytes-requires : goal.put_bytes-requires
put_bytes-requires c =
    let text = after_name c.args.lines.now.names.now c.args.before c.args.e (λ z. search rules) in
    omega (arith, ap length text, ap length c.symbol_name.ensures.name, length-set c.args.text.now c.args.at c.mark_after.result, c.requires.e_in_bounds)

pub returns-in_default : goal.returns-in_default
returns-in_default c =
    let text = after_name c.args.lines.now.names.now c.args.before c.args.e (λ z. search rules) ∙ ap (λ (x : List ℕ). mark_after c.args.before ∷ x) (sym c.symbol_name.ensures.name) in
    rw text (marked _ _ _ _ _ _ (rw text at c.requires.e_in_bounds) (rw c.mark_after.ensures at c.put_bytes.ensures))
