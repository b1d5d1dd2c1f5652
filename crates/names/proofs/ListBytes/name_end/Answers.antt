use Rattle.std.proofs.Common.{ℕ, ◌+◌, ◌<◌, ◌≤◌, ◌≡◌, ◌-◌, List, length, get_or, Bool, true, false, take, drop, refl, sym, ap, ◌∙◌, arith}
use mathlib.Core.Bool.{not}
use Rattle.std.specs.Bool.{then_some}
use Rattle.model.specs.Names.{is_letter, all_name_bytes}
use Rattle.names.specs.NamesIndex.{stretch, name_end}
use Rattle.names.proofs.Bytes.{byte_there}
use Rattle.names.proofs.Lines.{ten_there, end_other, part_named, end_long, end_unnamed, end_name, end_no_letter}
use Rattle.names.proofs.ListBytes.name_end.Goals.{then-self, else-self, then-ne-via-then-ne, then-ne-via-else-ne+then-name-gt24, then-ne-via-else-ne+else-name-gt24+then-not-is_letter}
use Rattle.names.proofs.ListBytes.name_end.Goals as goal

from_not : (t u : Bool) → not t ≡ u → t ≡ not u
from_not true u e = ap not e
from_not false u e = ap not e

pub returns-then-ne : goal.returns-then-ne
returns-then-ne c =
    let names = c.args.self.now.bytes.now in
    let at = c.args.at in
    let ends = c.requires.end_value.0 in
    let b = c.get.ensures.lookup in
    let found = c.ne.ensures ∙ ap not (byte_there _ _ names c.args.end b.0 (b.4 (omega arith))) in
    elim c.then-ne.branch [
      | then-ne-via-then-ne w ↦ end_other names at _ ends c.requires.end_value.1 (from_not _ _ (sym found ∙ w.if-ne.true))
      | then-ne-via-else-ne+then-name-gt24 w ↦ end_long names at _ ends (ten_there names at _ ends (from_not _ _ (sym found ∙ w.if-ne.false))) w.if-name-gt24.true
      | then-ne-via-else-ne+else-name-gt24+then-not-is_letter w ↦
          end_no_letter names at _ ends (ten_there names at _ ends (from_not _ _ (sym found ∙ w.if-ne.false))) (sym w.is_letter.ensures ∙ w.if-not-is_letter.true)
    ]

-- by whether all its bytes are name bytes
end_by : (names : List ℕ) (at end : ℕ) (l : end ≡ at + length (stretch (drop at names))) (t : (end < length names) × (get_or names end 0 ≡ 10))
    → length (take (end - at) (drop at names)) ≤ 24 → is_letter (get_or names at 0) ≡ true → (b : Bool) → all_name_bytes (take (end - at) (drop at names)) ≡ b
    → then_some b end ≡ name_end names at
end_by names at end l t h e true a = end_name names at end l t h a e
end_by names at end l t h e false a = end_unnamed names at end l t a

pub returns : goal.returns
returns c =
    let names = c.args.self.now.bytes.now in
    let at = c.args.at in
    let ends = c.requires.end_value.0 in
    let b = c.get.ensures.lookup in
    let found = c.ne.ensures ∙ ap not (byte_there _ _ names c.args.end b.0 (b.4 (omega arith))) in
    let ten = ten_there names at _ ends (from_not _ _ (sym found ∙ c.if-ne.false)) in
    let named : c.if-self.then_some ≡ all_name_bytes (take (c.args.end - at) (drop at names)) =
    elim c.if-self.branch [
      | then-self w ↦ w.then_some-is ∙ w.if-self.true ∙ sym (part_named names at _ ends (c.args.self.now.known w.if-self.true))
      | else-self w ↦ w.then_some-is ∙ w.all_name_bytes.ensures
    ] in
    c.then_some.ensures ∙ ap (λ (t : Bool). then_some t c.args.end) named ∙ end_by names at _ ends ten c.if-name-gt24.false (sym c.is_letter.ensures ∙ c.if-not-is_letter.false) _ refl
