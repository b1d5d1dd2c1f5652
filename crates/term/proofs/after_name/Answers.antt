use Rattle.std.proofs.Common.{◌≡◌, ◌+◌, length, sym, ap, ◌∙◌, arith}
use Rattle.model.specs.Answers.{refused_by}
use Rattle.names.proofs.Bytes.{byte_is, no_byte, some_byte}
use Rattle.term.proofs.Marks.{opened_on, shut_ends, shut_early, shut_rest, shut_comma}
use Rattle.term.proofs.after_name.Goals.{in_default-via-in-None+else-c-depth, in_default-via-in-Some-eq44+else-c-depth-2, in_default-via-in-Some+in_default, in-None, in-Some-eq44}
use Rattle.term.proofs.after_name.Goals as goal

pub returns-then-eq : goal.returns-then-eq
returns-then-eq c =
    let open_is = byte_is c.get.result _ c.args.text.now c.args.end (omega arith) (c.get.ensures.lookup.4 (omega arith)) in
    opened_on _ _ _ c.requires.1 (sym (c.eq.ensures ∙ open_is) ∙ c.if-eq.true)

pub returns-in_default : goal.returns-in_default
returns-in_default c =
    let text = c.args.text.now in
    let i = c.args.end + c.closes-c.result in
    let open_is = byte_is c.get.result _ text c.args.end (omega arith) (c.get.ensures.lookup.4 (omega arith)) in
    let shut = sym (c.eq.ensures ∙ open_is) ∙ c.if-eq.false in
    let there = c.get-2.ensures.lookup in
    let told = ap refused_by c.new.ensures in
    elim c.in_default.branch [
      | in_default-via-in-None+else-c-depth w ↦
          let out = no_byte c.get-2.result (length text) i w.in-None.is there.0 in
          shut_early _ _ _ c.requires.1 shut _ c.closes-c.ensures (omega (arith, c.closes-c.ensures.within)) (λ e. w.if-c-depth.false (sym e)) told
      | in_default-via-in-Some-eq44+else-c-depth-2 w ↦
          let found = some_byte c.get-2.result w.in-Some-eq44.field-0 text i w.in-Some-eq44.is there.0 (there.4 (omega arith)) in
          shut_rest _ _ _ c.requires.1 shut _ c.closes-c.ensures found.0 (λ e. w.if-c-depth-2.false) _ told
      | in_default-via-in-Some+in_default w ↦
          let found = some_byte c.get-2.result w.in_default.field-0 text i w.in_default.is there.0 (there.4 (omega arith)) in
          shut_rest _ _ _ c.requires.1 shut _ c.closes-c.ensures found.0 (λ e. absurd (w.in_default.field-0-test.1 (let f = found.1 in cc))) _ told
    ]

pub returns : goal.returns
returns c =
    let text = c.args.text.now in
    let i = c.args.end + c.closes-c.result in
    let open_is = byte_is c.get.result _ text c.args.end (omega arith) (c.get.ensures.lookup.4 (omega arith)) in
    let shut = sym (c.eq.ensures ∙ open_is) ∙ c.if-eq.false in
    let there = c.get-2.ensures.lookup in
    elim c.match-get.branch [
      | in-None w ↦
          let out = no_byte c.get-2.result (length text) i w.in-None.is there.0 in
          let ends : i ≡ length text = omega (arith, c.closes-c.ensures.within) in
          rw w.due-is (shut_ends _ _ _ c.requires.1 shut _ c.closes-c.ensures ends (sym w.if-c-depth.true))
      | in-Some-eq44 w ↦
          let found = some_byte c.get-2.result w.in-Some-eq44.field-0 text i w.in-Some-eq44.is there.0 (there.4 (omega arith)) in
          let other : c.args.depth ≡ c.closes-c.result → ⊥ = λ e. omega (arith, w.if-c-depth-2.true) in
          rw w.due-is (shut_comma _ _ _ c.requires.1 shut _ c.closes-c.ensures found.0 other (found.1 ∙ w.in-Some-eq44.field-0-test))
    ]
