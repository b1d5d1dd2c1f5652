use Rattle.model.specs.Answers.{refused_by}
use native.Mathlib.Omega.{arith}
use mathlib.Core.Path.{ap, sym, ◌∙◌}
use Rattle.names.proofs.Lines.{too_many_lem, no_name, fits, part_inner, part_bucket, again, on_none, entered, short_end, no_lines_at_all, faulty_line, sound_list}
use Rattle.names.proofs.check_names.Goals as goal

pub returns-then-n-ge255 : goal.returns-then-n-ge255
returns-then-n-ge255 c = faulty_line _ (ap refused_by c.new.ensures) (too_many_lem c.loop-at.invariant c.loop-at-test.true c.if-n-ge255.true)

pub returns-in_default : goal.returns-in_default
returns-in_default c = faulty_line _ (ap refused_by c.new-in_default.ensures) (no_name c.loop-at.invariant c.loop-at-test.true (sym c.name_end.ensures ∙ c.in_default.is))

pub slice_bounds-find-count : goal.slice_bounds-find-count
slice_bounds-find-count c = omega (arith, (fits c.loop-at.invariant c.loop-at-test.true _ (sym c.name_end.ensures ∙ c.in-Some.is)).1)

pub slice_bounds-find-start : goal.slice_bounds-find-start
slice_bounds-find-start c = omega (arith, fits c.loop-at.invariant c.loop-at-test.true _ (sym c.name_end.ensures ∙ c.in-Some.is))

pub slice_bounds-find-end : goal.slice_bounds-find-end
slice_bounds-find-end c = omega (arith, fits c.loop-at.invariant c.loop-at-test.true _ (sym c.name_end.ensures ∙ c.in-Some.is))

pub find-requires-clause-hashed : goal.find-requires-clause-hashed
find-requires-clause-hashed c =
    (part_bucket c.loop-at.invariant c.loop-at-test.true _ (sym c.name_end.ensures ∙ c.in-Some.is) c.stretch_at-stretch.ensures.hashed, c.stretch_at-stretch.ensures.below)

pub find-requires-clause-name_value : goal.find-requires-clause-name_value
find-requires-clause-name_value c = part_inner c.loop-at.invariant c.loop-at-test.true _ (sym c.name_end.ensures ∙ c.in-Some.is)

pub returns-then-is_some : goal.returns-then-is_some
returns-then-is_some c =
    faulty_line _ (ap refused_by c.new-then-is_some.ensures) (again c.loop-at.invariant c.loop-at-test.true _ (sym c.name_end.ensures ∙ c.in-Some.is) _ c.find.ensures (sym c.is_some.ensures ∙ c.if-is_some.true))

pub overflow_cast-starts : goal.overflow_cast-starts
overflow_cast-starts c = omega (arith, short_end c.loop-at.invariant c.loop-at-test.true _ (sym c.name_end.ensures ∙ c.in-Some.is), c.if-n-ge255.false)

pub loop-at-smaller : goal.loop-at-smaller
loop-at-smaller c = omega (arith, fits c.loop-at.invariant c.loop-at-test.true _ (sym c.name_end.ensures ∙ c.in-Some.is))

pub loop-at-preserved : goal.loop-at-preserved
loop-at-preserved c =
    let e = sym c.name_end.ensures ∙ c.in-Some.is in
    entered c.loop-at.invariant c.loop-at-test.true _ e c.if-n-ge255.false _ (part_bucket c.loop-at.invariant c.loop-at-test.true _ e c.stretch_at-stretch.ensures.hashed)
    c.stretch_at-stretch.ensures.below (on_none c.loop-at.invariant c.loop-at-test.true _ e _ c.find.ensures (sym c.is_some.ensures ∙ c.if-is_some.false))

pub returns-then-n-eq0 : goal.returns-then-n-eq0
returns-then-n-eq0 c = faulty_line _ (ap refused_by c.new-then-n-eq0.ensures) (no_lines_at_all c.loop-at.invariant c.loop-at-test.false c.if-n-eq0.true)

pub returns : goal.returns
returns c = sound_list c.loop-at.invariant c.loop-at-test.false c.if-n-eq0.false
