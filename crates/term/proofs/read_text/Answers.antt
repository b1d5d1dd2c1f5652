use Prim.Native.Nat.{◌+◌}
use native.Mathlib.Omega.{arith}
use mathlib.Core.Path.{◌≡◌, sym, ap, ◌∙◌}
use lib.ListN.{drop}
use Rattle.std.proofs.lemmas.Result.{err_from_is_err_and}
use Rattle.names.specs.NamesIndex.{all_inner, hash_of}
use Rattle.names.proofs.Bytes.{stretch_inner}
use Rattle.names.proofs.Lines.{part_stretch}
use Rattle.term.proofs.Runs.{end_byte}
use Rattle.model.specs.Answers.{refused_by}
use Rattle.term.proofs.Outcomes.{unlisted_breaks, unlisted_whole}
use Rattle.term.proofs.Going.{go_first, go_unlisted, name_there, line_below, go_name, go_taken, go_breaks}
use Rattle.term.proofs.read_text.Goals as goal

pub loop-k-init : goal.loop-k-init
loop-k-init c = rw c.requires.cleared.1 (go_first _ _ _ c.requires.short c.requires.cleared.0)

pub find-requires-clause-hashed : goal.find-requires-clause-hashed
find-requires-clause-hashed c =
    let r = c.stretch_at-stretch.ensures in
    (r.hashed ∙ ap (hash_of c.args.list.now.index.seed) (sym (part_stretch c.args.text.now c.loop-k.i _ r.ends)), r.below)

pub find-requires-clause-name_value : goal.find-requires-clause-name_value
find-requires-clause-name_value c = ap all_inner (part_stretch c.args.text.now c.loop-k.i _ c.stretch_at-stretch.ensures.ends) ∙ stretch_inner (drop c.loop-k.i c.args.text.now)

pub returns-in_err-scan_text : goal.returns-in_err-scan_text
returns-in_err-scan_text c =
    let p = err_from_is_err_and c.from_residual.result c.from_residual.ensures.1 in
    rw (p.1, p.2)
    (go_unlisted c.loop-k.invariant _ _ c.args.list.now.whole c.stretch_at-stretch.ensures.ends (sym c.find.ensures ∙ c.in_default.is)
    (unlisted_breaks _ _ c.loop-k.i c.scan_text.ensures _ c.in_err-scan_text.was))

pub returns-in_default : goal.returns-in_default
returns-in_default c =
    go_unlisted c.loop-k.invariant _ _ c.args.list.now.whole c.stretch_at-stretch.ensures.ends (sym c.find.ensures ∙ c.in_default.is)
    (ap refused_by c.new.ensures ∙ unlisted_whole _ _ c.loop-k.i c.scan_text.ensures c.in_ok-scan_text.was)

pub overflow_add-k : goal.overflow_add-k
overflow_add-k c =
    omega (arith, c.args.list.now.index.indexed.lined.few, line_below (name_there c.loop-k.invariant c.args.list.now.index.indexed c.args.list.now.whole c.stretch_at-stretch.ensures (sym c.find.ensures ∙ c.in-Some.is)))

pub overflow_cast-k : goal.overflow_cast-k
overflow_cast-k c =
    omega (arith, c.args.list.now.index.indexed.lined.few, line_below (name_there c.loop-k.invariant c.args.list.now.index.indexed c.args.list.now.whole c.stretch_at-stretch.ensures (sym c.find.ensures ∙ c.in-Some.is)))

pub after_name-requires : goal.after_name-requires
after_name-requires c =
    let x = (name_there c.loop-k.invariant c.args.list.now.index.indexed c.args.list.now.whole c.stretch_at-stretch.ensures (sym c.find.ensures ∙ c.in-Some.is)).read in
    (x.within, end_byte _ _ _ x.ends, omega (arith, x.going.shallow, x.going.within, x.going.short))

pub returns-in_err-after : goal.returns-in_err-after
returns-in_err-after c =
    let p = err_from_is_err_and c.from_residual-in_err-after.result c.from_residual-in_err-after.ensures.1 in
    rw (p.1, p.2) (go_breaks (name_there c.loop-k.invariant c.args.list.now.index.indexed c.args.list.now.whole c.stretch_at-stretch.ensures (sym c.find.ensures ∙ c.in-Some.is)) _ (c.after_name.ensures.breaks _ c.in_err-after.was))

pub returns-in_default-due : goal.returns-in_default-due
returns-in_default-due c =
    let z = c.after_name.ensures.ends _ c.in_ok-after.was c.in_default-due.is in
    let n : c.loop-k.count + (1 + c.in_ok-after.after.bars) ≡ c.loop-k.count + 1 + c.in_ok-after.after.bars = omega arith in
    rw n (go_taken (name_there c.loop-k.invariant c.args.list.now.index.indexed c.args.list.now.whole c.stretch_at-stretch.ensures (sym c.find.ensures ∙ c.in-Some.is)) _ c.keep.ensures.kept _ z.0 z.1)

pub loop-k-preserved : goal.loop-k-preserved
loop-k-preserved c =
    (go_name (name_there c.loop-k.invariant c.args.list.now.index.indexed c.args.list.now.whole c.stretch_at-stretch.ensures (sym c.find.ensures ∙ c.in-Some.is)) _ c.keep.ensures.kept _ _ _ (c.after_name.ensures.name _ _ c.in_ok-after.was c.in-Some-due.is))
