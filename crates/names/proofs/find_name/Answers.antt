use native.Mathlib.Omega.{arith}
use mathlib.Core.Path.{refl, sym, ap, ◌∙◌}
use mathlib.Core.List.{List}
use Prim.Native.Nat.{ℕ, ◌-◌}
use Rattle.model.specs.Names.{same_name}
use Rattle.model.proofs.Bytes.{name_bytes_lem}
use Rattle.chains.proofs.Chains.{walk_begins, walk_goes, walk_finds, walk_ends}
use Rattle.names.proofs.Lines.{name_bucket, no_earlier}
use Rattle.names.proofs.find_name.Goals as goal

pub loop-k-init : goal.loop-k-init
loop-k-init c =
    rw c.into_iter-k-iterator.ensures.into_iter_gives (refl, λ x. rw c.from.ensures (walk_begins _ _ _ (name_bucket x.seed c.args.names.now _ _ x.hashed) x.indexed.chains x.below))

pub same_name-requires-clause-a_value : goal.same_name-requires-clause-a_value
same_name-requires-clause-a_value c =
    let g = c.in-Some.ensures.steps.0 in
    rw c.name_at.ensures (name_bytes_lem _ (c.requires.sought.indexed.lined.stands c.in-Some.k (omega (arith, g.here, g.line, (c.loop-k.invariant.1 c.requires.sought).within))).named)

pub name_at-requires-clause-k_lt_n : goal.name_at-requires-clause-k_lt_n
name_at-requires-clause-k_lt_n c =
    let g = c.in-Some.ensures.steps.0 in
    omega (arith, g.here, g.line, (c.loop-k.invariant.1 c.requires.sought).within)

pub returns-then-same_name : goal.returns-then-same_name
returns-then-same_name c =
    let x = c.requires.sought in
    let g = c.in-Some.ensures.steps.0 in
    let told = rw g.line at (sym (c.same_name.ensures ∙ ap (λ (x : List ℕ). same_name x c.args.name.now) c.name_at.ensures) ∙ c.if-same_name.true) in
    rw g.line
    (walk_finds _ _ _ c.loop-k.k-iterator.link (c.loop-k.invariant.1 x) g.here told (no_earlier c.requires.sought.indexed _ (c.loop-k.k-iterator.link - 1) (omega (arith, g.here, (c.loop-k.invariant.1 c.requires.sought).within)) told))

pub loop-k-preserved : goal.loop-k-preserved
loop-k-preserved c =
    let s = c.in-Some.ensures.steps in
    let g = s.0 in
    let told = rw g.line at (sym (c.same_name.ensures ∙ ap (λ (x : List ℕ). same_name x c.args.name.now) c.name_at.ensures) ∙ c.if-same_name.false) in (
      s.1 ∙ c.loop-k.invariant.0,
      λ x. rw (g.next, c.loop-k.invariant.0, g.line) (walk_goes _ _ _ (name_bucket x.seed c.args.names.now _ _ x.hashed) x.indexed.chains c.loop-k.k-iterator.link (c.loop-k.invariant.1 x) g.here told),
    )

pub returns : goal.returns
returns c = let z = c.in-None.ensures.steps in walk_ends _ _ _ c.loop-k.k-iterator.link (c.loop-k.invariant.1 c.requires.sought) (omega arith)
