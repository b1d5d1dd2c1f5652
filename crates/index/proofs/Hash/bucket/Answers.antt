-- The arguments that are left are taken into the hash as all are.
use Rattle.std.proofs.Common.{ap, ◌∙◌}
use Rattle.index.specs.Hash.{hash_of, spread_over}
use Rattle.index.proofs.Hashing.{behind_four, fours_step, spread_below}
use Rattle.index.proofs.Hash.bucket.Goals as goal

pub loop-left-preserved : goal.loop-left-preserved
loop-left-preserved c =
    let l = c.loop-left.left.now in
    rw (behind_four l, c.mixed-h.ensures, c.two.ensures.0, c.two-in-len4-up.ensures.0) (fours_step c.args.self.by c.loop-left.h l c.in-len4-up.len_at_least ∙ c.loop-left.invariant)

pub returns : goal.returns
unfolding hash_of
returns c =
    let a = c.args in
    rw c.from.ensures (ap (spread_over a.self.by a.size) (c.mix_rest.ensures ∙ c.loop-left.invariant), spread_below a.self.by a.size c.mix_rest.result c.requires.0)
