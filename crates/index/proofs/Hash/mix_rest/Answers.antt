use Rattle.std.proofs.Common.{◌∙◌}
use Rattle.index.proofs.Hashing.{rest_none, rest_one, rest_two, rest_three}
use Rattle.index.proofs.Hash.mix_rest.Goals as goal

pub returns-in-empty : goal.returns-in-empty
returns-in-empty c = rest_none _ _ _ c.in-empty.len_below

pub returns-in-len1 : goal.returns-in-len1
returns-in-len1 c =
    let a = c.args in
    (rw c.from.ensures at c.mixed.ensures) ∙ rest_one a.self.by a.start a.args.now c.in-len1.len_at_least c.in-len1.len_below

pub returns-in-len2 : goal.returns-in-len2
returns-in-len2 c =
    let a = c.args in
    (rw c.two.ensures.0 at c.mixed-in-len2.ensures) ∙ rest_two a.self.by a.start a.args.now c.in-len2.len_at_least c.in-len2.len_below

pub returns-in-len3-up : goal.returns-in-len3-up
returns-in-len3-up c =
    let a = c.args in
    (rw (c.mixed-in-len3-up.ensures, c.two-in-len3-up.ensures.0, c.from-in-len3-up.ensures) at c.mixed-in-len3-up-2.ensures)
    ∙ rest_three a.self.by a.start a.args.now c.in-len3-up.len_at_least c.requires
