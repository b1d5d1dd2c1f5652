use native.Mathlib.Omega.{arith}
use mathlib.Core.Path.{sym, ◌∙◌}
use Rattle.rank.proofs.Folding.{found_inside, node_forms, node_reaches, node_stuck}
use Rattle.rank.proofs.Numbering.close.Goals as goal

pub offset_bounds-self-k : goal.offset_bounds-self-k
offset_bounds-self-k c = omega (arith, found_inside c.args.self.now.index.rows.pool.now c.args.self.now.index.rows.words.now _ _ _ (sym c.find.ensures ∙ c.in_ok-k.was), c.args.self.now.index.rows.held.many)

pub bounds-self-k : goal.bounds-self-k
bounds-self-k c = found_inside c.args.self.now.index.rows.pool.now c.args.self.now.index.rows.words.now _ _ _ (sym c.find.ensures ∙ c.in_ok-k.was)

pub value_in-requires : goal.value_in-requires
value_in-requires c = node_forms c.args.self.now.index.rows.pool.now c.args.self.now.index.rows.words.now _ _ _ (sym c.find.ensures ∙ c.in_ok-k.was) c.args.self.now.counts.now c.args.self.now.sums.now c.args.node.values.now c.requires _ c.target_in-q.ensures

pub returns : goal.returns
returns c = node_reaches c.args.self.now.index.rows.pool.now c.args.self.now.index.rows.words.now _ _ _ (sym c.find.ensures ∙ c.in_ok-k.was) c.args.self.now.counts.now c.args.self.now.sums.now c.args.node.values.now _ _ c.target_in-q.ensures c.value_in.ensures

pub returns-in_err-k : goal.returns-in_err-k
returns-in_err-k c = rw c.from_residual.ensures (node_stuck _ _ _ _ _ _ (sym c.find.ensures ∙ c.in_err-k.was))
