-- The key decides, or else the arguments.
use Rattle.std.proofs.Common.{◌∙◌}
use borrow.Author.Tests.{ne_eqb}
use Rattle.index.proofs.Laws.{key_differs, key_same}
use Rattle.index.proofs.Key.row_is.Goals as goal

pub returns-then-w-self : goal.returns-then-w-self
returns-then-w-self c = key_same c.args.pool.now c.args.w c.args.self.now.front c.args.self.now.args.now _ _ c.if-w-self.true c.args_in.ensures c.same.ensures

pub returns-else-w-self : goal.returns-else-w-self
returns-else-w-self c = ne_eqb _ _ c.if-w-self.false ∙ key_differs c.args.pool.now c.args.w c.args.self.now.front c.args.self.now.args.now c.requires c.args.self.now.counted c.if-w-self.false
