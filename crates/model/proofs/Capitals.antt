-- The letters that `lower` moves.
use Prim.Native.Nat.{ℕ, ◌≤◌}
use mathlib.Core.Path.{◌≡◌}
use mathlib.Core.Bool.{Bool, true}
use lib.Dec.{leb}
use borrow.Author.Tests.{leb-true}
use Rattle.model.specs.Names.{between}
use Rattle.model.proofs.Choice.{and_true}

-- a letter that `lower` moves: from A to Z
abbrev pub capital : ℕ → Bool
capital b = between 65 90 b

pub capital_from : (b : ℕ) → capital b ≡ true → 65 ≤ b
capital_from b e = leb-true 65 b (and_true (leb 65 b) _ e).0

pub capital_to : (b : ℕ) → capital b ≡ true → b ≤ 90
capital_to b e = leb-true b 90 (and_true (leb 65 b) _ e).1
