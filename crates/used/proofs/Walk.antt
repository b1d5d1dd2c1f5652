-- The rows of one target, taken along their chain. Assumes nothing.
use Prim.Native.Nat.{ℕ, zero, suc, ◌-◌, ◌<◌, ◌≤◌}
use mathlib.Core.Path.{◌≡◌, sym, ap, ◌∙◌}
use mathlib.Core.List.{List}
use native.Mathlib.Omega.{arith}
use lib.ListN.{length, get_or}
use Rattle.model.specs.Table.{Row}
use Rattle.model.proofs.Counting.{get_d_map}
use Rattle.rows.specs.Words.{after_in, args_in, target_in, rows_in, row_no, afters}
use Rattle.rows.proofs.Words.{row_held_lem}
use Rattle.counts.specs.Chain.{target, leads, TargetLink, Chained, Comes}
use Rattle.counts.proofs.Chain.{leads_row, leads_end}

-- the link leads to a row of the state, or to none
pub record AtRow (rows : List Row) (q p : ℕ) : Type 0 where
  pub inside : 0 < p → p - 1 < length rows
  pub mine : 0 < p → target rows (p - 1) ≡ q

pub at_link : {rows : List Row} {q i : ℕ} (p : ℕ) → TargetLink rows q i (length rows) p → AtRow rows q p
at_link {rows} p t = record { inside = λ l. rw (leads_row p (length rows) l) at (t.inside l); mine = λ l. rw (leads_row p (length rows) l) at (t.mine l) }

pub leads_within : {rows : List Row} {q : ℕ} (p : ℕ) → AtRow rows q p → leads p (length rows) ≤ length rows
leads_within {rows} zero a = rw (leads_end (length rows)) (omega arith)
leads_within {rows} (suc p) a = rw (leads_row (suc p) (length rows) (omega arith)) (omega (arith, a.inside (omega arith)))

-- a row's target stands in its word
pub target_word : (pool words : List ℕ) (k : ℕ) → k < length words → target (rows_in pool words) k ≡ target_in (get_or words k 0)
target_word pool words k l = ap (λ (r : Row). r.target) (row_held_lem pool words k l)

module _ (pool words : List ℕ) {first : List ℕ} {q p r word p' : ℕ} (chained : Chained (rows_in pool words) first (afters words)) (a : AtRow (rows_in pool words) q p)
    (g : Comes words p r word p') where
  pub row_here : r < length (rows_in pool words)
  row_here = rw g.here.1 (a.inside g.here.0)

  pub mine_here : target (rows_in pool words) r ≡ q
  mine_here = rw g.here.1 (a.mine g.here.0)

  pub args_here : (row_no (rows_in pool words) r).args ≡ args_in pool word
  args_here = ap (λ (r : Row). r.args) (row_held_lem pool words r g.inside) ∙ ap (args_in pool) (sym g.held)

  pub link_next : TargetLink (rows_in pool words) q (suc r) (length (rows_in pool words)) p'
  link_next = rw (g.next, g.held) (rw (mine_here, get_d_map after_in words r 0 0 g.inside) at (chained.afters r (omega arith) row_here))
