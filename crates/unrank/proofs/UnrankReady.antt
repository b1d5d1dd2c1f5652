-- A table that passes, with what its check leaves. Assumes nothing.
use Prim.Native.Nat.{ℕ, ◌<◌}
use mathlib.Core.Path.{◌≡◌, sym, ap, ◌∙◌}
use mathlib.Core.Bool.{true}
use mathlib.Core.List.{List, map}
use native.Mathlib.Omega.{arith}
use lib.ListN.{length, get_or}
use Rattle.model.specs.Table.{Row, Table}
use Rattle.model.specs.Count.{sum, weight, state_counts, count}
use Rattle.model.specs.Value.{earlier_rows}
use Rattle.model.specs.Used.{is_used}
use Rattle.model.proofs.Counting.{count_eqn}
use Rattle.model.proofs.Used.{used_state}
use Rattle.model.proofs.UsedValues.{count_used, used_just, weights_used, earlier_used}
use Rattle.rows.specs.Words.{rows_in, held_table}
use Rattle.counts.specs.Chain.{target}
use Rattle.counts.specs.States.{held}
use Rattle.counts.proofs.Prepared.{as_counted, sum_used}
use Rattle.unrank.specs.UnrankReady.{UnrankReady}

module _ {states : ℕ} {pool words accepting first counts sums : List ℕ} (x : UnrankReady states pool words accepting first counts sums) where
  abbrev T : Table
  T = held_table states pool words accepting

  abbrev rows : List Row
  rows = rows_in pool words

  -- a state in which there is a value is used
  pub used_here : (q value : ℕ) → value < held counts q → is_used T q ≡ true
  used_here q value l = used_just T x.good q (omega (arith, x.counted.counted q))

  module _ (q : ℕ) (u : is_used T q ≡ true) where
    -- its rows count together what it counts
    pub state_held : held counts q ≡ state_counts rows (held counts) q
    unfolding state_counts
    state_held =
        x.counted.counted q ∙ count_used T q u ∙ count_eqn T x.good.ordered q (used_state T q u)
        ∙ ap sum (sym (weights_used T x.good q u))
        ∙ ap (λ (c : ℕ → ℕ). sum (map (weight c q) rows)) (sym (as_counted x.counted))

    -- the sum before one of its rows
    pub sum_held : (k : ℕ) → k < length rows → target rows k ≡ q → get_or sums k 0 ≡ earlier_rows rows (held counts) q k
    sum_held k l e =
        sum_used x.counted k l (ap (is_used T) e ∙ u)
        ∙ ap (λ (t : ℕ). earlier_rows rows (count T) t k) e
        ∙ sym (earlier_used T x.good q k u)
        ∙ ap (λ (c : ℕ → ℕ). earlier_rows rows c q k) (sym (as_counted x.counted))
