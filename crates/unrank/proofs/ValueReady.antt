-- What a table that passes leaves for a value below the count of its state, whatever its states and its list are. Assumes nothing.
use Prim.Native.Nat.{ℕ, ◌<◌, ◌≤◌}
use mathlib.Core.Path.{◌≡◌}
use mathlib.Core.List.{List}
use mathlib.Core.Logic.{∥∥₁_elim}
use native.Mathlib.Omega.{arith}
use lib.ListN.{length, get_or}
use Rattle.std.proofs.Props.{props}
use Rattle.model.specs.Count.{state_counts}
use Rattle.model.specs.Value.{earlier_rows}
use Rattle.model.proofs.Good.{Ordered}
use Rattle.model.proofs.Used.{used_state}
use Rattle.rows.specs.Words.{rows_in, afters, held_table, Held}
use Rattle.counts.specs.Chain.{target, Chained}
use Rattle.counts.specs.States.{held}
use Rattle.unrank.specs.UnrankReady.{WriteReady}
use Rattle.unrank.specs.Trees.{value_entries, ListReady}
use Rattle.unrank.proofs.UnrankReady.{used_here, state_held, sum_held}
use Rattle.unrank.proofs.Trees.{short}

-- a value below the count of its state: the state has places and rows, which count together what it counts, and the sums before its rows
pub record ValueReady (pool words first counts sums : List ℕ) (q value : ℕ) : Type 0 where
  pub rows_held : Held pool words (length words)
  pub ordered : Ordered (rows_in pool words)
  pub chained : Chained (rows_in pool words) first (afters words)
  pub sums_room : length words ≤ length sums
  pub first_place : q < length first
  pub counts_place : q < length counts
  pub less : value < held counts q
  pub together : held counts q ≡ state_counts (rows_in pool words) (held counts) q
  pub summed : (k : ℕ) → k < length (rows_in pool words) → target (rows_in pool words) k ≡ q → get_or sums k 0 ≡ earlier_rows (rows_in pool words) (held counts) q k
  pub short : length (value_entries (rows_in pool words) counts q value) ≤ 4096

module _ {pool words accepting first counts sums : List ℕ} {total : ℕ} (w : ∥ WriteReady pool words accepting first counts sums total ∥₁) where
  pub value_ready : {q value : ℕ} → value < held counts q → ValueReady pool words first counts sums q value
  value_ready {q} {value} l = ∥∥₁_elim w (Prim.hlevel props) (λ x.
      let u = used_here x.ready q value l in
      let i = used_state (held_table x.states pool words x.others) q u in
      record {
        rows_held = x.ready.rows_held;
        ordered = x.ready.good.ordered;
        chained = x.ready.chained;
        sums_room = x.ready.sums_room;
        first_place = omega (arith, i, x.ready.first_room);
        counts_place = omega (arith, i, x.ready.counts_room);
        less = l;
        together = state_held x.ready q u;
        summed = sum_held x.ready q u;
        short = short x.ready q value l;
      })

  -- a number below the total
  pub list_ready : {number : ℕ} → number < total → ListReady accepting counts number
  list_ready l = ∥∥₁_elim w (Prim.hlevel props) (λ x. record { states = λ i m. omega (arith, x.listed i m, x.ready.counts_room); less = omega (arith, x.total_is) })
