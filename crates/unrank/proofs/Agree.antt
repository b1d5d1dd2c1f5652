-- The entries by what is held for each state are document 01's. Assumes nothing.
use Prim.Native.Nat.{ℕ, suc, ◌<◌}
use mathlib.Core.Path.{◌≡◌, ap, ◌∙◌}
use mathlib.Core.List.{List, map}
use native.Mathlib.Omega.{arith}
use lib.ListN.{length, length-map}
use Rattle.model.specs.Table.{Table}
use Rattle.model.specs.Tree.{serial}
use Rattle.model.specs.Count.{sum}
use Rattle.model.specs.Value.{find_by, tree_in, tree_of}
use Rattle.model.proofs.Good.{AllBelow}
use Rattle.model.proofs.Counting.{get_d_any}
use Rattle.model.proofs.Values.{FindsAt, found, depth_free}
use Rattle.rows.specs.Words.{rows_in, held_table}
use Rattle.counts.specs.States.{held}
use Rattle.unrank.specs.UnrankReady.{UnrankReady}
use Rattle.unrank.specs.Trees.{value_entries, spot_of}
use Rattle.unrank.specs.Written.{number_entries}

-- ---- a number below the total

module _ {states : ℕ} {pool words others first counts sums : List ℕ} (x : UnrankReady states pool words others first counts sums) (accepting : List ℕ)
    (below : AllBelow states accepting) (number : ℕ) (less : number < sum (map (held counts) accepting)) where
  abbrev T : Table
  T = held_table states pool words accepting

  abbrev ws : List ℕ
  ws = map (held counts) accepting

  finds : FindsAt ws number (find_by ws number)
  finds = found ws number less

  inside : (find_by ws number).which < length accepting
  inside = rw (length-map accepting (held counts)) at finds.inside

  abbrev q : ℕ
  q = (spot_of accepting counts number).state

  state : q < states
  state = below (find_by ws number).which inside

  -- the entries are those of the number's tree with the counts that are held
  pub entries_held : number_entries (rows_in pool words) accepting counts number ≡ serial (tree_of T (held counts) number)
  unfolding number_entries value_entries tree_of
  entries_held =
      let v = (find_by ws number).rest in
      ap serial
      (depth_free T.rows x.good.ordered (held counts) (suc q) states q v (omega arith) state
      ∙ ap (λ (p : ℕ). tree_in T.rows (held counts) states p v) (get_d_any accepting (find_by ws number).which 0 states inside))
