-- What writing starts from: a table that passes, with what its check leaves. Assumes nothing: these are definitions.
use Rattle.std.specs.Prelude.{ℕ, ◌≤◌, ◌≡◌, true, List, map, length}
use Rattle.model.specs.Count.{sum, longest}
use Rattle.model.specs.Used.{is_used}
use Rattle.model.proofs.Good.{AllBelow, Good}
use Rattle.rows.specs.Words.{rows_in, afters, held_table, Held}
use Rattle.counts.specs.Chain.{Chained}
use Rattle.counts.specs.States.{held}
use Rattle.counts.specs.Prepared.{UsedCounts}

-- a table whose used states have no tree above the limit, its rows held in words and chained by target, the counts of its used states and the
-- sums of their rows
pub record UnrankReady (states : ℕ) (pool words accepting first counts sums : List ℕ) : Type 0 where
  pub good : Good (held_table states pool words accepting)
  pub few : states ≤ 256
  pub short : (q : ℕ) → is_used (held_table states pool words accepting) q ≡ true → longest (held_table states pool words accepting) q ≤ 4096
  pub rows_held : Held pool words (length words)
  pub chained : Chained (rows_in pool words) first (afters words)
  pub first_room : states ≤ length first
  pub counts_room : states ≤ length counts
  pub sums_room : length words ≤ length sums
  pub counted : UsedCounts (held_table states pool words accepting) counts sums

-- such a table, and a list of accepting states with its total; the table may list others, whose counts are left too
pub record WriteReady (pool words accepting first counts sums : List ℕ) (total : ℕ) : Type 0 where
  pub states : ℕ
  pub others : List ℕ
  pub ready : UnrankReady states pool words others first counts sums
  pub listed : AllBelow states accepting
  pub total_is : total ≡ sum (map (held counts) accepting)
