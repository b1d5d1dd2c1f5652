-- Counts and sums of unused states set to 0, and used states held to the limits. Assumes nothing: these are definitions.
use Rattle.std.specs.Prelude.{ℕ, ◌<◌, ◌≤◌, ◌≡◌, Bool, true, false, List, length, get_or, if◌then◌else◌, Result, Ok, Err}
use Rattle.model.specs.declared.Refusal.{Refusal}
use Rattle.model.specs.Answers.{kind_number}
use Rattle.model.specs.Count.{count}
use Rattle.model.specs.Check.{count_limit, state_ground}
use Rattle.chains.specs.First.{AllFine, FirstAt}
use Rattle.rows.specs.Words.{target_in, rows_in, afters, held_table}
use Rattle.counts.specs.Chain.{InOrder, Chained}
use Rattle.counts.specs.States.{held, CountsKnown}
use Rattle.counts.specs.Prepared.{UsedCounts, Left}
use Rattle.used.specs.Marked.{is_set, Placed}

-- the target of the row of word k
abbrev pub target_at : List ℕ → ℕ → ℕ
target_at words k = target_in (get_or words k 0)

-- the rows of the words, with some pool, are chained by target, and each has a sum
pub record RowsChained (words first sums : List ℕ) (q : ℕ) : Type 0 where
  pub pool : List ℕ
  pub chained : Chained (rows_in pool words) first (afters words)
  pub state : q < length first
  pub sums_room : length words ≤ length sums

-- the sums of the rows of one target are 0, and the others stay
pub record RowsCleared (words : List ℕ) (q : ℕ) (sums₀ sums : List ℕ) : Type 0 where
  pub long : length sums ≡ length sums₀
  pub own : (k : ℕ) → k < length words → target_at words k ≡ q → get_or sums k 0 ≡ 0
  pub others : (k : ℕ) → (target_at words k ≡ q → ⊥) → get_or sums k 0 ≡ get_or sums₀ k 0

-- what unused states are cleared from
pub record ClearReady (states : ℕ) (words first : List ℕ) (used : List ℕ) (cs sums : List ℕ) : Type 0 where
  pub pool : List ℕ
  pub ordered : InOrder states (rows_in pool words)
  pub chained : Chained (rows_in pool words) first (afters words)
  pub first_room : states ≤ length first
  pub used_room : states ≤ length used
  pub cs_room : states ≤ length cs
  pub sums_room : length words ≤ length sums

-- the counts of states without a mark, and the sums of their rows, are 0; the others stay
pub record Cleared (states : ℕ) (words : List ℕ) (used : List ℕ) (cs₀ cs ss₀ ss : List ℕ) : Type 0 where
  pub cs_long : length cs ≡ length cs₀
  pub sums_long : length ss ≡ length ss₀
  pub counts : (a : ℕ) → a < states → held cs a ≡ (if is_set used a then held cs₀ a else 0)
  pub beyond : (a : ℕ) → states ≤ a → held cs a ≡ held cs₀ a
  pub sums : (k : ℕ) → k < length words → get_or ss k 0 ≡ (if is_set used (target_at words k) then get_or ss₀ k 0 else 0)

-- there is a place for each state and for each row
pub record SettleRoom (states : ℕ) (words first cs ms : List ℕ) (used : List ℕ) (sums : List ℕ) : Type 0 where
  pub first_room : states ≤ length first
  pub cs_room : states ≤ length cs
  pub ms_room : states ≤ length ms
  pub used_room : states ≤ length used
  pub sums_room : length words ≤ length sums

-- what used states are held to the limits from, beside the chains
pub record SettleReady (states : ℕ) (pool accepting words first cs ms : List ℕ) (used : List ℕ) (sums : List ℕ) : Type 0 where
  pub ordered : InOrder states (rows_in pool words)
  pub listed : Placed states accepting
  pub room : SettleRoom states words first cs ms used sums
  pub blank : (q : ℕ) → is_set used q ≡ false
  pub kept : CountsKnown states (rows_in pool words) cs ms sums

-- the first used state beyond a limit; or there is none: then listed states have their counts, and what is left are the counts of used states, or of
-- all states, where it is not to prepare for numbering and no state is beyond a limit
pub record Settled (prepare : Bool) (states : ℕ) (pool accepting words cs₀ cs sums₀ sums : List ℕ) (r : Result (Unit {0}) Refusal) : Type 0 where
  pub cs_long : length cs ≡ length cs₀
  pub sums_long : length sums ≡ length sums₀
  pub fault : (f : Refusal) → r ≡ Err f → FirstAt states (state_ground count_limit (held_table states pool words accepting)) f.place (kind_number f.kind)
  pub fine : r ≡ Ok tt → AllFine states (state_ground count_limit (held_table states pool words accepting))
  pub listed : r ≡ Ok tt → (i : ℕ) → i < length accepting
      → held cs (get_or accepting i 0) ≡ count (held_table states pool words accepting) (get_or accepting i 0)
  pub left : r ≡ Ok tt → Left (held_table states pool words accepting) cs sums
  pub prepared : prepare ≡ true → r ≡ Ok tt → UsedCounts (held_table states pool words accepting) cs sums
