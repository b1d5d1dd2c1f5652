-- The limits on counts and longest trees, of all states and of used ones. Assumes nothing: these are definitions.
use Rattle.std.specs.Prelude.{ℕ, ◌<◌, ◌≤◌, min, ◌≡◌, List, length, ltb, Result, Ok, Err, if◌then◌else◌}
use Rattle.model.specs.declared.Kind.TheVariants.{CountAboveLimit, LongestTreeAboveLimit}
use Rattle.model.specs.declared.Refusal.{Refusal}
use Rattle.model.specs.Answers.{kind_number}
use Rattle.model.specs.Table.{Table}
use Rattle.model.specs.Count.{count, longest}
use Rattle.model.specs.Check.{count_limit, limit_ground, state_ground}
use Rattle.model.specs.Used.{is_used}
use Rattle.chains.specs.First.{AllFine, FirstAt}
use Rattle.counts.specs.Marks.{top, long_in, over_in}
use Rattle.counts.specs.States.{held}
use Rattle.used.specs.Marked.{is_set}

-- what state q of this mark is refused by: 9 for a count beyond 64 bits, else 10 for a longest tree above 4,096 entries
abbrev pub limits_of : (q mark : ℕ) → Result (Unit {0}) Refusal
limits_of q mark =
    if over_in mark then Err (record { place = q; kind = CountAboveLimit }) else
    if ltb 4096 (long_in mark) then Err (record { place = q; kind = LongestTreeAboveLimit }) else
    Ok tt

-- the marks are those of the table's states
pub record Measures (T : Table) (ms : List ℕ) : Type 0 where
  pub overs : (a : ℕ) → a < T.states → over_in (held ms a) ≡ ltb top (count T a)
  pub longs : (a : ℕ) → a < T.states → long_in (held ms a) ≡ min (longest T a) 4097

-- no state from one on and before another is beyond a limit
abbrev pub FineFrom : (T : Table) (from to : ℕ) → Type 0
FineFrom T from to = (a : ℕ) → from ≤ a → a < to → limit_ground count_limit T a ≡ 0

-- the state is the first from one on that is beyond a limit, with the number of its refusal
pub record BeyondAt (T : Table) (from q number : ℕ) : Type 0 where
  pub after : from ≤ q
  pub inside : q < T.states
  pub before : FineFrom T from q
  pub here : limit_ground count_limit T q ≡ number

-- of every table whose marks these are: the first such state, or there is none
pub record BeyondFrom (states : ℕ) (ms : List ℕ) (from : ℕ) (r : Result (Unit {0}) Refusal) : Type 0 where
  pub inside : (f : Refusal) → r ≡ Err f → (from ≤ f.place) × (f.place < states)
  pub at : (T : Table) → T.states ≡ states → Measures T ms → (f : Refusal) → r ≡ Err f → BeyondAt T from f.place (kind_number f.kind)
  pub none : (T : Table) → T.states ≡ states → Measures T ms → r ≡ Ok tt → FineFrom T from states

-- what the first used state beyond a limit is looked for in
pub record FaultReady (states : ℕ) (ms : List ℕ) (used : List ℕ) : Type 0 where
  pub room : states ≤ length ms
  pub used_room : states ≤ length used

-- the first faulty state of n, or there is none
pub record FaultFound (n : ℕ) (ground_of : ℕ → ℕ) (r : Result (Unit {0}) Refusal) : Type 0 where
  pub fault : (f : Refusal) → r ≡ Err f → FirstAt n ground_of f.place (kind_number f.kind)
  pub fine : r ≡ Ok tt → AllFine n ground_of

-- of every table whose marks and used states these are: the first used state that is beyond a limit, or there is none
pub record FirstUsed (states : ℕ) (ms : List ℕ) (used : List ℕ) (r : Result (Unit {0}) Refusal) : Type 0 where
  pub found : (T : Table) → T.states ≡ states → Measures T ms → ((q : ℕ) → is_set used q ≡ is_used T q) → FaultFound states (state_ground count_limit T) r
