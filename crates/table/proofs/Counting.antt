-- Laws of the check from the states on. Assumes nothing.
use Prim.Native.Nat.{ℕ, ◌≤◌}
use mathlib.Core.Path.{◌≡◌, sym, ap, ◌∙◌}
use mathlib.Core.Bool.{Bool}
use mathlib.Core.List.{List, map}
use native.Mathlib.Omega.{arith}
use lib.ListN.{length}
use borrow.Author.Tests.{lt-ltb, le-ltb}
use Rattle.model.specs.declared.Refusal.{Refusal}
use Rattle.std.specs.Prelude.{Option, Some, None, Result, Ok, Err}
use Rattle.std.specs.Option.{ok_or}
use Rattle.model.specs.Answers.{result, refused, kind_number, refused_by, outcome}
use Rattle.model.specs.Table.{Row, Table, accepting_states}
use Rattle.model.specs.Count.{sum, count, total}
use Rattle.model.specs.Check.{state_ground, counts_outcome, count_limit}
use Rattle.model.proofs.Choice.{no_fault, fault_refused}
use Rattle.model.proofs.Counting.{map_agree, total_is}
use Rattle.model.proofs.Numbers.{kind_positive}
use Rattle.chains.specs.First.{FirstAt}
use Rattle.rows.specs.Words.{rows_in, held_table}
use Rattle.rows.proofs.Words.{rows_long}
use Rattle.counts.specs.Kept.{Is}
use Rattle.counts.specs.Chain.{ChainedRows}
use Rattle.counts.specs.States.{held, CountReady, CountedStates}
use Rattle.counts.proofs.KeptCounts.{kept_within, kept_beyond}
use Rattle.used.specs.Settled.{Settled}
use Rattle.table.specs.Checked.{total_or11, StatesReady, StatesAnswer}

-- ---- the total

pub total_over : {n : ℕ} → Is None n → refused 11 0 ≡ total_or11 n
total_over {n} i = let l = kept_beyond i in rw (lt-ltb count_limit n (omega (arith, l)))

pub total_within : {x n : ℕ} → Is (Some x) n → result x ≡ total_or11 n
total_within {x} {n} i = rw (kept_within i, le-ltb count_limit n (omega (arith, i)))

pub total_told : (k : Option ℕ) (n : ℕ) (r : Refusal) → Is k n → refused_by r ≡ refused 11 0 → outcome (ok_or k r) ≡ total_or11 n
total_told (Some x) n r i e = total_within i
total_told None n r i e = e ∙ total_over i

-- ---- the rows chained, the states counted and held to the limits, the total

module _ {states : ℕ} {pool words accepting first counts marks : List ℕ} {used : List ℕ} {sums : List ℕ} (s : StatesReady states pool words accepting first counts marks used sums) where
  module _ {words' first' : List ℕ} (x : ChainedRows pool words first words' first') where
    pub count_ready : CountReady states (rows_in pool words') first' counts marks sums
    count_ready = record {
      ordered = rw x.same s.ordered;
      room = record {
        first_room = rw x.first_long s.room.first_room;
        cs_room = s.room.cs_room;
        marks_room = s.room.marks_room;
        sums_room = rw x.same s.room.sums_room;
      };
      blank = s.uncounted;
    }

    -- the table is the same
    same_table : counts_outcome count_limit (held_table states pool words' accepting) ≡ counts_outcome count_limit (held_table states pool words accepting)
    same_table = ap (λ (rs : List Row). counts_outcome count_limit (record { states = states; rows = rs; accepting = accepting_states accepting })) x.same

    abbrev T : Table
    T = held_table states pool words' accepting

    module _ {counts' marks' sums' : List ℕ} (y : CountedStates states (rows_in pool words') counts marks sums counts' marks' sums') where
      sums_here : length words' ≤ length sums'
      sums_here = omega (arith, count_ready.room.sums_room, y.sums_long, rows_long pool words')

      module _ {prepare : Bool} {counts'' sums'' : List ℕ} {f : Result (Unit {0}) Refusal} (z : Settled prepare states pool accepting words' counts' counts'' sums' sums'' f) where
        -- a faulty state: 9 or 10
        pub states_fault : (r : Refusal) → f ≡ Err r → StatesAnswer prepare states pool words accepting words' first' counts'' sums'' (Err r)
        states_fault r h = record {
          answer = fault_refused states r.place (kind_number r.kind) (state_ground count_limit T) _ at.inside at.before at.here (kind_positive r.kind) ∙ same_table;
          same = x.same;
          links = x.links;
          counted = λ t i. let w : ◌≡◌ {A = ℕ} 0 1 = cc in absurd (omega arith);
        }
          where
            at : FirstAt states (state_ground count_limit T) r.place (kind_number r.kind)
            at = z.fault r h

        module _ (none : f ≡ Ok tt) where
          listed_total : sum (map (held counts'') accepting) ≡ total T
          listed_total = ap sum (map_agree (held counts'') (count T) 0 accepting (z.listed none)) ∙ sym (total_is T)

          -- no faulty state: the total decides
          pub states_total : (r : Result ℕ Refusal) → outcome r ≡ total_or11 (sum (map (held counts'') accepting)) → StatesAnswer prepare states pool words accepting words' first' counts'' sums'' r
          states_total r e = record {
            answer = e ∙ ap total_or11 listed_total ∙ sym (no_fault states (state_ground count_limit T) _ (z.fine none)) ∙ same_table;
            same = x.same;
            links = x.links;
            counted = λ t i. record {
              rows_held = x.held;
              chained = x.chained;
              first_room = count_ready.room.first_room;
              counts_room = omega (arith, s.room.cs_room, y.cs_long, z.cs_long);
              sums_room = omega (arith, sums_here, z.sums_long);
              left = z.left none;
              counted = λ p. z.prepared p none;
            };
          }
