-- Laws of the check's outcome, part by part. Assumes nothing.
use Rattle.std.specs.Prelude.{Result, Ok, Err}
use Prim.Native.Nat.{ℕ, ◌<◌, ◌≤◌}
use mathlib.Core.Path.{◌≡◌, sym, ap, subst, ◌∙◌}
use mathlib.Core.Bool.{Bool}
use mathlib.Core.List.{List, ◌++◌}
use native.Mathlib.Omega.{arith}
use lib.ListN.{length, get_or, take, drop, length-map, length-append}
use lib.Seq.{take-append_seam}
use borrow.Author.Tests.{lt-ltb, le-ltb}
use Rattle.model.specs.declared.Refusal.{Refusal}
use Rattle.model.specs.Answers.{Outcome, refused, refused_by, outcome}
use Rattle.model.specs.Choice.{first_faulty}
use Rattle.model.specs.Table.{Row, no_row, row_numbered, how_many_rows, rows_of, table_of, accepting_states}
use Rattle.model.specs.Check.{row_ground, accepting_ground, counts_outcome, check_within, check_outcome, count_limit}
use Rattle.model.proofs.Choice.{no_fault, fault_refused}
use Rattle.model.proofs.Rows.{rows_of_length, rows_of_at}
use Rattle.model.proofs.Checked.{row_good, entry_good}
use Rattle.chains.specs.First.{AllFine, FirstAt}
use Rattle.rows.specs.Words.{rows_in, row_no, after_in, afters}
use Rattle.rows.proofs.Words.{rows_long, after_at}
use Rattle.index.specs.Taken.{AllTaken}
use Rattle.counts.specs.Chain.{InOrder}
use Rattle.table.specs.declared.Checked.{Checked}
use Rattle.table.specs.Checked.{Blank, StatesReady, StatesAnswer, PreparedRows, CheckAnswer}

-- the check from the states on, and from the accepting list on
unfoldable from_states : (states : ℕ) (rows accepting : List ℕ) → Outcome
from_states states rows accepting = counts_outcome count_limit (table_of states rows accepting)

unfoldable from_entries : (states : ℕ) (rows accepting : List ℕ) → Outcome
from_entries states rows accepting = first_faulty (length accepting) (accepting_ground states accepting) (from_states states rows accepting)

-- the ordered choice, one ground after the other: 1
module _ (states : ℕ) (rows accepting : List ℕ) where
  pub too_many_lem : 256 < states → refused 1 0 ≡ check_outcome states rows accepting
  unfolding check_outcome check_within
  too_many_lem gt = rw (lt-ltb 256 states gt)

  module _ (few : states ≤ 256) where
    -- 2 to 6
    pub row_refused : (i k : ℕ) → FirstAt (how_many_rows rows) (row_ground states rows) i k → 0 < k → refused k i ≡ check_outcome states rows accepting
    unfolding check_outcome check_within
    row_refused i k f pos =
        rw (le-ltb 256 states few) (fault_refused (how_many_rows rows) i k (row_ground states rows) _ f.inside f.before f.here pos)

    module _ (rows_fine : AllFine (how_many_rows rows) (row_ground states rows)) where
      from_entries_lem : from_entries states rows accepting ≡ check_outcome states rows accepting
      unfolding check_outcome check_within from_entries from_states
      from_entries_lem = rw (le-ltb 256 states few) (sym (no_fault (how_many_rows rows) (row_ground states rows) _ rows_fine))

      -- 7
      entry_is : (i : ℕ) → FirstAt (length accepting) (accepting_ground states accepting) i 7 → refused 7 i ≡ from_entries states rows accepting
      unfolding from_entries
      entry_is i f = fault_refused (length accepting) i 7 (accepting_ground states accepting) _ f.inside f.before f.here (omega arith)

      pub entry_refused : (i : ℕ) → FirstAt (length accepting) (accepting_ground states accepting) i 7 → refused 7 i ≡ check_outcome states rows accepting
      entry_refused i f = entry_is i f ∙ from_entries_lem

      module _ (entries_fine : AllFine (length accepting) (accepting_ground states accepting)) where
        states_is : from_states states rows accepting ≡ from_entries states rows accepting
        unfolding from_entries
        states_is = sym (no_fault (length accepting) (accepting_ground states accepting) _ entries_fine)

        from_states_lem : from_states states rows accepting ≡ check_outcome states rows accepting
        from_states_lem = states_is ∙ from_entries_lem

-- a refusal leaves nothing to say of the arrays
pub refused_answer : {prepare : Bool} {states : ℕ} {rows accepting words heads first counts sums : List ℕ} (f : Refusal) → refused_by f ≡ check_outcome states rows accepting
    → CheckAnswer prepare states rows accepting words heads first counts sums (Err f)
refused_answer f h = record { answer = h; passed = λ k e. cc }

-- ---- the states

-- rows without fault are in order
rows_order : (states : ℕ) (rows : List ℕ) → AllFine (how_many_rows rows) (row_ground states rows) → InOrder states (rows_of rows)
rows_order states rows fine = record {
  known = λ r l. subst (λ (x : Row). x.target < states) (at r l) (row_good states rows r (fine r (inside r l))).in_range.target_fits;
  lower = λ r l. subst (λ (x : Row). (k : ℕ) → k < length x.args → get_or x.args k 0 < x.target) (at r l) (row_good states rows r (fine r (inside r l))).ordered;
}
  where
    inside : (r : ℕ) → r < length (rows_of rows) → r < how_many_rows rows
    inside r l = rw (rows_of_length rows) at l

    at : (r : ℕ) → r < length (rows_of rows) → row_numbered rows r ≡ row_no (rows_of rows) r
    at r l = sym (rows_of_at rows r no_row (inside r l))

module _ (accepting words : List ℕ) (n : ℕ) {by states : ℕ} {rows heads : List ℕ} (few : states ≤ 256) (x : AllTaken by states rows (take n words) heads n) where
  rows_fine : AllFine (how_many_rows rows) (row_ground states rows)
  rows_fine = rw x.all at x.fine

  module _ (entries_fine : AllFine (length accepting) (accepting_ground states accepting)) where
    pub states_ready : {heads₀ words₀ first counts marks : List ℕ} {used : List ℕ} {sums : List ℕ} → Blank states rows words₀ heads₀ first counts marks used sums → n ≤ length words₀
        → StatesReady states rows (take n words) accepting first counts marks used sums
    states_ready b le = record {
      rows_held = rw x.long x.held;
      ordered = rw x.same (rows_order states rows rows_fine);
      unchained = record { firsts = b.first_empty; afters = λ r l. free r l };
      room = record {
        first_room = b.first_room few;
        cs_room = b.counts_room few;
        marks_room = b.marks_room few;
        sums_room = omega (arith, rows_long rows (take n words), x.long, b.sums_room);
      };
      used_room = b.used_room few;
      uncounted = b.uncounted;
      unmarked = b.unmarked;
      listed = λ i l. (entry_good states accepting i (entries_fine i l)).state;
    }
      where
        free : (r : ℕ) → r < length (afters (take n words)) → get_or (afters (take n words)) r 0 ≡ 0
        free r l =
            let m : r < length (take n words) = rw (length-map (take n words) after_in) at l in
            after_at (take n words) r m ∙ x.free r (rw x.long at m)

    -- what is answered from the states on is what the check answers
    from_here : counts_outcome count_limit (record { states = states; rows = rows_in rows (take n words); accepting = accepting_states accepting }) ≡ check_outcome states rows accepting
    unfolding from_states
    from_here = ap (λ (rs : List Row). counts_outcome count_limit (record { states = states; rows = rs; accepting = accepting_states accepting })) x.same ∙ from_states_lem states rows accepting few rows_fine entries_fine

    module _ {prepare : Bool} {ys first counts sums : List ℕ} {r : Result ℕ Refusal} (y : StatesAnswer prepare states rows (take n words) accepting ys first counts sums r) where
      pub total_refused : {words' heads' : List ℕ} (f : Refusal) → r ≡ Err f → CheckAnswer prepare states rows accepting words' heads' first counts sums (Err f)
      total_refused f e = refused_answer f (ap outcome (sym e) ∙ y.answer ∙ from_here)

      -- the table passes: the part that was lent is what the first n words hold then
      pub total_passed : (t : ℕ) → r ≡ Ok t → (words' : List ℕ) → words' ≡ ys ++ drop n words → CheckAnswer prepare states rows accepting words' heads first counts sums (Ok (record { total = t; rows = record { count = n; by = by } }))
      total_passed t e words' is = record { answer = ap outcome (sym e) ∙ y.answer ∙ from_here; passed = λ k h. other k h }
        where
          long : length ys ≡ n
          long = sym (rows_long rows ys) ∙ ap length y.same ∙ rows_long rows (take n words) ∙ x.long

          part : take n words' ≡ ys
          part = ap (take n) is ∙ ap (λ (k : ℕ). take k (ys ++ drop n words)) (sym long) ∙ take-append_seam ys (drop n words)

          ready : PreparedRows prepare by states rows accepting words' heads first counts sums n
          ready = record {
            long = rw (is, length-append ys (drop n words)) (omega (arith, long));
            same = rw part (y.same ∙ x.same);
            prepared = rw part (record { index = rw (y.same, y.links) x.index; left = y.counted t e });
          }

          other : (k : Checked) → ◌≡◌ {A = Result Checked Refusal} (Ok (record { total = t; rows = record { count = n; by = by } })) (Ok k) → PreparedRows prepare k.rows.by states rows accepting words' heads first counts sums k.rows.count
          other k h =
              let z : ◌≡◌ {A = Checked} (record { total = t; rows = record { count = n; by = by } }) k = cc in
              subst (λ (k : Checked). PreparedRows prepare k.rows.by states rows accepting words' heads first counts sums k.rows.count) z ready
