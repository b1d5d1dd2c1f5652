-- The check, and what follows it: the parts' promises together are the operations'. Assumes nothing.
use Rattle.std.specs.Borrow.{Bor}
use Rattle.std.specs.Prelude.{Result, Ok, Err, if◌then◌else◌}
use Prim.Native.Nat.{ℕ, ◌<◌, ◌≤◌}
use mathlib.Core.Path.{◌≡◌, refl, sym, ap, subst, ◌∙◌}
use mathlib.Core.List.{List, map}
use native.Mathlib.Omega.{arith}
use native.Mathlib.Decide.{dec_le}
use native.Mathlib.Nat.{lt_of_not-le}
use lib.ListN.{length, get_or, take, replicate, length-replicate, get_or-replicate, get_or-eq_default}
use lib.Dec.{ltb}
use borrow.Author.Tests.{ltb-true}
use mathlib.Core.Bool.{Bool, true, false, not}
use Rattle.model.specs.Answers.{Outcome, result, refused, refused_by, outcome, lent_after}
use Rattle.model.specs.Table.{Row, Table, table_of}
use Rattle.model.specs.Tree.{serial}
use Rattle.model.specs.Count.{sum, count, longest, total}
use Rattle.model.specs.Used.{is_used}
use Rattle.model.specs.Check.{check_outcome, count_limit, Passes}
use Rattle.model.specs.Entries.{tree_then, tree_from}
use Rattle.model.specs.Value.{tree_number, tree_of}
use Rattle.model.specs.Number.{checked_then, accepted_then, number_tree, number_outcome}
use Rattle.model.specs.Write.{tree_fits, tree_entries, write_tree, write_tree_list, write_outcome, write_list}
use Rattle.model.specs.declared.Refusal.{Refusal}
use Rattle.model.proofs.Good.{Good, Within}
use Rattle.model.proofs.Counting.{total_is as total_sum}
use Rattle.model.proofs.Used.{used_state}
use Rattle.model.proofs.UsedValues.{total_used, tree_used}
use Rattle.model.proofs.Demand3.{passing_good, passing_within, passing_total}
use Rattle.rows.specs.Words.{rows_in, held_table}
use Rattle.rows.specs.Walk.{Room}
use Rattle.counts.specs.States.{held}
use Rattle.counts.specs.Prepared.{UsedCounts, every_listed, Left, used, whole}
use Rattle.counts.proofs.Prepared.{as_counted, as_whole, every_good, whole_used, whole_short}
use Rattle.table.specs.declared.Checked.{Checked}
use Rattle.table.specs.Checked.{told, Blank, CheckAnswer, PreparedRows}
use Rattle.rank.specs.RankReady.{RankReady, TableReady}
use Rattle.rank.specs.Machine.{machine}
use Rattle.rank.proofs.Tables.{ready as rank_ready, numbers}
use Rattle.unrank.specs.UnrankReady.{UnrankReady, WriteReady}
use Rattle.unrank.specs.Written.{number_entries, write_below, WroteBelow}
use Rattle.unrank.proofs.Agree.{entries_held}
use Rattle.operations.specs.declared.Task.{Task}
use Rattle.operations.specs.declared.Task.TheVariants.{Check, Number, Write}
use Rattle.operations.specs.Answered.{task_prepares, Answered}

-- ---- arrays as they are made

same_all : {A : Type 0} (n a : ℕ) (d : A) → get_or (replicate n d) a d ≡ d
same_all {A} n a d = go (dec_le n a)
  where
    go : Dec (n ≤ a) → get_or {A = A} (replicate n d) a d ≡ d
    go (yes l) = get_or-eq_default (replicate n d) d (rw (length-replicate {A = A} n d) l)
    go (no l) = get_or-replicate {A = A} n a d d (lt_of_not-le l)

pub blank : {states : ℕ} {rows : List ℕ} (w h s : ℕ) → Room w (length rows) → (0 < h) × (h ≤ 65536) → (states ≤ 256 → states ≤ s)
    → Blank states rows (replicate w 0) (replicate h 0) (replicate s 0) (replicate s 0) (replicate s 0) (replicate s 0) (replicate w 0)
blank {states} {rows} w h s room sized few = record {
  room = rw (length-replicate {A = ℕ} w 0) room;
  sized = rw (length-replicate {A = ℕ} h 0) sized;
  heads_empty = λ b l. get_or-replicate {A = ℕ} h b 0 0 (rw (length-replicate {A = ℕ} h 0) at l);
  first_empty = λ q l. get_or-replicate {A = ℕ} s q 0 0 (rw (length-replicate {A = ℕ} s 0) at l);
  uncounted = λ a. same_all s a 0;
  unmarked = λ a. same_all s a 0;
  first_room = λ l. rw (length-replicate {A = ℕ} s 0) (few l);
  counts_room = λ l. rw (length-replicate {A = ℕ} s 0) (few l);
  marks_room = λ l. rw (length-replicate {A = ℕ} s 0) (few l);
  used_room = λ l. rw (length-replicate {A = ℕ} s 0) (few l);
  sums_room = omega arith;
}

-- ---- what follows the check

then_same : (f : ℕ → Outcome) {o o' : Outcome} → o ≡ o' → checked_then o f ≡ checked_then o' f
then_same f e = ap (λ (x : Outcome). checked_then x f) e

module _ {prepare : Bool} {states : ℕ} {rows accepting words heads first counts sums : List ℕ} {o : Result Checked Refusal}
    (a : CheckAnswer prepare states rows accepting words heads first counts sums o) (old : List ℕ) where
  -- the check refuses
  pub check_refused : (task : Task) (f : Refusal) → o ≡ Err f → Answered task states rows accepting old old (Err f)
  unfolding number_outcome number_tree write_outcome write_tree write_list write_tree_list
  check_refused task f e = by_task task
    where
      refuses : refused_by f ≡ check_outcome states rows accepting
      refuses = ap told (sym e) ∙ a.answer

      by_task : (task : Task) → Answered task states rows accepting old old (Err f)
      by_task Check = record { answer = refuses; list = refl }
      by_task (Number tree) = record { answer = then_same _ refuses; list = refl }
      by_task (Write number) = record {
        answer = then_same _ refuses;
        list = ap (λ (o : Outcome). lent_after o (tree_entries (table_of states rows accepting) number) old) (then_same _ refuses);
      }

  module _ (t n by : ℕ) (e : o ≡ Ok (record { total = t; rows = record { count = n; by = by } })) where
    passes : Passes states rows accepting t
    passes = sym a.answer ∙ ap told e

  -- numbering and writing go on from what the check leaves
  module _ (t n by : ℕ) (e : o ≡ Ok (record { total = t; rows = record { count = n; by = by } })) where
    p : PreparedRows prepare by states rows accepting words heads first counts sums n
    p = a.passed (record { total = t; rows = record { count = n; by = by } }) e

    -- the table of the rows that the words hold is the table that is lent
    same_table : table_of states rows accepting ≡ held_table states rows (take n words) accepting
    same_table = ap (λ (rs : List Row). record { states = states; rows = rs; accepting = accepting }) (sym p.same)

    good : Good (held_table states rows (take n words) accepting)
    good = subst (λ (T : Table). Good T) same_table (passing_good states rows accepting t (passes t n by e))

    fits : Within count_limit (held_table states rows (take n words) accepting)
    fits = subst (λ (T : Table). Within count_limit T) same_table (passing_within states rows accepting t (passes t n by e))

    -- numbering
    table_ready : prepare ≡ true → TableReady by states rows (take n words) heads accepting counts sums
    table_ready y = record {
      good = good;
      within = fits;
      rows_held = p.prepared.left.rows_held;
      index = p.prepared.index;
      counts_room = p.prepared.left.counts_room;
      sums_room = p.prepared.left.sums_room;
      counted = p.prepared.left.counted y;
    }

    pub number_ready : prepare ≡ true → RankReady by rows (take n words) heads accepting counts sums
    number_ready y = rank_ready (table_ready y)

    pub number_answers : prepare ≡ true → (lent : Bor (List ℕ)) (r : Result ℕ Refusal)
        → outcome r ≡ tree_then lent.now (machine (rows_in rows (take n words)) accepting counts sums lent.now) → Answered (Number lent) states rows accepting old old r
    unfolding number_outcome number_tree
    number_answers y lent r h = let tree : List ℕ = lent.now in record {
      answer =
          h
          ∙ numbers (table_ready y) tree
          ∙ ap (λ (T : Table). tree_then tree (accepted_then T (tree_from tree) (result (tree_number T (tree_from tree))))) (sym same_table)
          ∙ then_same (λ m. tree_then tree (accepted_then (table_of states rows accepting) (tree_from tree) (result (tree_number (table_of states rows accepting) (tree_from tree))))) (sym (passes t n by e));
      list = refl;
    }

    -- writing: by the counts of used states, or by those of all, which are the used ones of the table that lists every state
    abbrev T : Table
    T = held_table states rows (take n words) accepting

    -- a list of states with which the counts that are left are those of used states
    record Counts : Type 0 where
      others : List ℕ
      good_with : Good (held_table states rows (take n words) others)
      short : (q : ℕ) → is_used (held_table states rows (take n words) others) q ≡ true → longest (held_table states rows (take n words) others) q ≤ 4096
      counted : UsedCounts (held_table states rows (take n words) others) counts sums
      listed_total : sum (map (held counts) accepting) ≡ total T
      trees : (m : ℕ) → m < total T → tree_of T (held counts) m ≡ tree_of T (count T) m

    by_left : Left T counts sums → Counts
    by_left (used u) = record {
      others = accepting;
      good_with = good;
      short = fits.small_trees;
      counted = u;
      listed_total = ap (λ (c : ℕ → ℕ). sum (map c accepting)) (as_counted u) ∙ total_used T good;
      trees = λ m l. ap (λ (c : ℕ → ℕ). tree_of T c m) (as_counted u) ∙ tree_used T good m l;
    }
    by_left (whole w) = record {
      others = (every_listed T).accepting;
      good_with = every_good T good;
      short = λ q u. whole_short T good w q (used_state (every_listed T) q u);
      counted = whole_used T good w;
      listed_total = ap (λ (c : ℕ → ℕ). sum (map c accepting)) (as_whole w) ∙ sym (total_sum T);
      trees = λ m l. ap (λ (c : ℕ → ℕ). tree_of T c m) (as_whole w);
    }

    left : Counts
    left = by_left p.prepared.left.left

    unready : UnrankReady states rows (take n words) left.others first counts sums
    unready = record {
      good = left.good_with;
      few = fits.few_states;
      short = left.short;
      rows_held = p.prepared.left.rows_held;
      chained = p.prepared.left.chained;
      first_room = p.prepared.left.first_room;
      counts_room = p.prepared.left.counts_room;
      sums_room = p.prepared.left.sums_room;
      counted = left.counted;
    }

    total_here : t ≡ total T
    unfolding total
    total_here = passing_total states rows accepting t (passes t n by e) ∙ ap total same_table

    total_is : t ≡ sum (map (held counts) accepting)
    total_is = total_here ∙ sym left.listed_total

    pub write_ready : WriteReady rows (take n words) accepting first counts sums t
    write_ready = record { states = states; others = left.others; ready = unready; listed = good.sound.listed; total_is = total_is }

    module _ (number : ℕ) where
      abbrev gives : List ℕ → Outcome
      gives entries = write_below t number (tree_fits (length old) (length entries))

      above : ltb number t ≡ false → (entries : List ℕ) → gives entries ≡ refused 15 0
      above e entries = ap (λ (b : Bool). if not b then refused 15 0 else tree_fits (length old) (length entries)) e

      -- what is answered, and what the list then holds, by any entries that are those of the number's tree if it is below the total
      answered : (entries : List ℕ) → (number < t → entries ≡ tree_entries (table_of states rows accepting) number)
          → (gives entries ≡ gives (tree_entries (table_of states rows accepting) number)) × (lent_after (gives entries) entries old ≡ lent_after (gives entries) (tree_entries (table_of states rows accepting) number) old)
      answered entries f = go (ltb number t) refl
        where
          go : (b : Bool) → ltb number t ≡ b → (gives entries ≡ gives (tree_entries (table_of states rows accepting) number)) × (lent_after (gives entries) entries old ≡ lent_after (gives entries) (tree_entries (table_of states rows accepting) number) old)
          go true e =
              let s = f (ltb-true number t e) in
              (ap gives s, ap (λ (l : List ℕ). lent_after (gives entries) l old) s)
          go false e =
              let whole = tree_entries (table_of states rows accepting) number in
              (above e entries ∙ sym (above e whole), ap (λ (o : Outcome). lent_after o entries old) (above e entries) ∙ sym (ap (λ (o : Outcome). lent_after o whole old) (above e entries)))

      same_entries : number < t → number_entries (rows_in rows (take n words)) accepting counts number ≡ tree_entries (table_of states rows accepting) number
      unfolding tree_entries
      same_entries l =
          entries_held unready accepting good.sound.listed number (rw total_is at l)
          ∙ ap serial (left.trees number (rw total_here at l))
          ∙ ap (λ (T : Table). serial (tree_of T (count T) number)) (sym same_table)

      follows : gives (tree_entries (table_of states rows accepting) number) ≡ write_outcome states rows accepting number (length old)
      unfolding write_outcome write_tree
      follows = then_same (λ m. write_below m number (tree_fits (length old) (length (tree_entries (table_of states rows accepting) number)))) (sym (passes t n by e))

      pub write_answers : (new : List ℕ) (r : Result ℕ Refusal) → WroteBelow (rows_in rows (take n words)) accepting counts t number old new r → Answered (Write number) states rows accepting old new r
      unfolding write_list write_tree_list write_outcome
      write_answers new r w =
          let y = answered (number_entries (rows_in rows (take n words)) accepting counts number) same_entries in
          record {
            answer = w.answer ∙ y.0 ∙ follows;
            list = w.list ∙ y.1 ∙ ap (λ (o : Outcome). lent_after o (tree_entries (table_of states rows accepting) number) old) (y.0 ∙ follows);
          }

-- a task that is known prepares
pub prepares_so : {task known : Task} {prepare : Bool} → prepare ≡ task_prepares task → task ≡ known → task_prepares known ≡ true → prepare ≡ true
prepares_so p e k = p ∙ ap task_prepares e ∙ k

-- a task that is known
pub for_task : {task known : Task} {states : ℕ} {rows accepting old new : List ℕ} {r : Result ℕ Refusal} → task ≡ known → Answered known states rows accepting old new r → Answered task states rows accepting old new r
for_task {states = states} {rows} {accepting} {old} {new} {r} e x = subst (λ (t : Task). Answered t states rows accepting old new r) (sym e) x
