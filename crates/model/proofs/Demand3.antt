-- The pairing of trees and numbers (demand 3): for a table that passes its check, what numbering and writing answer.
use Rattle.std.specs.Prelude.{if◌then◌else◌}
use Prim.Native.Nat.{ℕ, ◌≤◌, ◌<◌}
use mathlib.Core.Path.{◌≡◌, refl, ap, sym, ◌∙◌, subst}
use mathlib.Core.List.{List, ◌++◌, map}
use mathlib.Core.Logic.{◌↔◌}
use native.Mathlib.Omega.{arith}
use lib.ListN.{length, get_or, drop}
use lib.Dec.{ltb}
use mathlib.Core.Bool.{not}
use borrow.Author.Tests.{lt-ltb, le-ltb, ltb-false}
use Rattle.model.specs.Answers.{Outcome, result, refused, lent_after}
use Rattle.model.specs.Table.{Table, table_of}
use Rattle.model.specs.Tree.{Forest, Tree, serial, SymbolsInRange, WellFormed}
use Rattle.model.specs.Reach.{Reach, none, row, Accepted}
use Rattle.model.specs.Count.{sum, Counts, count}
use Rattle.model.specs.Value.{number_of, tree_of}
use Rattle.model.specs.Order.{Exactly, ComeBefore}
use Rattle.model.specs.Check.{check_outcome, count_limit, Passes}
use Rattle.model.specs.Entries.{tree_from}
use Rattle.model.specs.Place.{UnacceptedAt}
use Rattle.model.specs.Number.{checked_then, accepted_then, number_tree, number_outcome}
use Rattle.model.specs.Write.{tree_entries, write_tree, write_tree_list, entries_for, write_outcome, write_list}
use Rattle.model.specs.Demand3.{HasTree, Pairing, AcceptsList, ListHasNumber, Refusing, WritesEntries, PairsOff, RefusesFirst}
use Rattle.model.proofs.Choice.{if_result}
use Rattle.model.proofs.Good.{Sound, Good, Within}
use Rattle.model.proofs.Checked.{NoGround, passes_just, checked_good, checked_within}
use Rattle.model.proofs.Counting.{count_counts, total_is}
use Rattle.model.proofs.Reaching.{row_symbol}
use Rattle.model.proofs.Used.{accepted_used}
use Rattle.model.proofs.Longest.{forest_most}
use Rattle.model.proofs.Serial.{serial_same}
use Rattle.model.proofs.Entries.{tree_of_lem, tree_from_lem, tree_serial, tree_then_taken, tree_then_back}
use Rattle.model.proofs.Stuck.{accepted_taken, accepted_result, stuck_place}
use Rattle.model.proofs.Pairing.{number_below, number_same, tree_numbers, tree_of_number, all_counted, before_counted}

-- trees that reach states have symbols in range
pub reach_symbols : {T : Table} {f : Forest} {qs : List ℕ} → Sound T → Reach T.rows f qs → SymbolsInRange f
unfolding SymbolsInRange
reach_symbols g none = tt
reach_symbols g (row i w ks ts) =
    let p = rw (row_symbol w) at (g.symbols i w.inside) in
    (p.0, p.1, reach_symbols g ks, reach_symbols g ts)

-- an accepted tree of a table within the limits is well-formed
pub accepted_well : {T : Table} {t : Tree} → Sound T → Accepted T t → WellFormed (serial t)
accepted_well {T} {t} g a = record { tree = t; symbols = reach_symbols g a.reaches; written = refl }

-- and has at most 4,096 entries
pub accepted_short : {limit : ℕ} {T : Table} {t : Tree} → Good T → Within limit T → Accepted T t → length (serial t) ≤ 4096
unfolding serial sum
accepted_short {T} g w a = omega (arith, forest_most T g a.reaches, w.small_trees (get_or T.accepting a.entry 0) (accepted_used T g a))

-- the same list is the same accepted tree
pub accepted_same : {T : Table} {t u : Tree} → Sound T → Accepted T t → Accepted T u → serial t ≡ serial u → t ≡ u
accepted_same {T} {t} {u} g a b e = serial_same t u (reach_symbols g a.reaches) (reach_symbols g b.reaches) e

-- what follows a check that passes
pub checked_then_lem : (o : Outcome) (n : ℕ) (f : ℕ → Outcome) → o ≡ result n → checked_then o f ≡ f n
checked_then_lem o n f e = rw e

-- a check that refuses
pub refused_then : (o : Outcome) (k p : ℕ) (f : ℕ → Outcome) → o ≡ refused k p → checked_then o f ≡ refused k p
refused_then o k p f e = rw e

-- a table that passes
module _ (states : ℕ) (rows accepting : List ℕ) (n : ℕ) (passes : Passes states rows accepting n) where
  abbrev T : Table
  T = table_of states rows accepting

  none_holds : NoGround count_limit states rows accepting
  none_holds = ((passes_just states rows accepting n).0 passes).0

  -- it is good, within the limits, and its total is the sum over the accepting list
  pub passing_good : Good (table_of states rows accepting)
  passing_good = checked_good count_limit states rows accepting none_holds

  pub passing_sound : Sound (table_of states rows accepting)
  passing_sound = passing_good.sound

  pub passing_within : Within count_limit (table_of states rows accepting)
  passing_within = checked_within count_limit states rows accepting none_holds

  pub passing_total : n ≡ sum (map (count (table_of states rows accepting)) accepting)
  passing_total = ((passes_just states rows accepting n).0 passes).1 ∙ total_is T

  counts : Counts T (count T)
  counts = count_counts T passing_good.ordered

  -- an accepted tree's answer is its number
  pub number_answer : (t : Tree) → Accepted (table_of states rows accepting) t
      → number_outcome states rows accepting (serial t) ≡ result (number_of (table_of states rows accepting) (count (table_of states rows accepting)) t)
  unfolding number_outcome number_tree
  number_answer t a =
      checked_then_lem (check_outcome states rows accepting) n _ passes
      ∙ tree_then_taken (serial t) (accepted_well passing_sound a) (accepted_short passing_good passing_within a) _
      ∙ ap (λ (u : Tree). accepted_then T u (result (number_of T (count T) u))) (tree_of_lem t (reach_symbols passing_sound a.reaches))
      ∙ accepted_taken T passing_sound a _

  -- only accepted trees have numbers
  pub answer_number_lem : (entries : List ℕ) (m : ℕ) → number_outcome states rows accepting entries ≡ result m → ListHasNumber (table_of states rows accepting) entries m
  unfolding number_outcome number_tree
  answer_number_lem entries m e =
      let a = tree_then_back entries m _ (sym (checked_then_lem (check_outcome states rows accepting) n _ passes) ∙ e) in
      let b = accepted_result T passing_sound (tree_from entries) _ m a.2 in
      record { accepts = record { tree = tree_from entries; written = tree_serial entries a.0; accepted = b.0 }; numbers = b.1 }

  numbers_exactly : (entries : List ℕ) (m : ℕ) → (number_outcome states rows accepting entries ≡ result m) ↔ ListHasNumber T entries m
  numbers_exactly entries m = (
    answer_number_lem entries m,
    λ h. ap (number_outcome states rows accepting) (sym h.accepts.written) ∙ number_answer h.accepts.tree h.accepts.accepted ∙ ap result h.numbers,
  )

  -- the tree of a number below the total, written into a list that is long enough
  pub write_answer : (m room : ℕ) → m < n → length (entries_for states rows accepting m) ≤ room
      → write_outcome states rows accepting m room ≡ result (length (entries_for states rows accepting m))
  unfolding write_outcome write_tree entries_for
  write_answer m room l h =
      checked_then_lem (check_outcome states rows accepting) n _ passes ∙ rw (lt-ltb m n l, le-ltb room (length (tree_entries T m)) h)

  -- and the list then begins with the tree's entries
  pub write_list_lem : (m : ℕ) (tree : List ℕ) → m < n → length (entries_for states rows accepting m) ≤ length tree
      → write_list states rows accepting m tree ≡ entries_for states rows accepting m ++ drop (length (entries_for states rows accepting m)) tree
  unfolding write_list write_tree_list write_outcome entries_for
  write_list_lem m tree l h = ap (λ (o : Outcome). lent_after o (tree_entries T m) tree) (write_answer m (length tree) l h)

  -- written into a shorter list, it is refused and the list stays
  pub short_answer : (m room : ℕ) → m < n → room < length (entries_for states rows accepting m)
      → write_outcome states rows accepting m room ≡ refused 16 (length (entries_for states rows accepting m))
  unfolding write_outcome write_tree entries_for
  short_answer m room l h =
      checked_then_lem (check_outcome states rows accepting) n _ passes ∙ rw (lt-ltb m n l, lt-ltb room (length (tree_entries T m)) h)

  pub short_list : (m : ℕ) (tree : List ℕ) → m < n → length tree < length (entries_for states rows accepting m) → write_list states rows accepting m tree ≡ tree
  unfolding write_list write_tree_list write_outcome entries_for
  short_list m tree l h = ap (λ (o : Outcome). lent_after o (tree_entries T m) tree) (short_answer m (length tree) l h)

  -- a number not below the total is refused, and the list stays
  pub beyond_answer : (m room : ℕ) → n ≤ m → write_outcome states rows accepting m room ≡ refused 15 0
  unfolding write_outcome write_tree
  beyond_answer m room h = checked_then_lem (check_outcome states rows accepting) n _ passes ∙ rw (le-ltb m n h)

  pub beyond_list : (m : ℕ) (tree : List ℕ) → n ≤ m → write_list states rows accepting m tree ≡ tree
  unfolding write_list write_tree_list write_outcome
  beyond_list m tree h = ap (λ (o : Outcome). lent_after o (tree_entries T m) tree) (beyond_answer m (length tree) h)

  -- ---- the parts of demand 3

  number_less : {t : Tree} → Accepted T t → number_of T (count T) t < n
  number_less a = omega (arith, passing_total, number_below T passing_sound (count T) counts a)

  number_has_tree : (m : ℕ) → m < n → HasTree T m
  number_has_tree m l =
      let t = tree_numbers T passing_sound (count T) counts passing_good.ordered m (omega (arith, passing_total)) in
      record {
        tree = tree_of T (count T) m;
        accepted = t.accepted;
        numbers = t.number;
        before = subst (ComeBefore T (tree_of T (count T) m)) t.number (before_counted T passing_sound (count T) counts passing_good.ordered t.accepted);
      }

  pub passing_pairs : Pairing (table_of states rows accepting) n
  passing_pairs =
      record {
        accepted = subst (Exactly (Accepted T)) (sym passing_total) (all_counted T passing_sound (count T) counts passing_good.ordered);
        written = λ t a. (reach_symbols passing_sound a.reaches, accepted_short passing_good passing_within a);
        lists = λ t u a b e. accepted_same passing_sound a b e;
        below = λ t a. number_less a;
        before = λ t a. before_counted T passing_sound (count T) counts passing_good.ordered a;
        different = λ t u a b e. number_same T passing_sound (count T) counts a b e;
        back = number_has_tree;
      }

  -- an accepted tree is written back from its number
  pub entries_back : (t : Tree) → Accepted (table_of states rows accepting) t
      → entries_for states rows accepting (number_of (table_of states rows accepting) (count (table_of states rows accepting)) t) ≡ serial t
  unfolding entries_for tree_entries
  entries_back t a = ap serial (tree_of_number T passing_sound (count T) counts passing_good.ordered a)

  tree_written : (t : Tree) → Accepted T t → WritesEntries states rows accepting (number_of T (count T) t) (serial t)
  tree_written t a =
      subst (WritesEntries states rows accepting (number_of T (count T) t)) (entries_back t a)
      (record {
        answer = λ tree h. write_answer (number_of T (count T) t) (length tree) (number_less a) h;
        list = λ tree h. write_list_lem (number_of T (count T) t) tree (number_less a) h;
        short = λ tree h. (short_answer (number_of T (count T) t) (length tree) (number_less a) h, short_list (number_of T (count T) t) tree (number_less a) h);
      })

  -- refused exactly if not accepted, however long the list is
  pub refused_exactly : (entries : List ℕ) → Refusing (number_outcome states rows accepting entries) ↔ (AcceptsList (table_of states rows accepting) entries → ⊥)
  refused_exactly entries = (there, back (number_outcome states rows accepting entries) refl)
    where
      there : Refusing (number_outcome states rows accepting entries) → AcceptsList T entries → ⊥
      there r a =
          let e = r.is in
          let f = (numbers_exactly entries (number_of T (count T) a.tree)).1 (record { accepts = a; numbers = refl }) in
          let z : ◌≡◌ {A = ℕ} 0 1 = cc in
          absurd (omega arith)

      back : (o : Outcome) → number_outcome states rows accepting entries ≡ o → (AcceptsList T entries → ⊥) → Refusing o
      back (result m) e h = absurd (h (answer_number_lem entries m e).accepts)
      back (refused k p) e h = record { number = k; place = p; is = refl }

  -- a well-formed list that is refused is 14, at the place that document 01 says
  pub number_refused : (entries : List ℕ) (w : WellFormed entries) → length entries ≤ 4096 → (number place : ℕ)
      → number_outcome states rows accepting entries ≡ refused number place → (number ≡ 14) × UnacceptedAt (table_of states rows accepting) w.tree place
  unfolding number_outcome number_tree
  number_refused entries w l number place e =
      stuck_place T passing_sound w.tree w.symbols (number_of T (count T) w.tree) number place
      (sym (ap (λ (u : Tree). accepted_then T u (result (number_of T (count T) u))) (tree_from_lem entries w))
      ∙ sym (tree_then_taken entries w l _)
      ∙ sym (checked_then_lem (check_outcome states rows accepting) n _ passes)
      ∙ e)

-- demand 3
pub demand3 : PairsOff
demand3 states rows accepting n passes =
    record {
      pairing = passing_pairs states rows accepting n passes;
      answers = record {
        numbers = numbers_exactly states rows accepting n passes;
        refuses = refused_exactly states rows accepting n passes;
        places = number_refused states rows accepting n passes;
        writes = λ m h. subst (λ (k : ℕ). WritesEntries states rows accepting k (serial h.tree)) h.numbers (tree_written states rows accepting n passes h.tree h.accepted);
        beyond = λ m h tree. (beyond_answer states rows accepting n passes m (length tree) h, beyond_list states rows accepting n passes m tree h);
      };
    }

-- "It first refuses as the check does."
pub refuses_first : RefusesFirst
unfolding number_outcome number_tree write_outcome write_tree write_list write_tree_list
refuses_first states rows accepting number place e =
    record {
      numbering = λ tree. refused_then (check_outcome states rows accepting) number place _ e;
      writing = λ n room. refused_then (check_outcome states rows accepting) number place _ e;
      list = λ n tree. ap (λ (o : Outcome). lent_after o (tree_entries (table_of states rows accepting) n) tree) (refused_then (check_outcome states rows accepting) number place _ e);
    }

-- the result is the length of what is written, which fits the list
pub write_tree_back : (states : ℕ) (rows accepting : List ℕ) (number room n : ℕ) → write_outcome states rows accepting number room ≡ result n
    → (n ≡ length (entries_for states rows accepting number)) × (n ≤ room)
unfolding write_outcome write_tree entries_for
write_tree_back states rows accepting number room n e = go (check_outcome states rows accepting) e
  where
    needed : ℕ
    needed = length (tree_entries (table_of states rows accepting) number)

    go : (o : Outcome)
        → checked_then o (λ total. if not (ltb number total) then refused 15 0 else if ltb room needed then refused 16 needed else result needed) ≡ result n → (n ≡ needed) × (n ≤ room)
    go (refused k p) h = let z : ◌≡◌ {A = ℕ} 0 1 = cc in absurd (omega arith)
    go (result total) h =
        let a = if_result (not (ltb number total)) 15 0 n _ h in
        let b = if_result (ltb room needed) 16 needed n _ a.1 in
        let d = b.1 in
        let c : needed ≡ n = cc in
        (sym c, omega (arith, ltb-false room needed b.0))

pub write_tree_fits : (states : ℕ) (rows accepting : List ℕ) (number room n : ℕ) → write_outcome states rows accepting number room ≡ result n → n ≤ room
write_tree_fits states rows accepting number room n e = (write_tree_back states rows accepting number room n e).1
