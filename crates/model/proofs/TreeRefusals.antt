-- Numbering and writing a tree: a refusal and its ground determine each other.
use Prim.Native.Nat.{ℕ, ◌≤◌, ◌<◌}
use mathlib.Core.Path.{◌≡◌, refl, ap, sym, ◌∙◌, subst}
use mathlib.Core.List.{List}
use native.Mathlib.Omega.{arith}
use lib.ListN.{length}
use native.Mathlib.Decide.{dec_le}
use native.Mathlib.Nat.{lt_of_not-le}
use Rattle.model.specs.Answers.{Outcome, result, refused}
use Rattle.model.specs.Table.{Table, table_of}
use Rattle.model.specs.Tree.{serial, WellFormed}
use Rattle.model.specs.Reach.{Accepted}
use Rattle.model.specs.Count.{count}
use Rattle.model.specs.Value.{number_of}
use Rattle.model.specs.Check.{check_outcome, Passes}
use Rattle.model.specs.Place.{UnacceptedAt}
use Rattle.model.specs.Number.{accepted_then, number_tree, number_outcome}
use Rattle.model.specs.Entries.{tree_then, tree_from}
use Rattle.model.specs.Write.{write_tree_list, entries_for, write_outcome, write_list}
use Rattle.model.specs.Demand3.{HasTree}
use Rattle.model.specs.TreeRefusals.{NumberRefused, number_as_check, number12, number13, number14, TreeRefused, tree_as_check, tree15, tree16, NumberRefuses, TreeRefuses, NumberElse, TreeElse, TreeLent}
use Rattle.model.proofs.Choice.{refused_number, refused_place, result_only, refused_only}
use Rattle.model.proofs.Serial.{serial_same}
use Rattle.model.proofs.Writing.{lent_told}
use Rattle.model.proofs.Entries.{tree_of_lem}
use Rattle.model.proofs.Stuck.{not_accepted, not_accepted_once}
use Rattle.model.proofs.TermRefusals.{TreePlace, long, no_tree_lem, after, tree_place, tree_long, tree_refused}
use Rattle.model.proofs.Demand3.{checked_then_lem, demand3, refuses_first, passing_sound, answer_number_lem, number_refused, write_answer, short_answer, beyond_answer, entries_back, reach_symbols, write_tree_back}

module _ (states : ℕ) (rows accepting : List ℕ) where
  abbrev T : Table
  T = table_of states rows accepting

  -- the same refusal, by number and place
  same_refusal : {o : Outcome} {k p number place : ℕ} → o ≡ refused k p → k ≡ number → p ≡ place → o ≡ refused number place
  same_refusal e x y = rw (← x, ← y) e

  -- ---- numbering

  -- what follows a check that passes
  numbers_by : (total : ℕ) → Passes states rows accepting total → (tree : List ℕ)
      → number_outcome states rows accepting tree ≡ tree_then tree (accepted_then T (tree_from tree) (result (number_of T (count T) (tree_from tree))))
  unfolding number_outcome number_tree
  numbers_by total passes tree = checked_then_lem (check_outcome states rows accepting) total _ passes

  number_ground : (tree : List ℕ) (number place : ℕ) → number_outcome states rows accepting tree ≡ refused number place → NumberRefused states rows accepting tree number place
  number_ground tree number place e = go (check_outcome states rows accepting) refl
    where
      at : (total : ℕ) → Passes states rows accepting total
          → TreePlace tree number place (accepted_then T (tree_from tree) (result (number_of T (count T) (tree_from tree)))) → NumberRefused states rows accepting tree number place
      at total passes (long x y l) = number12 x y total passes l
      at total passes (no_tree_lem x l s) = number13 x total passes l s
      at total passes (after l w z) = let p = number_refused states rows accepting total passes tree w l number place e in number14 p.0 total passes l w p.1

      go : (o : Outcome) → check_outcome states rows accepting ≡ o → NumberRefused states rows accepting tree number place
      go (refused k p) c = number_as_check (c ∙ sym ((refuses_first states rows accepting k p c).numbering tree) ∙ e)
      go (result total) c = at total c (tree_place tree number place _ (sym (numbers_by total c tree) ∙ e))

  -- the tree of a numbered list
  not_numbered : (total : ℕ) → Passes states rows accepting total → (tree : List ℕ) (w : WellFormed tree) (place m : ℕ) → UnacceptedAt T w.tree place
      → number_outcome states rows accepting tree ≡ result m → ⊥
  not_numbered total passes tree w place m n e =
      let a = (answer_number_lem states rows accepting total passes tree m e).accepts in
      let same = serial_same a.tree w.tree (reach_symbols (passing_sound states rows accepting total passes) a.accepted.reaches) w.symbols (a.written ∙ sym w.written) in
      not_accepted T (passing_sound states rows accepting total passes) w.symbols (subst (Accepted T) same a.accepted) n

  ground_number : (tree : List ℕ) (number place : ℕ) → NumberRefused states rows accepting tree number place → number_outcome states rows accepting tree ≡ refused number place
  ground_number tree number place (number_as_check c) = (refuses_first states rows accepting number place c).numbering tree
  ground_number tree number place (number12 x y total passes l) = rw x (numbers_by total passes tree ∙ tree_long tree place l y _)
  ground_number tree number place (number13 x total passes l s) = rw x (numbers_by total passes tree ∙ tree_refused tree place l s _)
  ground_number tree number place (number14 x total passes l w n) =
      refused_only (number_outcome states rows accepting tree) number place (λ m e. not_numbered total passes tree w place m n e)
      (λ k p e. let q = number_refused states rows accepting total passes tree w l k p e in (q.0 ∙ sym x, not_accepted_once q.1 n))

  -- ---- writing

  module _ (total : ℕ) (passes : Passes states rows accepting total) (n : ℕ) (less : n < total) (h : HasTree T n) where
    -- the entries of the number's tree
    entries_are : entries_for states rows accepting n ≡ serial h.tree
    entries_are = ap (entries_for states rows accepting) (sym h.numbers) ∙ entries_back states rows accepting total passes h.tree h.accepted

    written : (room : ℕ) → length (serial h.tree) ≤ room → write_outcome states rows accepting n room ≡ result (length (serial h.tree))
    written room l = rw entries_are at (write_answer states rows accepting total passes n room less (rw entries_are l))

    short : (room : ℕ) → room < length (serial h.tree) → write_outcome states rows accepting n room ≡ refused 16 (length (serial h.tree))
    short room l = rw entries_are at (short_answer states rows accepting total passes n room less (rw entries_are l))

  tree_ground : (n room number place : ℕ) → write_outcome states rows accepting n room ≡ refused number place → TreeRefused states rows accepting n room number place
  tree_ground n room number place e = go (check_outcome states rows accepting) refl
    where
      fits : (total : ℕ) (passes : Passes states rows accepting total) (less : n < total) (h : HasTree T n) → Dec (length (serial h.tree) ≤ room)
          → TreeRefused states rows accepting n room number place
      fits total passes less h (yes l) = let f = written total passes n less h room l in let z : ◌≡◌ {A = ℕ} 0 1 = cc in absurd (omega arith)
      fits total passes less h (no l) =
          let m = lt_of_not-le l in
          let f = sym (short total passes n less h room m) ∙ e in
          tree16 (sym (refused_number f)) total passes less h (sym (refused_place f)) (rw (refused_place f) at m)

      at : (total : ℕ) → Passes states rows accepting total → Dec (total ≤ n) → TreeRefused states rows accepting n room number place
      at total passes (yes l) = let f = sym (beyond_answer states rows accepting total passes n room l) ∙ e in tree15 (sym (refused_number f)) (sym (refused_place f)) total passes l
      at total passes (no l) =
          let h = (demand3 states rows accepting total passes).pairing.back n (lt_of_not-le l) in
          fits total passes (lt_of_not-le l) h (dec_le (length (serial h.tree)) room)

      go : (o : Outcome) → check_outcome states rows accepting ≡ o → TreeRefused states rows accepting n room number place
      go (refused k p) c = tree_as_check (c ∙ sym ((refuses_first states rows accepting k p c).writing n room) ∙ e)
      go (result total) c = at total c (dec_le total n)

  ground_tree : (n room number place : ℕ) → TreeRefused states rows accepting n room number place → write_outcome states rows accepting n room ≡ refused number place
  ground_tree n room number place (tree_as_check c) = (refuses_first states rows accepting number place c).writing n room
  ground_tree n room number place (tree15 x y total passes l) = same_refusal (beyond_answer states rows accepting total passes n room l) (sym x) (sym y)
  ground_tree n room number place (tree16 x total passes less h y l) = same_refusal (short total passes n less h room (rw y at l)) (sym x) (sym y)

pub number_refuses : NumberRefuses
number_refuses states rows accepting tree number place = (number_ground states rows accepting tree number place, ground_number states rows accepting tree number place)

pub tree_refuses : TreeRefuses
tree_refuses states rows accepting n room number place = (tree_ground states rows accepting n room number place, ground_tree states rows accepting n room number place)

pub number_else : NumberElse
number_else states rows accepting tree h =
    result_only (number_outcome states rows accepting tree) _ (λ m e. number_of_lem m e (check_outcome states rows accepting) refl)
    (λ k p e. h k p (number_ground states rows accepting tree k p e))
  where
    number_of_lem : (m : ℕ) → number_outcome states rows accepting tree ≡ result m → (o : Outcome) → check_outcome states rows accepting ≡ o
        → m ≡ number_of (table_of states rows accepting) (count (table_of states rows accepting)) (tree_from tree)
    number_of_lem m e (refused k p) c =
        let f = (refuses_first states rows accepting k p c).numbering tree in
        let z : ◌≡◌ {A = ℕ} 0 1 = cc in
        absurd (omega arith)
    number_of_lem m e (result total) c =
        let a = answer_number_lem states rows accepting total c tree m e in
        let s = reach_symbols (passing_sound states rows accepting total c) a.accepts.accepted.reaches in
        let f : tree_from tree ≡ a.accepts.tree = ap tree_from (sym a.accepts.written) ∙ tree_of_lem a.accepts.tree s in
        sym a.numbers ∙ ap (number_of (table_of states rows accepting) (count (table_of states rows accepting))) (sym f)

pub tree_else : TreeElse
tree_else states rows accepting n room h =
    result_only (write_outcome states rows accepting n room) _ (λ m e. (write_tree_back states rows accepting n room m e).0)
    (λ k p e. h k p (tree_ground states rows accepting n room k p e))

pub tree_lent : TreeLent
unfolding write_list write_tree_list write_outcome entries_for
tree_lent states rows accepting number tree =
    lent_told (write_outcome states rows accepting number (length tree)) (entries_for states rows accepting number) tree
    (λ n e. write_tree_back states rows accepting number (length tree) n e)
