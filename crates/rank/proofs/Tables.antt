-- A good table, its rows in words, with their index, and the counts of its used states, which are within the limits: what numbering needs of it,
-- and that the machine numbers its trees. Assumes nothing.
use Rattle.std.specs.Prelude.{Some, if◌then◌else◌, Option, None}
use Prim.Native.Nat.{ℕ, ◌+◌, ◌<◌, ◌≤◌}
use mathlib.Core.Path.{◌≡◌, refl, sym, ap, ◌∙◌}
use mathlib.Core.Bool.{Bool, true, false}
use mathlib.Core.List.{List, map}
use native.Mathlib.Omega.{arith}
use lib.ListN.{length, get_or}
use lib.Dec.{ltb}
use borrow.Author.Tests.{lt-ltb, ltb-true, ltb-false}
use Rattle.model.specs.Answers.{Outcome, result, refused}
use Rattle.model.specs.Table.{Row, Table, no_row, IsRow, row_is}
use Rattle.model.specs.Tree.{Tree, WellFormed}
use Rattle.model.specs.Reach.{row_with, target_of}
use Rattle.model.specs.Count.{product, weight, state_counts, Counts, count}
use Rattle.model.specs.Used.{is_used, used_count, formed_value}
use Rattle.model.specs.Value.{horner, earlier_rows, number_of, tree_number}
use Rattle.model.specs.Check.{count_limit}
use Rattle.model.specs.Choice.{first_faulty}
use Rattle.model.specs.Entries.{entry_ground, ends_too_soon, form_then, tree_then, tree_from}
use Rattle.model.specs.Number.{accepted_then}
use Rattle.model.proofs.Choice.{is_false, first_fault, First, nowhere, first, first_of}
use Rattle.model.proofs.Good.{Good}
use Rattle.model.proofs.Counting.{factors_some, sum_place, weight_at, row_counts_le, count_eqn, count_counts}
use Rattle.model.proofs.Rows.{row_is_true, row_is_yes}
use Rattle.model.proofs.Reaching.{row_symbol, row_args}
use Rattle.model.proofs.States.{row_with_row, row_with_is, target_is, target_inside}
use Rattle.model.proofs.Longest.{row_fits}
use Rattle.model.proofs.Entries.{formed_well, tree_from_lem}
use Rattle.model.proofs.Used.{used_args}
use Rattle.model.proofs.UsedValues.{count_used, count_unused, used_just, just_used, row_used, earlier_used, total_used, formed_used, formed_unused, number_formed}
use Rattle.chains.proofs.First.{first_is, first_none}
use Rattle.rows.specs.Words.{row_no, rows_in, held_table}
use Rattle.rows.proofs.Words.{rows_long}
use Rattle.index.specs.Index.{row_found}
use Rattle.counts.specs.Chain.{target}
use Rattle.counts.specs.States.{held}
use Rattle.counts.proofs.Prepared.{as_counted, sum_used}
use Rattle.rank.specs.Machine.{formed, node_by, node_of, numbered, machine}
use Rattle.rank.specs.RankReady.{AllCount, RankReady, TableReady}
use Rattle.rank.proofs.Folding.{unformed, formed_is}
use Rattle.rank.proofs.Trees.{row_node, row_number, node_yes, node_no, run_tree}

-- what follows a list's form counts only where the list is a tree of at most 4,096 entries
then_same : (tree : List ℕ) (o o' : Outcome) → (WellFormed tree → length tree ≤ 4096 → o ≡ o') → tree_then tree o ≡ tree_then tree o'
unfolding tree_then form_then
then_same tree o o' h = long (ltb 4096 (length tree)) refl
  where
    short : (b : Bool) → ends_too_soon tree ≡ b → length tree ≤ 4096 → First (length tree) (entry_ground tree)
        → first_faulty (length tree) (entry_ground tree) (if b then refused 13 (length tree) else o) ≡ first_faulty (length tree) (entry_ground tree) (if b then refused 13 (length tree) else o')
    short b e l (first i m before g) = first_fault (length tree) i (entry_ground tree) _ m before g ∙ sym (first_fault (length tree) i (entry_ground tree) _ m before g)
    short true e l (nowhere sound) = refl
    short false e l (nowhere sound) = ap (first_faulty (length tree) (entry_ground tree)) (h (formed_well tree (record { sound = sound; enough = e })) l)

    long : (b : Bool) → ltb 4096 (length tree) ≡ b
        → (if b then refused 12 0 else first_faulty (length tree) (entry_ground tree) (if ends_too_soon tree then refused 13 (length tree) else o))
        ≡ (if b then refused 12 0 else first_faulty (length tree) (entry_ground tree) (if ends_too_soon tree then refused 13 (length tree) else o'))
    long true e = refl
    long false e = short (ends_too_soon tree) refl (ltb-false 4096 (length tree) e) (first_of (length tree) (entry_ground tree))

-- a row's count and those of the rows before it are within what its target counts
share : (T : Table) (c : ℕ → ℕ) {i s q : ℕ} {xs : List ℕ} → IsRow T.rows i s q xs → product (map c xs) + earlier_rows T.rows c q i ≤ state_counts T.rows c q
unfolding earlier_rows state_counts
share T c {i} {s} {q} w = omega (arith, sum_place (map (weight c q) T.rows) i, weight_at c w)

module _ {by states : ℕ} {pool words heads accepting cs sums : List ℕ} (r : TableReady by states pool words heads accepting cs sums) where
  abbrev rows : List Row
  rows = rows_in pool words

  abbrev T : Table
  T = held_table states pool words accepting

  good : Good T
  good = r.good

  -- a state is used just where it counts more than 0 here
  used_here : (q : ℕ) → 0 < held cs q → is_used T q ≡ true
  used_here q p = used_just T good q (rw (r.counted.counted q) at p)

  -- row i of the table
  row_is_lem : (i : ℕ) → i < length rows → IsRow rows i (row_no rows i).symbol (target rows i) (row_no rows i).args
  row_is_lem i l = record { inside = l; is = refl }

  -- its target is a state
  row_state : (i : ℕ) → i < length rows → target rows i < states
  row_state i l = row_fits T good.sound (row_is_lem i l)

  -- the row of a word
  row_of_lem : (i : ℕ) → i < length words → i < length rows
  row_of_lem i l = rw (rows_long pool words) l

  earlier : (i : ℕ) → i < length words → is_used T (target rows i) ≡ true → get_or sums i 0 ≡ earlier_rows rows (count T) (target rows i) i
  earlier i l u = sum_used r.counted i (row_of_lem i l) u

  counts : Counts T (count T)
  counts = count_counts T good.ordered

  -- what a row of a used target counts, and what the rows before it count
  row_here : (i : ℕ) → i < length words → is_used T (target rows i) ≡ true → product (map (held cs) (row_no rows i).args) ≡ product (map (count T) (row_no rows i).args)
  row_here i l u = ap (λ (c : ℕ → ℕ). product (map c (row_no rows i).args)) (as_counted r.counted) ∙ row_used T good (row_is_lem i (row_of_lem i l)) u

  pub ready : RankReady by pool words heads accepting cs sums
  ready = record {
    rows_held = r.rows_held;
    index = r.index;
    sums_room = r.sums_room;
    targets = λ i l. omega (arith, row_state i (row_of_lem i l), r.counts_room);
    whole = count T;
    reached = λ i l a.
        omega (arith, factors_some (count T) (row_no rows i).args a, row_counts_le (count T) (row_is_lem i (row_of_lem i l)), counts.state (target rows i) (row_state i (row_of_lem i l)));
    used = λ i l a p. used_each i l (used_here (target rows i) p) (factors_some (count T) (row_no rows i).args a);
    shares = λ i l p. shared i l (used_here (target rows i) p);
    small = λ i l. rw (r.counted.counted (target rows i)) (within (target rows i));
    placed = λ i l. omega (arith, good.sound.listed i l, r.counts_room);
    total = rw (as_counted r.counted) (omega (arith, total_used T good, r.within.small_total));
  }
    where
      used_each : (i : ℕ) → i < length words → is_used T (target rows i) ≡ true → 0 < product (map (count T) (row_no rows i).args) → AllCount (held cs) (row_no rows i).args
      used_each i l u p j m = rw (r.counted.counted (get_or (row_no rows i).args j 0)) (just_used T good (get_or (row_no rows i).args j 0) (used_args T good (row_is_lem i (row_of_lem i l)) u p j m))

      shared : (i : ℕ) → i < length words → is_used T (target rows i) ≡ true → product (map (held cs) (row_no rows i).args) + get_or sums i 0 ≤ held cs (target rows i)
      shared i l u =
          let f = row_state i (row_of_lem i l) in
          rw (row_here i l u, earlier i l u, r.counted.counted (target rows i), count_used T (target rows i) u, count_eqn T good.ordered (target rows i) f)
          (share T (count T) (row_is_lem i (row_of_lem i l)))

      within : (q : ℕ) → used_count T q ≤ count_limit
      within q = go (is_used T q) refl
        where
          go : (b : Bool) → is_used T q ≡ b → used_count T q ≤ count_limit
          go true u = rw (count_used T q u) (r.within.small_counts q u)
          go false u = rw (count_unused T q u) (omega arith)

  -- the value by a row is the one that is formed in the table
  value_agrees : {i s : ℕ} {xs : List ℕ} → IsRow rows i s (target rows i) xs → (vs : List ℕ) → formed cs sums xs vs i (target rows i) ≡ formed_value T i vs
  value_agrees {i} {s} {xs} w vs = go (is_used T (target rows i)) refl
    where
      go : (b : Bool) → is_used T (target rows i) ≡ b → formed cs sums xs vs i (target rows i) ≡ formed_value T i vs
      go true u =
          let p : 0 < held cs (target rows i) = rw (r.counted.counted (target rows i)) (just_used T good (target rows i) u) in
          let l : i < length words = rw (rows_long pool words) at w.inside in
          sym (formed_is cs sums xs vs i (target rows i) (λ z. omega arith) (horner (used_count T) 0 xs vs) (ap (λ (c : ℕ → ℕ). horner c 0 xs vs) (sym (as_counted r.counted))))
          ∙ ap (λ (e : ℕ). horner (used_count T) 0 xs vs + e) (earlier i l u ∙ sym (earlier_used T good (target rows i) i u))
          ∙ sym (formed_used T good w u vs)
      go false u = sym (unformed cs sums xs vs i (target rows i) (r.counted.counted (target rows i) ∙ count_unused T (target rows i) u)) ∙ sym (formed_unused T good w u vs)

  -- the code's node is the table's
  node_agrees : (s : ℕ) (xs vs : List ℕ) → node_of rows cs sums s xs vs ≡ row_node T (row_with T.rows s xs) vs
  unfolding node_of
  node_agrees s xs vs = go (row_found rows s xs) refl
    where
      go : (f : Option ℕ) → row_found rows s xs ≡ f → node_by f rows cs sums xs vs ≡ row_node T (row_with rows s xs) vs
      go (Some i) e =
          let f = first_is (λ j. row_is (row_no rows j) s xs) (length rows) i e in
          let y = row_is_true (row_no rows i) s xs f.1 in
          let w : IsRow rows i s (target rows i) xs = rw (y.0, y.1) at (row_is_lem i f.0) in
          let d : row_with rows s xs ≡ i = row_with_is good.sound.distinct w in
          let q : target_of T i ≡ target rows i = target_is T w in
          let there : ltb (target_of T i) states ≡ true = rw q (lt-ltb (target rows i) states (row_state i f.0)) in
          let v : formed cs sums xs vs i (target rows i) ≡ formed_value T i vs = value_agrees w vs in
          rw d ((λ j. Some (sym q j, v j)) ∙ sym (node_yes T i vs there))
      go None e =
          let none : ltb (target_of T (row_with rows s xs)) states ≡ false
          = is_false (ltb (target_of T (row_with rows s xs)) states) (λ y. absent (target_inside T (row_with rows s xs) (ltb-true (target_of T (row_with rows s xs)) states y))) in
          sym (node_no T (row_with rows s xs) vs none)
        where
          absent : row_with rows s xs < length rows → ⊥
          absent l =
              let i = row_with rows s xs in
              let w = row_with_row rows s xs no_row l in
              first_none (λ j. row_is (row_no rows j) s xs) (length rows) e i l (row_is_yes (row_no rows i) s xs (row_symbol w) (row_args w))

  end_agrees : (q v place : ℕ) → numbered accepting cs q v place ≡ row_number T q v place
  unfolding numbered row_number
  end_agrees q v place = rw (as_counted r.counted)

  -- the machine numbers the tree
  machine_numbers : (tree : List ℕ) → WellFormed tree
      → machine rows accepting cs sums tree ≡ accepted_then T (tree_from tree) (result (number_of T (count T) (tree_from tree)))
  machine_numbers tree w =
      ap (machine rows accepting cs sums) (sym w.written)
      ∙ run_tree T (node_of rows cs sums) (numbered accepting cs) node_agrees end_agrees w.tree w.symbols
      ∙ number_formed T good w.tree
      ∙ ap (λ (t : Tree). accepted_then T t (result (number_of T (count T) t))) (sym (tree_from_lem tree w))

  -- so for any entries it answers as document 01 says
  pub numbers : (tree : List ℕ) → tree_then tree (machine rows accepting cs sums tree) ≡ tree_then tree (accepted_then T (tree_from tree) (result (tree_number T (tree_from tree))))
  numbers tree = then_same tree _ _ (λ w l. machine_numbers tree w)
