-- What the machine makes of a tree's entries: document 01's refusal 14, or the tree's number, with values in used states only. Assumes nothing.
use Rattle.std.specs.Prelude.{Some, None, if◌then◌else◌}
use Prim.Native.Nat.{ℕ, suc, ◌+◌, ◌-◌}
use mathlib.Core.Path.{◌≡◌, refl, sym, ap, ◌∙◌}
use mathlib.Core.Bool.{Bool, true, false, not}
use mathlib.Core.List.{List, [], ◌∷◌, ◌++◌, append_assoc, append-nil, map}
use native.Mathlib.Omega.{arith}
use native.Mathlib.Numerals.{add-one}
use lib.ListN.{length, get_or, take, drop, length-append}
use lib.Seq.{take_at, drop_at}
use lib.Dec.{ltb}
use borrow.Author.Tests.{ne_eqb}
use Rattle.model.specs.Answers.{Outcome, result, refused}
use Rattle.model.specs.Table.{Table}
use Rattle.model.specs.Tree.{Forest, Tree, empty, node, only, serial_forest, serial, SymbolsInRange}
use Rattle.model.specs.Reach.{row_with, target_of, states_of, row_of, state_of, entry_of}
use Rattle.model.specs.Count.{sum}
use Rattle.model.specs.Used.{used_count, formed_value, formed_values, formed_number}
use Rattle.model.specs.Check.{is_state}
use Rattle.model.specs.Number.{reaches_none, stuck_then, accepted_then}
use Rattle.model.proofs.Longest.{forest_length}
use Rattle.rank.specs.Machine.{Node, run}
use Rattle.rank.proofs.Running.{run_open, run_end, run_close, run_stuck}

-- a node's state and value in a table, by its row
unfoldable pub row_node : Table → ℕ → (vs : List ℕ) → Node
row_node T i vs = if is_state T.states (target_of T i) then Some (target_of T i, formed_value T i vs) else None

-- the number of a state and a value in a table, or 14
unfoldable pub row_number : Table → (q v place : ℕ) → Outcome
row_number T q v place =
    if ltb (entry_of T.accepting q) (length T.accepting) then result (v + sum (take (entry_of T.accepting q) (map (used_count T) T.accepting))) else refused 14 place

pub node_yes : (T : Table) (i : ℕ) (vs : List ℕ) → is_state T.states (target_of T i) ≡ true → row_node T i vs ≡ Some (target_of T i, formed_value T i vs)
unfolding row_node
node_yes T i vs e = rw e

pub node_no : (T : Table) (i : ℕ) (vs : List ℕ) → is_state T.states (target_of T i) ≡ false → row_node T i vs ≡ None
unfolding row_node
node_no T i vs e = rw e

module _ (T : Table) (nodes : ℕ → List ℕ → List ℕ → Node) (end : ℕ → ℕ → ℕ → Outcome)
    (each : (s : ℕ) (xs vs : List ℕ) → nodes s xs vs ≡ row_node T (row_with T.rows s xs) vs)
    (last : (q v p : ℕ) → end q v p ≡ row_number T q v p) where
  -- a node is closed: its children's states and values are the last that wait
  module _ (s : ℕ) (k : Forest) (opens begins ws vs : List ℕ) (m : length vs ≡ length ws) (bar : ℕ) (es : List ℕ) (o : Outcome)
      (after : run nodes end opens begins (ws ++ (target_of T (row_of T s k) ∷ [])) (vs ++ (formed_value T (row_of T s k) (formed_values T k) ∷ [])) (suc bar) es ≡ o) where
    children : (n : Node) → row_node T (row_of T s k) (formed_values T k) ≡ n → nodes s (drop (length ws) (ws ++ states_of T k)) (drop (length ws) (vs ++ formed_values T k)) ≡ n
    children n h = rw (drop_at ws (states_of T k) (length ws) refl, drop_at vs (formed_values T k) (length ws) m) (each s (states_of T k) (formed_values T k) ∙ h)

    pub bar_closes : run nodes end (s ∷ opens) (length ws ∷ begins) (ws ++ states_of T k) (vs ++ formed_values T k) bar (0 ∷ es) ≡ (if reaches_none T s k then refused 14 bar else o)
    unfolding reaches_none
    bar_closes = go (is_state T.states (target_of T (row_of T s k))) refl
      where
        go : (b : Bool) → is_state T.states (target_of T (row_of T s k)) ≡ b
            → run nodes end (s ∷ opens) (length ws ∷ begins) (ws ++ states_of T k) (vs ++ formed_values T k) bar (0 ∷ es) ≡ (if not b then refused 14 bar else o)
        go true e =
            run_close nodes end opens begins (ws ++ states_of T k) (vs ++ formed_values T k) bar s (length ws) 0 es refl (target_of T (row_of T s k)) (formed_value T (row_of T s k) (formed_values T k))
            (children _ (node_yes T (row_of T s k) (formed_values T k) e))
            ∙ rw (take_at ws (states_of T k) (length ws) refl, take_at vs (formed_values T k) (length ws) m, add-one bar) after
        go false e =
            run_stuck nodes end opens begins (ws ++ states_of T k) (vs ++ formed_values T k) bar s (length ws) 0 es refl (children None (node_no T (row_of T s k) (formed_values T k) e))

  -- the trees of a forest, one after another
  pub run_forest : (f : Forest) → SymbolsInRange f → (opens begins ws vs : List ℕ) → length vs ≡ length ws → (p : ℕ) (es : List ℕ)
      → run nodes end opens begins ws vs p (serial_forest f ++ es)
      ≡ stuck_then T f p (run nodes end opens begins (ws ++ states_of T f) (vs ++ formed_values T f) (p + length (serial_forest f)) es)
  unfolding SymbolsInRange serial_forest stuck_then states_of formed_values
  run_forest empty h opens begins ws vs m p es = let z : p + 0 ≡ p = omega arith in rw (append-nil ws, append-nil vs, z)
  run_forest (node s k r) h opens begins ws vs m p es =
      let bar = suc p + length (serial_forest k) in
      let q = target_of T (row_of T s k) in
      let v = formed_value T (row_of T s k) (formed_values T k) in
      let z : length (serial_forest (node s k r)) ≡ 2 + length (serial_forest k) + length (serial_forest r) = forest_length s k r in
      let place : suc bar + length (serial_forest r) ≡ p + length (serial_forest (node s k r)) = omega arith in
      let m' : length (vs ++ (v ∷ [])) ≡ length (ws ++ (q ∷ [])) = omega (arith, length-append vs (v ∷ []), length-append ws (q ∷ [])) in
      let right = run_forest r h.3 opens begins (ws ++ (q ∷ [])) (vs ++ (v ∷ [])) m' (suc bar) es in
      run_open nodes end opens begins ws vs p s ((serial_forest k ++ 0 ∷ serial_forest r) ++ es) (ne_eqb s 0 (λ e. omega (arith, h.0)))
      ∙ ap (λ (l : List ℕ). run nodes end (s ∷ opens) (length ws ∷ begins) ws vs (p + 1) l) (append_assoc (serial_forest k) (0 ∷ serial_forest r) es)
      ∙ ap (λ (i : ℕ). run nodes end (s ∷ opens) (length ws ∷ begins) ws vs i (serial_forest k ++ 0 ∷ (serial_forest r ++ es))) (add-one p)
      ∙ run_forest k h.2 (s ∷ opens) (length ws ∷ begins) ws vs m (suc p) (0 ∷ (serial_forest r ++ es))
      ∙ ap (stuck_then T k (suc p)) (bar_closes s k opens begins ws vs m bar (serial_forest r ++ es) _ (rw (append_assoc ws (q ∷ []) (states_of T r), append_assoc vs (v ∷ []) (formed_values T r), place) at right))

  -- at the end of a tree
  tree_end : (t : Tree) (p : ℕ) → p ≡ length (serial t) - 1
      → end (get_or (states_of T (only t)) 0 0) (get_or (formed_values T (only t)) 0 0) p
      ≡ (if ltb (entry_of T.accepting (state_of T t)) (length T.accepting) then result (formed_number T t) else refused 14 (length (serial t) - 1))
  unfolding states_of row_number formed_number
  tree_end t p e = last (state_of T t) (get_or (formed_values T (only t)) 0 0) p ∙ rw e

  -- a tree
  pub run_tree : (t : Tree) → SymbolsInRange (only t) → run nodes end [] [] [] [] 0 (serial t) ≡ accepted_then T t (result (formed_number T t))
  unfolding serial accepted_then
  run_tree t h =
      let z : 0 + length (serial_forest (only t)) - 1 ≡ length (serial_forest (only t)) - 1 = omega arith in
      ap (run nodes end [] [] [] [] 0) (sym (append-nil (serial_forest (only t))))
      ∙ run_forest (only t) h [] [] [] [] refl 0 []
      ∙ ap (stuck_then T (only t) 0) (run_end nodes end [] [] (states_of T (only t)) (formed_values T (only t)) (0 + length (serial_forest (only t))) ∙ tree_end t _ z)
