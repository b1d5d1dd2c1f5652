-- A tree's entries taken in turn: open nodes, the states of closed ones that wait for their parent, and their values. Assumes nothing: these
-- are definitions.
use Rattle.std.specs.Prelude.{ℕ, ◌+◌, ◌-◌, Option, Some, None, List, [], ◌∷◌, ◌++◌, map, length, get_or, take, drop, eqb, ltb, if◌then◌else◌}
use Rattle.model.specs.Answers.{Outcome, result, refused}
use Rattle.model.specs.Reach.{entry_of}
use Rattle.model.specs.Count.{sum}
use Rattle.model.specs.Value.{horner}
use Rattle.model.specs.Table.{Row}
use Rattle.index.specs.Index.{row_found}
use Rattle.counts.specs.Chain.{target}
use Rattle.counts.specs.States.{held}

-- the value of a tree in its state q, by its row k, where the children have the states xs and the values vs. "no value is formed in an unused
-- one" (document 02, c): an unused state counts 0 here, and 0 stands for the value
unfoldable pub formed : (cs sums xs vs : List ℕ) (k q : ℕ) → ℕ
formed cs sums xs vs k q = if eqb (held cs q) 0 then 0 else horner (held cs) 0 xs vs + get_or sums k 0

-- the state that a closed node's tree reaches and its value there, or nothing if it reaches none
abbrev pub Node : Type 0
Node = Option (ℕ × ℕ)

-- the state and the value by the row that was found
abbrev pub node_by : Option ℕ → (rows : List Row) (cs sums xs vs : List ℕ) → Node
node_by (Some k) rows cs sums xs vs = Some (target rows k, formed cs sums xs vs k (target rows k))
node_by None rows cs sums xs vs = None

-- the state and the value of a tree with symbol s, whose children have the states xs and the values vs
unfoldable pub node_of : (rows : List Row) (cs sums : List ℕ) (s : ℕ) (xs vs : List ℕ) → Node
node_of rows cs sums s xs vs = node_by (row_found rows s xs) rows cs sums xs vs

-- the number of a tree with the state q and the value v; 14 at the place where the state is not listed
unfoldable pub numbered : (accepting cs : List ℕ) (q v place : ℕ) → Outcome
numbered accepting cs q v place =
    if ltb (entry_of accepting q) (length accepting) then result (v + sum (take (entry_of accepting q) (map (held cs) accepting))) else refused 14 place

-- a closed node's state and value take the place of its children's, from the b-th on
abbrev pub closed : Node → (place b : ℕ) (ws vs : List ℕ) → (List ℕ → List ℕ → Outcome) → Outcome
closed (Some (q, v)) place b ws vs rest = rest (take b ws ++ (q ∷ [])) (take b vs ++ (v ∷ []))
closed None place b ws vs rest = refused 14 place

-- The entries from a place on. `opens` are the symbols of the open nodes, the last opened first, and `begins` how many states were waiting
-- when each was opened; `ws` are the waiting states, in order, and `vs` their values
unfoldable pub run : (ℕ → List ℕ → List ℕ → Node) → (ℕ → ℕ → ℕ → Outcome) → (opens begins ws vs : List ℕ) (place : ℕ) → List ℕ → Outcome
run node end opens begins ws vs place [] = end (get_or ws 0 0) (get_or vs 0 0) (place - 1)
run node end opens begins ws vs place (e ∷ es) =
    let b = get_or begins 0 0 in
    if eqb e 0
    then closed (node (get_or opens 0 0) (drop b ws) (drop b vs)) place b ws vs (λ ws' vs'. run node end (drop 1 opens) (drop 1 begins) ws' vs' (place + 1) es)
    else run node end (e ∷ opens) (length ws ∷ begins) ws vs (place + 1) es

-- a tree's entries from the first
abbrev pub machine : (rows : List Row) (accepting cs sums tree : List ℕ) → Outcome
machine rows accepting cs sums tree = run (node_of rows cs sums) (numbered accepting cs) [] [] [] [] 0 tree
