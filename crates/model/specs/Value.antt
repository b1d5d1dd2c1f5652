-- "Counting and order": the value and the number of a tree (001, Figure 1), and back again (001, Figure 2). Assumes nothing: these are definitions.
use Rattle.std.specs.Prelude.{ℕ, zero, suc, ◌+◌, ◌*◌, ◌-◌, ◌/◌, ◌%◌, List, [], ◌∷◌, map, get_or, take, ltb, if◌then◌else◌}
use Rattle.model.specs.Table.{Row, Table, no_row}
use Rattle.model.specs.Tree.{Forest, Tree, empty, node, only}
use Rattle.model.specs.Reach.{target_of, row_of, state_of, entry_of}
use Rattle.model.specs.Count.{sum, row_counts, weight, count}

-- "start at 0; for each child from the first, multiply by the count of the child's state and add the child's value":
-- c the counts, h what is found so far, xs the children's states, vs their values
unfoldable pub horner : (ℕ → ℕ) → ℕ → List ℕ → List ℕ → ℕ
horner c h [] vs = h
horner c h (x ∷ xs) [] = h
horner c h (x ∷ xs) (v ∷ vs) = horner c (h * c x + v) xs vs

-- "then add the counts of all earlier rows with the same target": the rows before row i with target q
unfoldable pub earlier_rows : List Row → (ℕ → ℕ) → ℕ → ℕ → ℕ
earlier_rows rows c q i = sum (take i (map (weight c q) rows))

-- the value of a tree whose row is i and whose children have the values vs
unfoldable pub row_value : Table → (ℕ → ℕ) → ℕ → List ℕ → ℕ
row_value T c i vs = horner c 0 (get_or T.rows i no_row).args vs + earlier_rows T.rows c (target_of T i) i

-- "Value of a tree in its state" (001, Figure 1): the values of the trees of a forest, in order, with the counts c
unfoldable pub values_of : Table → (ℕ → ℕ) → Forest → List ℕ
values_of T c empty = []
values_of T c (node s children right) = row_value T c (row_of T s children) (values_of T c children) ∷ values_of T c right

abbrev pub value_of : Table → (ℕ → ℕ) → Tree → ℕ
value_of T c t = get_or (values_of T c (only t)) 0 0

-- "Its number is that value plus the counts of the accepting states listed earlier (001, Figure 1)."
unfoldable pub number_of : Table → (ℕ → ℕ) → Tree → ℕ
number_of T c t = value_of T c t + sum (take (entry_of T.accepting (state_of T t)) (map c T.accepting))

-- a tree's number in a table, with the counts of its states
abbrev pub tree_number : Table → Tree → ℕ
tree_number T t = number_of T (count T) t

-- what is found by the sums: which of the weights holds h, and what is left of h there
pub record Picked : Type 0 where
  pub which : ℕ
  pub rest : ℕ

-- "find the accepting state, then the row, by the sums"
unfoldable pub find_by : List ℕ → ℕ → Picked
find_by [] h = record { which = 0; rest = h }
find_by (w ∷ ws) h =
    let later = find_by ws (h - w) in
    if ltb h w then record { which = 0; rest = h } else record { which = suc later.which; rest = later.rest }

-- "With h the rest and w the row's count, for each child divide w by the child's count; the child's value is h divided by w, rounded
-- down, and h becomes the remainder." `below a v` is the tree of the value v in the state a
unfoldable pub children_from : (ℕ → ℕ) → (ℕ → ℕ → Tree) → List ℕ → (w h : ℕ) → Forest
children_from c below [] w h = empty
children_from c below (a ∷ xs) w h =
    let w' = w / c a in
    let t = below a (h / w') in
    node t.symbol t.children (children_from c below xs w' (h % w'))

-- the tree of a value in a state (001, Figure 2), through at most `depth` states, one below the other
unfoldable pub tree_in : List Row → (ℕ → ℕ) → (depth : ℕ) → (q h : ℕ) → Tree
tree_in rows c zero q h = record { symbol = 0; children = empty }
tree_in rows c (suc depth) q h =
    let found = find_by (map (weight c q) rows) h in
    let r = get_or rows found.which no_row in
    record { symbol = r.symbol; children = children_from c (tree_in rows c depth) r.args (row_counts c r) found.rest }

-- "Back again": the tree of a number below the total. No more states than there are lie one below the other. For another number no
-- accepting state is found; where targets are states, what stands here then has symbol 0
unfoldable pub tree_of : Table → (ℕ → ℕ) → ℕ → Tree
tree_of T c n =
    let found = find_by (map c T.accepting) n in
    tree_in T.rows c T.states (get_or T.accepting found.which T.states) found.rest
