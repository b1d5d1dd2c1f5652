-- The entries of the tree of a value, row by row and child by child. Assumes nothing.
use Prim.Native.Nat.{ℕ, suc, ◌/◌, ◌%◌, ◌<◌, ◌≤◌}
use mathlib.Core.Path.{◌≡◌, refl, sym, ap, subst, ◌∙◌}
use mathlib.Core.List.{List, [], ◌∷◌, ◌++◌, map, append_assoc}
use native.Mathlib.Omega.{arith}
use lib.ListN.{length, get_or}
use Rattle.model.specs.Table.{Row, no_row}
use Rattle.model.specs.Tree.{Forest, Tree, empty, node, serial_forest, serial}
use Rattle.model.specs.Reach.{Reaches}
use Rattle.model.specs.Count.{sum, row_counts, weight}
use Rattle.model.specs.Value.{Picked, find_by, children_from, tree_in}
use Rattle.model.proofs.Good.{Ordered}
use Rattle.model.proofs.Longest.{forest_most}
use Rattle.model.proofs.Values.{children_none, children_next, depth_free}
use Rattle.model.proofs.UsedValues.{tree_reaches}
use Rattle.rows.specs.Words.{symbol_in, args_in, row_in, rows_in, row_no, held_table}
use Rattle.rows.proofs.Words.{row_held_lem}
use Rattle.counts.specs.States.{held}
use Rattle.counts.proofs.Prepared.{as_counted}
use Rattle.unrank.specs.declared.Entered.{Entered}
use Rattle.unrank.specs.UnrankReady.{UnrankReady}
use Rattle.unrank.specs.Trees.{Enters, value_entries}
use Rattle.unrank.proofs.UnrankReady.{used_here}

-- the entries of the children from some on
unfoldable pub kids_in : (rows : List Row) (counts : List ℕ) (q : ℕ) (args : List ℕ) (w h : ℕ) → List ℕ
kids_in rows counts q args w h = serial_forest (children_from (held counts) (tree_in rows (held counts) q) args w h)

serial_is : (t : Tree) → serial t ≡ t.symbol ∷ serial_forest t.children ++ 0 ∷ []
unfolding serial serial_forest
serial_is t = refl

serial_none : serial_forest empty ≡ []
unfolding serial_forest
serial_none = refl

serial_next : (t : Tree) (f : Forest) → serial_forest (node t.symbol t.children f) ≡ serial t ++ serial_forest f
unfolding serial serial_forest
serial_next t f = ap (λ (l : List ℕ). t.symbol ∷ l) (sym (append_assoc (serial_forest t.children) (0 ∷ []) (serial_forest f)))

-- the tree of row r, with h left for its children
abbrev tree_by : (rows : List Row) (c : ℕ → ℕ) (q : ℕ) (r : Row) (h : ℕ) → Tree
tree_by rows c q r h = record { symbol = r.symbol; children = children_from c (tree_in rows c q) r.args (row_counts c r) h }

tree_step : (rows : List Row) (c : ℕ → ℕ) (q value : ℕ)
    → tree_in rows c (suc q) q value ≡ tree_by rows c q (get_or rows (find_by (map (weight c q) rows) value).which no_row) (find_by (map (weight c q) rows) value).rest
unfolding tree_in
tree_step rows c q value = refl

-- the word of the row that is entered holds the row
pub row_entered : {pool words counts : List ℕ} {q value : ℕ} {e : Entered} (y : Enters pool words counts q value e) → row_no (rows_in pool words) y.row ≡ row_in pool e.word
row_entered {pool} {words} y = row_held_lem pool words y.row y.inside ∙ ap (row_in pool) (sym y.is)

-- a tree is its row's symbol, its children and the bar
pub entries_are : {pool words counts : List ℕ} {q value : ℕ} {e : Entered} → Enters pool words counts q value e
    → value_entries (rows_in pool words) counts q value ≡ symbol_in e.word ∷ kids_in (rows_in pool words) counts q (args_in pool e.word) e.weight e.rest ++ 0 ∷ []
unfolding value_entries kids_in
entries_are {pool} {words} {counts} {q} {value} {e} y =
    let c = held counts in
    let rs = rows_in pool words in
    let r = row_in pool e.word in
    ap serial
    (tree_step rs c q value
    ∙ ap (λ (p : Picked). tree_by rs c q (get_or rs p.which no_row) p.rest) y.found
    ∙ ap (λ (r : Row). tree_by rs c q r e.rest) (row_entered y))
    ∙ serial_is (tree_by rs c q r e.rest)
    ∙ ap (λ (w : ℕ). r.symbol ∷ serial_forest (children_from c (tree_in rs c q) r.args w e.rest) ++ 0 ∷ []) (ap (row_counts c) (sym (row_entered y)) ∙ sym y.weighs)

-- the children: none, or a first and those after it
pub kids_none : (rows : List Row) (counts : List ℕ) (q w h : ℕ) → kids_in rows counts q [] w h ≡ []
unfolding kids_in
kids_none rows counts q w h = ap serial_forest (children_none (held counts) (tree_in rows (held counts) q) w h) ∙ serial_none

pub kids_next : (rows : List Row) (counts : List ℕ) (q : ℕ) → Ordered rows → (a : ℕ) → a < q → (xs : List ℕ) (w h : ℕ)
    → kids_in rows counts q (a ∷ xs) w h
    ≡ value_entries rows counts a (h / (w / held counts a)) ++ kids_in rows counts q xs (w / held counts a) (h % (w / held counts a))
unfolding kids_in value_entries
kids_next rows counts q o a l xs w h =
    let c = held counts in
    let v = h / (w / c a) in
    let others = children_from c (tree_in rows c q) xs (w / c a) (h % (w / c a)) in
    ap serial_forest (children_next c (tree_in rows c q) a xs w h)
    ∙ serial_next (tree_in rows c q a v) others
    ∙ ap (λ (t : Tree). serial t ++ serial_forest others) (depth_free rows o c q (suc a) a v l (omega arith))

-- no tree is longer than document 01's limit
pub short : {states : ℕ} {pool words accepting first counts sums : List ℕ} → UnrankReady states pool words accepting first counts sums
    → (q value : ℕ) → value < held counts q → length (value_entries (rows_in pool words) counts q value) ≤ 4096
unfolding value_entries serial sum
short {states} {pool} {words} {accepting} {counts = counts} x q value l =
    let T = held_table states pool words accepting in
    let u = used_here x q value l in
    let r : Reaches T.rows (tree_in T.rows (held counts) (suc q) q value) q
    = subst (λ (c : ℕ → ℕ). Reaches T.rows (tree_in T.rows c (suc q) q value) q) (sym (as_counted x.counted)) (tree_reaches T x.good (suc q) q value (omega arith) (omega (arith, l, x.counted.counted q))) in
    omega (arith, forest_most T x.good r, x.short q u)
