-- The longest tree of a state: a state that counts more than 0 has one, of as many entries as is computed; no tree reaches a state that counts 0.
use Prim.Native.Nat.{ℕ, zero, suc, ◌+◌, ◌≤◌, ◌<◌}
use mathlib.Core.Path.{◌≡◌, refl, sym, ◌∙◌}
use mathlib.Core.List.{List, [], ◌∷◌, map}
use mathlib.Core.Logic.{◌⊎◌, inl, inr}
use native.Mathlib.Omega.{arith}
use native.Mathlib.Decide.{dec_le}
use native.Mathlib.Nat.{not-suc-le-zero, mul-pos, eq-zero-or-pos, lt_of_not-le}
use lib.ListN.{length, get_or, length-append, length-map}
use Rattle.model.specs.Table.{Row, Table, IsRow, no_row}
use Rattle.model.specs.Tree.{Forest, Tree, empty, node, serial_forest, serial}
use Rattle.model.specs.Reach.{Reach, none, row, Reaches}
use Rattle.model.specs.Count.{sum, product, row_counts, weight, state_counts, Counts, count, largest, row_longest, state_longest, longest, LongestTree}
use Rattle.model.proofs.Good.{AllBelow, below_first, below_rest, Sound, Good}
use Rattle.model.proofs.Counting.{sum_pos, factors_pos, largest_entry, largest_at, weight_pos, row_counts_le, row_longest_at, row_longest_pos, count_counts, longest_eqn, longest_beyond}
use Rattle.model.proofs.Reaching.{row_target, row_there}

-- a tree to the left of others
pub graft : {rows : List Row} {s q : ℕ} {k f : Forest} {qs : List ℕ} → Reach rows (node s k empty) (q ∷ []) → Reach rows f qs → Reach rows (node s k f) (q ∷ qs)
graft (row i w ks none) g = row i w ks g

pub forest_length : (s : ℕ) (k f : Forest) → length (serial_forest (node s k f)) ≡ 2 + length (serial_forest k) + length (serial_forest f)
unfolding serial_forest
forest_length s k f = omega (arith, length-append (serial_forest k) (0 ∷ serial_forest f))

pub serial_length : (t : Tree) → length (serial t) ≡ 2 + length (serial_forest t.children)
unfolding serial serial_forest
serial_length t = omega (arith, length-append (serial_forest t.children) (0 ∷ []))

module _ (T : Table) (sound : Sound T) where
  pub row_fits : {i s q : ℕ} {xs : List ℕ} → IsRow T.rows i s q xs → q < T.states
  row_fits {i} w = rw (row_target w) at (sound.targets i w.inside)

  -- ---- counts above 0

  -- with any counts, states that are reached count more than 0
  pub reached_pos : (c : ℕ → ℕ) → Counts T c → {f : Forest} {qs : List ℕ} → Reach T.rows f qs → 0 < product (map c qs)
  unfolding product
  reached_pos c e none = omega arith
  reached_pos c e (row {q} i w ks ts) =
      let p : 0 < c q = omega (arith, e.state q (row_fits w), row_counts_le c w, reached_pos c e ks) in
      mul-pos p (reached_pos c e ts)

  pub reaches_pos : (c : ℕ → ℕ) → Counts T c → {t : Tree} {q : ℕ} → Reaches T.rows t q → 0 < c q
  unfolding product
  reaches_pos c e {t} {q} r = (factors_pos (c q) 1 0 (reached_pos c e r)).0

  -- no tree reaches a state that counts 0
  pub none_reaches : (c : ℕ → ℕ) → Counts T c → (t : Tree) (q : ℕ) → c q ≡ 0 → Reaches T.rows t q → ⊥
  none_reaches c e t q z r = omega (arith, reaches_pos c e r)

  -- a state that counts more than 0 has a row that does
  pub counting_row : (c : ℕ → ℕ) → Counts T c → (q : ℕ) → q < T.states → 0 < c q
      → (i : ℕ) × (i < length T.rows) × ((get_or T.rows i no_row).target ≡ q) × (0 < row_counts c (get_or T.rows i no_row))
  unfolding state_counts
  counting_row c e q l h =
      let p = sum_pos (map (weight c q) T.rows) (omega (arith, e.state q l)) in
      let m : p.0 < length T.rows = rw (length-map T.rows (weight c q)) at p.1 in
      let w = weight_pos c T.rows q 0 p.0 m p.2 in
      (p.0, m, w.0, w.1)

-- ---- longest trees, where arguments stand below targets

module _ (T : Table) (good : Good T) where
  eqn : (q : ℕ) → q < T.states → longest T q ≡ largest (map (row_longest (count T) (longest T) q) T.rows)
  unfolding state_longest
  eqn q l = longest_eqn T good.ordered q l

  counts : Counts T (count T)
  counts = count_counts T good.ordered

  pub longest_pos : (q : ℕ) → q < T.states → 0 < count T q → 0 < longest T q
  longest_pos q l h =
      let p = counting_row T good.sound (count T) counts q l h in
      omega (
        arith,
        eqn q l,
        largest_entry (map (row_longest (count T) (longest T) q) T.rows) p.0,
        row_longest_at (count T) (longest T) (row_there T.rows p.0 q p.1 p.2) p.3,
      )

  -- the row of the longest tree
  longest_row : (q : ℕ) → q < T.states → 0 < longest T q
      → (i : ℕ) × (i < length T.rows) × ((get_or T.rows i no_row).target ≡ q) × (0 < row_counts (count T) (get_or T.rows i no_row))
      × (longest T q ≡ 2 + sum (map (longest T) (get_or T.rows i no_row).args))
  longest_row q l h =
      let p = largest_at (map (row_longest (count T) (longest T) q) T.rows) (omega (arith, eqn q l)) in
      let m : p.0 < length T.rows = rw (length-map T.rows (row_longest (count T) (longest T) q)) at p.1 in
      let w = row_longest_pos (count T) (longest T) T.rows q p.0 m (omega (arith, p.2, eqn q l)) in
      (p.0, m, w.0, w.1, eqn q l ∙ sym p.2 ∙ w.2)

  -- "A state that counts 0 has none"
  pub longest_none : (q : ℕ) → count T q ≡ 0 → longest T q ≡ 0
  longest_none q z = side (dec_le T.states q)
    where
      inside : q < T.states → (longest T q ≡ 0) ⊎ (0 < longest T q) → longest T q ≡ 0
      inside l (inl e) = e
      inside l (inr h) =
          let p = longest_row q l h in
          absurd (omega (arith, counts.state q l, row_counts_le (count T) (row_there T.rows p.0 q p.1 p.2), p.3))

      side : Dec (T.states ≤ q) → longest T q ≡ 0
      side (yes l) = longest_beyond T q l
      side (no l) = inside (lt_of_not-le l) (eq-zero-or-pos (longest T q))

  -- no forest is longer than its states' longest trees together
  pub forest_most : {f : Forest} {qs : List ℕ} → Reach T.rows f qs → length (serial_forest f) ≤ sum (map (longest T) qs)
  unfolding serial_forest sum
  forest_most none = omega arith
  forest_most (row {s} {q} {children = k} {right = f} i w ks ts) =
      omega (
        arith,
        forest_length s k f,
        forest_most ks,
        forest_most ts,
        eqn q (row_fits T good.sound w),
        largest_entry (map (row_longest (count T) (longest T) q) T.rows) i,
        row_longest_at (count T) (longest T) w (reached_pos T good.sound (count T) counts ks),
      )

  -- trees, one for each of some states, each as long as its state's longest
  record LongestForest (qs : List ℕ) : Type 0 where
    forest : Forest
    reach : Reach T.rows forest qs
    has : length (serial_forest forest) ≡ sum (map (longest T) qs)

  record Has (q : ℕ) : Type 0 where
    tree : Tree
    reaches : Reaches T.rows tree q
    has : length (serial tree) ≡ longest T q

  many : (q : ℕ) → ((a : ℕ) → a < q → 0 < count T a → Has a) → (xs : List ℕ) → AllBelow q xs → 0 < product (map (count T) xs) → LongestForest xs
  unfolding product sum serial_forest
  many q h [] b p = record { forest = empty; reach = none; has = refl }
  many q h (a ∷ xs) b p =
      let f = factors_pos (count T a) (product (map (count T) xs)) 0 p in
      let t = h a (below_first q a xs b) f.0 in
      let g = many q h xs (below_rest q a xs b) f.1 in
      record {
        forest = node t.tree.symbol t.tree.children g.forest;
        reach = graft t.reaches g.reach;
        has = omega (arith, t.has, g.has, serial_length t.tree, forest_length t.tree.symbol t.tree.children g.forest);
      }

  has_longest : (n q : ℕ) → q < n → q < T.states → 0 < count T q → Has q
  has_longest zero q k l h = absurd (not-suc-le-zero k)
  has_longest (suc n) q k l h =
      let p = longest_row q l (longest_pos q l h) in
      let r = get_or T.rows p.0 no_row in
      let g = many q (λ a la lc. has_longest n a (omega arith) (omega arith) lc) r.args (λ i m. rw p.2 at (good.ordered p.0 p.1 i m)) p.3 in
      record {
        tree = record { symbol = r.symbol; children = g.forest };
        reaches = row p.0 (row_there T.rows p.0 q p.1 p.2) g.reach none;
        has = omega (arith, serial_length (record { symbol = r.symbol; children = g.forest }), g.has, p.4);
      }

  -- "A state's longest tree has the most entries among the trees that reach it."
  pub longest_tree : (q : ℕ) → q < T.states → 0 < count T q → LongestTree T.rows q (longest T q)
  unfolding serial sum
  longest_tree q l h =
      let t = has_longest (suc q) q (omega arith) l h in
      record { tree = t.tree; reaches = t.reaches; has = t.has; most = λ u r. omega (arith, forest_most r) }
