-- Values and trees look only at the counts of used states: with 0 for the count of each unused state, an accepted tree has the same number, and
-- a number below the total the same tree.
use Rattle.std.specs.Prelude.{if◌then◌else◌}
use Prim.Native.Nat.{ℕ, zero, suc, ◌+◌, ◌*◌, ◌-◌, ◌/◌, ◌%◌, ◌<◌}
use mathlib.Core.Path.{◌≡◌, refl, ap, sym, ◌∙◌}
use mathlib.Core.Bool.{Bool, true, false}
use mathlib.Core.List.{List, [], ◌∷◌, map}
use mathlib.Core.Logic.{◌⊎◌, inl, inr}
use native.Mathlib.Omega.{arith}
use native.Mathlib.Nat.{not-suc-le-zero, mul-pos, eq-zero-or-pos}
use lib.ListN.{length, get_or, take, length-map}
use lib.Dec.{eqb, ltb}
use borrow.Author.Tests.{eqb-true, ltb-true}
use Rattle.model.specs.Answers.{Outcome, result, refused}
use Rattle.model.specs.Table.{Row, Table, IsRow, no_row}
use Rattle.model.specs.Tree.{Forest, Tree, node, only, serial}
use Rattle.model.specs.Reach.{Reach, none, row, Reaches, Accepted, state_of, entry_of}
use Rattle.model.specs.Count.{sum, product, row_counts, weight, Counts, count, total}
use Rattle.model.specs.Value.{horner, earlier_rows, row_value, values_of, number_of, Picked, find_by, children_from, tree_in, tree_of}
use Rattle.model.specs.Number.{stuck_then, accepted_then}
use Rattle.model.specs.Used.{is_used, used_count, formed_value, formed_values, formed_number}
use Rattle.model.proofs.Good.{AllBelow, below_first, below_rest, Good}
use Rattle.model.proofs.Counting.{get_d_any, map_agree, factors_pos, get_d_map, count_counts, total_is}
use Rattle.model.proofs.Reaching.{row_there}
use Rattle.model.proofs.States.{target_is, accepted_exactly}
use Rattle.model.proofs.Longest.{reached_pos}
use Rattle.model.proofs.Values.{share, FindsAt, found, row_of_lem, Entered, entered, tree_valued}
use Rattle.model.proofs.Used.{used_state, used_pos, used_args, listed_used, accepted_used}

-- a product stays above 0 where each factor does
product_up : (c d : ℕ → ℕ) → ((a : ℕ) → 0 < c a → 0 < d a) → (xs : List ℕ) → 0 < product (map c xs) → 0 < product (map d xs)
unfolding product
product_up c d h [] p = p
product_up c d h (x ∷ xs) p = let f = factors_pos (c x) (product (map c xs)) 0 p in mul-pos (h x f.0) (product_up c d h xs f.1)

-- counts that agree on the states give the same values together
horner_agree : (c d : ℕ → ℕ) (h : ℕ) (xs vs : List ℕ) → ((j : ℕ) → j < length xs → c (get_or xs j 0) ≡ d (get_or xs j 0)) → horner c h xs vs ≡ horner d h xs vs
unfolding horner
horner_agree c d h [] vs e = refl
horner_agree c d h (x ∷ xs) [] e = refl
horner_agree c d h (x ∷ xs) (v ∷ vs) e =
    let y : c x ≡ d x = e 0 (omega arith) in
    rw y (horner_agree c d (h * d x + v) xs vs (λ j l. e (suc j) (omega arith)))

-- every state of the list is used
abbrev pub AllUsed : Table → List ℕ → Type 0
AllUsed T qs = (j : ℕ) → j < length qs → is_used T (get_or qs j 0) ≡ true

all_first : (T : Table) (q : ℕ) (qs : List ℕ) → AllUsed T (q ∷ qs) → is_used T q ≡ true
all_first T q qs h = h 0 (omega arith)

all_rest : (T : Table) (q : ℕ) (qs : List ℕ) → AllUsed T (q ∷ qs) → AllUsed T qs
all_rest T q qs h j l = h (suc j) (omega arith)

pub one : (T : Table) (q : ℕ) → is_used T q ≡ true → AllUsed T (q ∷ [])
one T q e zero l = e
one T q e (suc j) l = absurd (omega arith)

pub count_used : (T : Table) (q : ℕ) → is_used T q ≡ true → used_count T q ≡ count T q
unfolding used_count
count_used T q e = rw e

pub count_unused : (T : Table) (q : ℕ) → is_used T q ≡ false → used_count T q ≡ 0
unfolding used_count
count_unused T q e = rw e

used_less : (T : Table) (q : ℕ) → 0 < used_count T q → 0 < count T q
unfolding used_count
used_less T q = go (is_used T q)
  where
    go : (b : Bool) → 0 < (if b then count T q else 0) → 0 < count T q
    go true h = h
    go false h = absurd (not-suc-le-zero h)

-- what a tree that is not accepted answers does not depend on its number
pub answer_agree : (T : Table) → Good T → (t : Tree) (o o' : Outcome) → (Accepted T t → o ≡ o') → accepted_then T t o ≡ accepted_then T t o'
unfolding accepted_then
answer_agree T good t o o' h = ap (stuck_then T (only t) 0) (go (ltb (entry_of T.accepting (state_of T t)) (length T.accepting)) (ltb-true (entry_of T.accepting (state_of T t)) (length T.accepting)))
  where
    go : (b : Bool) → (b ≡ true → entry_of T.accepting (state_of T t) < length T.accepting)
        → (if b then o else refused 14 (length (serial t) - 1)) ≡ (if b then o' else refused 14 (length (serial t) - 1))
    go true l = h ((accepted_exactly good.sound t).1 (l refl))
    go false l = refl

module _ (T : Table) (good : Good T) where
  counts : Counts T (count T)
  counts = count_counts T good.ordered

  -- a used state is one that counts more than 0 when unused states count 0
  pub used_just : (q : ℕ) → 0 < used_count T q → is_used T q ≡ true
  unfolding used_count
  used_just q = go (is_used T q)
    where
      go : (b : Bool) → 0 < (if b then count T q else 0) → b ≡ true
      go true h = refl
      go false h = absurd (not-suc-le-zero h)

  pub just_used : (q : ℕ) → is_used T q ≡ true → 0 < used_count T q
  just_used q e = rw (count_used T q e) (used_pos T good q e)

  -- ---- rows of a used target

  pub row_used : {i s q : ℕ} {xs : List ℕ} → IsRow T.rows i s q xs → is_used T q ≡ true → product (map (used_count T) xs) ≡ product (map (count T) xs)
  row_used {xs} w e = go (eq-zero-or-pos (product (map (count T) xs))) (eq-zero-or-pos (product (map (used_count T) xs)))
    where
      go : (product (map (count T) xs) ≡ 0) ⊎ (0 < product (map (count T) xs)) → (product (map (used_count T) xs) ≡ 0) ⊎ (0 < product (map (used_count T) xs))
          → product (map (used_count T) xs) ≡ product (map (count T) xs)
      go (inl z) (inl y) = y ∙ sym z
      go (inl z) (inr p) = absurd (omega (arith, product_up (used_count T) (count T) (used_less T) xs p))
      go (inr p) y = ap product (map_agree (used_count T) (count T) 0 xs (λ j l. count_used T (get_or xs j 0) (used_args T good w e p j l)))

  weight_used : (q i : ℕ) → is_used T q ≡ true → i < length T.rows → weight (used_count T) q (get_or T.rows i no_row) ≡ weight (count T) q (get_or T.rows i no_row)
  unfolding weight
  weight_used q i e l = go (eqb (get_or T.rows i no_row).target q) (eqb-true (get_or T.rows i no_row).target q)
    where
      r : Row
      r = get_or T.rows i no_row

      go : (b : Bool) → (b ≡ true → r.target ≡ q) → (if b then row_counts (used_count T) r else 0) ≡ (if b then row_counts (count T) r else 0)
      go true y = row_used (row_there T.rows i q l (y refl)) e
      go false y = refl

  pub weights_used : (q : ℕ) → is_used T q ≡ true → map (weight (used_count T) q) T.rows ≡ map (weight (count T) q) T.rows
  weights_used q e = map_agree (weight (used_count T) q) (weight (count T) q) no_row T.rows (λ i l. weight_used q i e l)

  pub earlier_used : (q i : ℕ) → is_used T q ≡ true → earlier_rows T.rows (used_count T) q i ≡ earlier_rows T.rows (count T) q i
  unfolding earlier_rows
  earlier_used q i e = ap (λ (ws : List ℕ). sum (take i ws)) (weights_used q e)

  -- ---- values

  -- the value of a tree, by its row, with any counts
  values_by_row : (c : ℕ → ℕ) {i s q : ℕ} {k : Forest} {xs : List ℕ} (r : Forest) → IsRow T.rows i s q xs → Reach T.rows k xs
      → values_of T c (node s k r) ≡ (horner c 0 xs (values_of T c k) + earlier_rows T.rows c q i) ∷ values_of T c r
  unfolding values_of row_value
  values_by_row c r w ks = rw (row_of_lem T good.sound w ks, target_is T w, w.is)

  -- the accepting states count the same
  pub accepting_used : map (used_count T) T.accepting ≡ map (count T) T.accepting
  accepting_used = map_agree (used_count T) (count T) 0 T.accepting (λ i l. here i l (eq-zero-or-pos (count T (get_or T.accepting i 0))) (eq-zero-or-pos (used_count T (get_or T.accepting i 0))))
    where
      here : (i : ℕ) → i < length T.accepting → (count T (get_or T.accepting i 0) ≡ 0) ⊎ (0 < count T (get_or T.accepting i 0))
          → (used_count T (get_or T.accepting i 0) ≡ 0) ⊎ (0 < used_count T (get_or T.accepting i 0)) → used_count T (get_or T.accepting i 0) ≡ count T (get_or T.accepting i 0)
      here i l (inl z) (inl y) = y ∙ sym z
      here i l (inl z) (inr p) = absurd (omega (arith, used_less T (get_or T.accepting i 0) p))
      here i l (inr p) y = count_used T _ (listed_used T good i l p)

  pub total_used : sum (map (used_count T) T.accepting) ≡ total T
  total_used = ap sum accepting_used ∙ sym (total_is T)

  -- ---- values that are formed in used states only

  pub formed_row : {i s q : ℕ} {k : Forest} {xs : List ℕ} (r : Forest) → IsRow T.rows i s q xs → Reach T.rows k xs
      → formed_values T (node s k r) ≡ formed_value T i (formed_values T k) ∷ formed_values T r
  unfolding formed_values
  formed_row r w ks = rw (row_of_lem T good.sound w ks)

  -- in a used state it is the row's value
  pub formed_used : {i s q : ℕ} {xs : List ℕ} → IsRow T.rows i s q xs → is_used T q ≡ true → (vs : List ℕ)
      → formed_value T i vs ≡ horner (used_count T) 0 xs vs + earlier_rows T.rows (used_count T) q i
  unfolding formed_value row_value
  formed_used w u vs = rw (target_is T w, u, w.is)

  -- in an unused one it is 0
  pub formed_unused : {i s q : ℕ} {xs : List ℕ} → IsRow T.rows i s q xs → is_used T q ≡ false → (vs : List ℕ) → formed_value T i vs ≡ 0
  unfolding formed_value
  formed_unused w u vs = rw (target_is T w, u)

  -- trees that reach used states have their values
  pub values_formed : {f : Forest} {qs : List ℕ} → Reach T.rows f qs → AllUsed T qs → formed_values T f ≡ values_of T (count T) f
  unfolding formed_values values_of
  values_formed none h = refl
  values_formed (row {q} {children = k} {right = r} {xs} {qs} i w ks ts) h =
      let u = all_first T q qs h in
      let a : AllUsed T xs = used_args T good w u (reached_pos T good.sound (count T) counts ks) in
      let x : horner (used_count T) 0 xs (formed_values T k) ≡ horner (count T) 0 xs (values_of T (count T) k)
      = ap (horner (used_count T) 0 xs) (values_formed ks a) ∙ horner_agree (used_count T) (count T) 0 xs (values_of T (count T) k) (λ j l. count_used T (get_or xs j 0) (a j l)) in
      let y = earlier_used q i u in
      let z = values_formed ts (all_rest T q qs h) in
      formed_row r w ks ∙ rw (formed_used w u (formed_values T k), x, y, z) (sym (values_by_row (count T) r w ks))

  -- an accepted tree's number
  pub accepted_formed : {t : Tree} → Accepted T t → formed_number T t ≡ number_of T (count T) t
  unfolding formed_number number_of
  accepted_formed {t} a = rw (values_formed a.reaches (one T (get_or T.accepting a.entry 0) (accepted_used T good a)), accepting_used)

  -- what numbering answers with values that are formed in used states only
  pub number_formed : (t : Tree) → accepted_then T t (result (formed_number T t)) ≡ accepted_then T t (result (number_of T (count T) t))
  number_formed t = answer_agree T good t _ _ (λ a. ap result (accepted_formed a))

  -- ---- trees

  children_used : (f g : ℕ → ℕ → Tree) (q : ℕ) → ((a h : ℕ) → a < q → is_used T a ≡ true → h < count T a → f a h ≡ g a h)
      → (xs : List ℕ) → AllBelow q xs → AllUsed T xs
      → (w h : ℕ) → w ≡ product (map (count T) xs) → h < w → children_from (used_count T) f xs w h ≡ children_from (count T) g xs w h
  unfolding children_from
  children_used f g q e [] b u w h p l = refl
  children_used f g q e (a ∷ xs) b u w h p l =
      let s = share (count T) a xs w h p l in
      let y = count_used T a (all_first T a xs u) in
      let z = e a (h / (w / count T a)) (below_first q a xs b) (all_first T a xs u) s.value in
      rw (y, z, children_used f g q e xs (below_rest q a xs b) (all_rest T a xs u) (w / count T a) (h % (w / count T a)) s.leaves s.remains)

  pub tree_in_used : (d q h : ℕ) → q < d → is_used T q ≡ true → h < count T q → tree_in T.rows (used_count T) d q h ≡ tree_in T.rows (count T) d q h
  unfolding tree_in
  tree_in_used zero q h l u m = absurd (not-suc-le-zero l)
  tree_in_used (suc d) q h l u m =
      rw (weights_used q u)
      (go (find_by (map (weight (count T) q) T.rows) h) (entered T good.sound (count T) counts q h (used_state T q u) m)
      (λ a v la ua lv. tree_in_used d a v (omega arith) ua lv))
    where
      at : Picked → Row
      at p = get_or T.rows p.which no_row

      go : (p : Picked) → Entered T (count T) q h p
          → ((a v : ℕ) → a < q → is_used T a ≡ true → v < count T a → tree_in T.rows (used_count T) d a v ≡ tree_in T.rows (count T) d a v)
          → ◌≡◌ {A = Tree}
          (record { symbol = (at p).symbol; children = children_from (used_count T) (tree_in T.rows (used_count T) d) (at p).args (row_counts (used_count T) (at p)) p.rest })
          (record { symbol = (at p).symbol; children = children_from (count T) (tree_in T.rows (count T) d) (at p).args (row_counts (count T) (at p)) p.rest })
      go p n ih =
          let w = row_there T.rows p.which q n.inside n.target in
          let x : children_from (used_count T) (tree_in T.rows (used_count T) d) (at p).args (row_counts (used_count T) (at p)) p.rest
          ≡ children_from (count T) (tree_in T.rows (count T) d) (at p).args (row_counts (count T) (at p)) p.rest
          = ap (λ (v : ℕ). children_from (used_count T) (tree_in T.rows (used_count T) d) (at p).args v p.rest) (row_used w u)
          ∙ children_used (tree_in T.rows (used_count T) d) (tree_in T.rows (count T) d) q ih (at p).args (rw n.target at (good.ordered p.which n.inside))
          (used_args T good w u (omega (arith, n.less))) (row_counts (count T) (at p)) p.rest refl n.less in
          λ i. record { symbol = (at p).symbol; children = x i }

  -- a value below the count of its state: the state is used, and the tree reaches it
  pub tree_reaches : (d q h : ℕ) → q < d → h < used_count T q → Reaches T.rows (tree_in T.rows (used_count T) d q h) q
  tree_reaches d q h l m =
      let u = used_just q (omega arith) in
      let n : h < count T q = rw (count_used T q u) at m in
      rw (tree_in_used d q h l u n) (tree_valued T good.sound (count T) counts good.ordered d q h l (used_state T q u) n).reaches

  -- a number's tree
  pub tree_used : (n : ℕ) → n < total T → tree_of T (used_count T) n ≡ tree_of T (count T) n
  unfolding tree_of
  tree_used n l = rw accepting_used (go (find_by (map (count T) T.accepting) n) (found (map (count T) T.accepting) n (rw (total_is T) at l)))
    where
      go : (p : Picked) → FindsAt (map (count T) T.accepting) n p
          → tree_in T.rows (used_count T) T.states (get_or T.accepting p.which T.states) p.rest ≡ tree_in T.rows (count T) T.states (get_or T.accepting p.which T.states) p.rest
      go p f =
          let i : p.which < length T.accepting = rw (length-map T.accepting (count T)) at f.inside in
          let m : p.rest < count T (get_or T.accepting p.which 0) = rw (get_d_map (count T) T.accepting p.which 0 0 i) at f.less in
          rw (get_d_any T.accepting p.which T.states 0 i)
          (tree_in_used T.states (get_or T.accepting p.which 0) p.rest (good.sound.listed p.which i) (listed_used T good p.which i (omega arith)) m)
