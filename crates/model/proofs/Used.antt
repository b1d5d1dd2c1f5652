-- Which states are used: the function says what the sentence says, for every good table, within the limits or not.
use Prim.Native.Nat.{ℕ, zero, suc, ◌+◌, ◌-◌, ◌*◌, ◌≤◌, ◌<◌, suc-le-suc}
use mathlib.Core.Path.{◌≡◌, refl, ap, sym, ◌∙◌, subst}
use mathlib.Core.Bool.{Bool, true, false, ◌&&◌, ◌||◌}
use mathlib.Core.List.{List, [], ◌∷◌, map}
use mathlib.Core.Logic.{◌⊎◌, inl, inr, ◌↔◌}
use native.Mathlib.Omega.{arith}
use native.Mathlib.Decide.{dec_le}
use native.Mathlib.Nat.{not-suc-le-zero, le_of_suc-le-suc, le-mul_of_pos_right, mul_comm, eq-or-lt_of_le, lt_of_not-le}
use lib.ListN.{length, get_or, get_or-eq_default}
use lib.Dec.{ltb}
use borrow.Author.Tests.{ltb-true, lt-ltb}
use Rattle.model.specs.Choice.{any_below}
use Rattle.model.specs.Table.{Row, Table, IsRow, no_row}
use Rattle.model.specs.Tree.{Forest, Tree, empty, node}
use Rattle.model.specs.Reach.{Reach, none, row, Reaches, Accepted, entry_of, is_among}
use Rattle.model.specs.Count.{sum, product, row_counts, Counts, count, total}
use Rattle.model.specs.Value.{tree_in}
use Rattle.model.specs.Used.{Child, first, later, Subtree, whole, child, Used, used_by, state_used, grow_down, is_used}
use Rattle.model.proofs.Choice.{or_left, or_right, and_true, and_both, any_true, any_some, not_both}
use Rattle.model.proofs.Good.{AllBelow, below_first, below_rest, Ordered, Good}
use Rattle.model.proofs.Counting.{get_d_map, sum_entry, factors_pos, row_counts_le, count_counts, total_is}
use Rattle.model.proofs.Reaching.{row_target, row_args, row_there, reaches_same}
use Rattle.model.proofs.States.{args_states, entry_of_is, entry_of_first}
use Rattle.model.proofs.Longest.{graft, reached_pos, reaches_pos}
use Rattle.model.proofs.Values.{tree_valued}

-- ---- tests

-- the same for all numbers below n
pub any_same : (n : ℕ) (p q : ℕ → Bool) → ((i : ℕ) → i < n → p i ≡ q i) → any_below n p ≡ any_below n q
unfolding any_below
any_same zero p q h = refl
any_same (suc n) p q h = rw (any_same n p q (λ i l. h i (omega arith)), h n (omega arith))

-- a number among others stands at a place
pub among_place : (q : ℕ) (xs : List ℕ) → is_among q xs ≡ true → (j : ℕ) × (j < length xs) × (get_or xs j 0 ≡ q)
among_place q xs e = let l = ltb-true (entry_of xs q) (length xs) e in (entry_of xs q, l, entry_of_is xs q l)

pub place_among : (q j : ℕ) (xs : List ℕ) → j < length xs → get_or xs j 0 ≡ q → is_among q xs ≡ true
place_among q j xs l e = lt-ltb (entry_of xs q) (length xs) (omega (arith, entry_of_first xs q j e))

-- ---- lists grown from the highest state down

module _ {A : Type 0} (d : A) (F : (ℕ → A) → ℕ → A) (states : ℕ) where
  pub down_length : (n : ℕ) → length (grow_down d F states n) ≡ n
  unfolding grow_down
  down_length zero = refl
  down_length (suc n) = ap suc (down_length n)

  down_step : (m a : ℕ) → suc m ≤ states → states - m ≤ a
      → get_or (grow_down d F states (suc m)) (a - (states - suc m)) d ≡ get_or (grow_down d F states m) (a - (states - m)) d
  unfolding grow_down
  down_step m a k l = let e : a - (states - suc m) ≡ suc (a - (states - m)) = omega arith in rw e

  -- what is found stays
  down_stays : (n m a : ℕ) → n ≤ m → m ≤ states → states - n ≤ a
      → get_or (grow_down d F states m) (a - (states - m)) d ≡ get_or (grow_down d F states n) (a - (states - n)) d
  down_stays n zero a h k l = let e : n ≡ 0 = omega arith in rw e
  down_stays n (suc m) a h k l = go (eq-or-lt_of_le h) (λ i. down_stays n m a i (omega arith) l)
    where
      go : (n ≡ suc m) ⊎ (n < suc m) → (n ≤ m → get_or (grow_down d F states m) (a - (states - m)) d ≡ get_or (grow_down d F states n) (a - (states - n)) d)
          → get_or (grow_down d F states (suc m)) (a - (states - suc m)) d ≡ get_or (grow_down d F states n) (a - (states - n)) d
      go (inl e) ih = rw e
      go (inr i) ih = down_step m a k (omega arith) ∙ ih (omega arith)

  down_last : (n q : ℕ) → suc n + q ≡ states → get_or (grow_down d F states (suc n)) 0 d ≡ F (λ a. get_or (grow_down d F states n) (a - (states - n)) d) q
  unfolding grow_down
  down_last n q e = let k : states - suc n ≡ q = omega arith in rw k

  -- where F looks only above a state, each entry is F of the entries
  pub down_eqn : ((c e : ℕ → A) (q : ℕ) → ((a : ℕ) → q < a → c a ≡ e a) → F c q ≡ F e q)
      → (q : ℕ) → q < states → get_or (grow_down d F states states) q d ≡ F (λ a. get_or (grow_down d F states states) a d) q
  down_eqn local q l = here ∙ down_last n q (omega arith) ∙ local _ _ q (λ a la. sym (stays n a (omega arith) (omega arith)))
    where
      n : ℕ
      n = states - suc q

      stays : (n a : ℕ) → n ≤ states → states - n ≤ a → get_or (grow_down d F states states) a d ≡ get_or (grow_down d F states n) (a - (states - n)) d
      stays n a h k = let z : a - (states - states) ≡ a = omega arith in subst (λ (i : ℕ). get_or (grow_down d F states states) i d ≡ get_or (grow_down d F states n) (a - (states - n)) d) z (down_stays n states a h (omega arith) k)

      here : get_or (grow_down d F states states) q d ≡ get_or (grow_down d F states (suc n)) 0 d
      here =
          let z : q - (states - suc n) ≡ 0 = omega arith in
          subst (λ (i : ℕ). get_or (grow_down d F states states) q d ≡ get_or (grow_down d F states (suc n)) i d) z (stays (suc n) q (omega arith) (omega arith))

-- ---- one state: whether it is used depends only on the states above it

used_by_local : (c : ℕ → ℕ) (u v : ℕ → Bool) (q : ℕ) (r : Row) → AllBelow r.target r.args → ((a : ℕ) → q < a → u a ≡ v a) → used_by c u q r ≡ used_by c v q r
used_by_local c u v q r b h = go (is_among q r.args) refl
  where
    go : (t : Bool) → is_among q r.args ≡ t → used_by c u q r ≡ used_by c v q r
    go true e = let p = among_place q r.args e in rw (h r.target (omega (arith, b p.0 p.1, p.2)))
    go false e = rw e

pub state_used_local : (T : Table) → Ordered T.rows → (c : ℕ → ℕ) (u v : ℕ → Bool) (q : ℕ) → ((a : ℕ) → q < a → u a ≡ v a) → state_used T c u q ≡ state_used T c v q
unfolding state_used
state_used_local T o c u v q h =
    ap (λ (b : Bool). (ltb 0 (c q) && is_among q T.accepting) || b)
    (any_same (length T.rows) (λ i. used_by c u q (get_or T.rows i no_row)) (λ i. used_by c v q (get_or T.rows i no_row))
    (λ i l. used_by_local c u v q (get_or T.rows i no_row) (o i l) h))

-- marks of the states of a table, whatever way they are found: they satisfy the equation
pub record Marks (T : Table) (c : ℕ → ℕ) (u : ℕ → Bool) : Type 0 where
  pub state : (q : ℕ) → q < T.states → u q ≡ state_used T c u q
  pub other : (q : ℕ) → T.states ≤ q → u q ≡ false

-- what is no state is not used
pub used_beyond : (T : Table) (q : ℕ) → T.states ≤ q → is_used T q ≡ false
unfolding is_used
used_beyond T q l =
    get_or-eq_default (grow_down false (state_used T (count T)) T.states T.states) false (omega (arith, down_length false (state_used T (count T)) T.states T.states))

pub used_marks : (T : Table) → Ordered T.rows → Marks T (count T) (is_used T)
unfolding is_used
used_marks T o =
    record { state = λ q l. down_eqn false (state_used T (count T)) T.states (state_used_local T o (count T)) q l; other = λ q l. used_beyond T q l }

-- marks that satisfy the equation are those that are computed, whatever way they are found
pub marks_unique : (T : Table) → Ordered T.rows → (c : ℕ → ℕ) (u v : ℕ → Bool) → Marks T c u → Marks T c v → (q : ℕ) → u q ≡ v q
marks_unique T o c u v mu mv q = above T.states q (omega arith)
  where
    above : (n q : ℕ) → T.states ≤ q + n → u q ≡ v q
    above zero q h = mu.other q (omega arith) ∙ sym (mv.other q (omega arith))
    above (suc n) q h = go (dec_le T.states q) (λ a l. above n a (omega arith))
      where
        go : Dec (T.states ≤ q) → ((a : ℕ) → q < a → u a ≡ v a) → u q ≡ v q
        go (yes l) ih = mu.other q l ∙ sym (mv.other q l)
        go (no l) ih = let m = lt_of_not-le l in mu.state q m ∙ state_used_local T o c u v q ih ∙ sym (mv.state q m)

-- ---- a good table, with any counts and marks

-- a forest's tree reaches one of the forest's states
child_reaches : {rows : List Row} {x : Tree} {f : Forest} {qs : List ℕ} → Child x f → Reach rows f qs → (j : ℕ) × (j < length qs) × Reaches rows x (get_or qs j 0)
child_reaches first (row i w ks ts) = (0, omega arith, row i w ks none)
child_reaches (later c) (row i w ks ts) = let p = child_reaches c ts in (suc p.0, suc-le-suc p.1, p.2)

-- a factor of a product above 0
factor_pos : (c : ℕ → ℕ) (xs : List ℕ) (j : ℕ) → j < length xs → 0 < product (map c xs) → 0 < c (get_or xs j 0)
unfolding product
factor_pos c [] j l p = absurd (not-suc-le-zero l)
factor_pos c (x ∷ xs) zero l p = (factors_pos (c x) (product (map c xs)) 0 p).0
factor_pos c (x ∷ xs) (suc j) l p = factor_pos c xs j (le_of_suc-le-suc l) (factors_pos (c x) (product (map c xs)) 0 p).1

-- and it is at most the product
factor_le : (c : ℕ → ℕ) (xs : List ℕ) (j : ℕ) → j < length xs → 0 < product (map c xs) → c (get_or xs j 0) ≤ product (map c xs)
unfolding product
factor_le c [] j l p = absurd (not-suc-le-zero l)
factor_le c (x ∷ xs) zero l p = le-mul_of_pos_right (c x) (factors_pos (c x) (product (map c xs)) 0 p).1
factor_le c (x ∷ xs) (suc j) l p =
    let f = factors_pos (c x) (product (map c xs)) 0 p in
    let r : product (map c xs) ≤ c x * product (map c xs) = rw (mul_comm (c x) (product (map c xs))) (le-mul_of_pos_right (product (map c xs)) f.0) in
    omega (arith, factor_le c xs j (le_of_suc-le-suc l) f.1, r)

-- a used state is a state
marked_state : {T : Table} {c : ℕ → ℕ} {u : ℕ → Bool} → Marks T c u → (q : ℕ) → u q ≡ true → q < T.states
marked_state {T} {u} marks q e = go (dec_le T.states q)
  where
    go : Dec (T.states ≤ q) → q < T.states
    go (yes l) = absurd (not_both (u q) e (marks.other q l))
    go (no l) = lt_of_not-le l

pub used_state : (T : Table) (q : ℕ) → is_used T q ≡ true → q < T.states
used_state T q e = go (dec_le T.states q)
  where
    go : Dec (T.states ≤ q) → q < T.states
    go (yes l) = absurd (not_both (is_used T q) e (used_beyond T q l))
    go (no l) = lt_of_not-le l

-- a listed state that counts more than 0 is used
pub listed_marked : (T : Table) (c : ℕ → ℕ) (u : ℕ → Bool) → Marks T c u → (i : ℕ) → i < length T.accepting → get_or T.accepting i 0 < T.states
    → 0 < c (get_or T.accepting i 0) → u (get_or T.accepting i 0) ≡ true
unfolding state_used
listed_marked T c u marks i l s p =
    let q = get_or T.accepting i 0 in
    marks.state q s
    ∙ or_left (ltb 0 (c q) && is_among q T.accepting) _ (and_both (ltb 0 (c q)) (is_among q T.accepting) (lt-ltb 0 (c q) p) (place_among q i T.accepting l refl))

-- why a state is used: it is listed, or the row that names it
pub data Why (T : Table) (c : ℕ → ℕ) (u : ℕ → Bool) (q : ℕ) : Type 0 where
  listed : (i : ℕ) → i < length T.accepting → get_or T.accepting i 0 ≡ q → 0 < c q → Why T c u q
  named : {i s p : ℕ} {xs : List ℕ} → IsRow T.rows i s p xs → (j : ℕ) → j < length xs → get_or xs j 0 ≡ q → 0 < product (map c xs) → u p ≡ true → Why T c u q

module _ (T : Table) (good : Good T) (c : ℕ → ℕ) (counts : Counts T c) (u : ℕ → Bool) (marks : Marks T c u) where
  pub why : (q : ℕ) → u q ≡ true → Why T c u q
  unfolding state_used
  why q e = split (ltb 0 (c q) && is_among q T.accepting) refl (sym (marks.state q (marked_state marks q e)) ∙ e)
    where
      row_why : (i : ℕ) × (i < length T.rows) × (used_by c u q (get_or T.rows i no_row) ≡ true) → Why T c u q
      row_why p =
          let r = get_or T.rows p.0 no_row in
          let a = and_true (is_among q r.args) (ltb 0 (row_counts c r) && u r.target) p.2 in
          let b = and_true (ltb 0 (row_counts c r)) (u r.target) a.1 in
          let j = among_place q r.args a.0 in
          named (row_there T.rows p.0 r.target p.1 refl) j.0 j.1 j.2 (ltb-true 0 (row_counts c r) b.0) b.1

      split : (t : Bool) → (ltb 0 (c q) && is_among q T.accepting) ≡ t
          → (t || any_below (length T.rows) (λ i. used_by c u q (get_or T.rows i no_row))) ≡ true → Why T c u q
      split true h k =
          let a = and_true (ltb 0 (c q)) (is_among q T.accepting) h in
          let j = among_place q T.accepting a.1 in
          listed j.0 j.1 j.2 (ltb-true 0 (c q) a.0)
      split false h k = row_why (any_some (length T.rows) (λ i. used_by c u q (get_or T.rows i no_row)) k)

  pub because : (q : ℕ) → Why T c u q → u q ≡ true
  unfolding state_used
  because q (listed i l e p) =
      subst (λ (a : ℕ). u a ≡ true) e (listed_marked T c u marks i l (good.sound.listed i l) (subst (λ (a : ℕ). 0 < c a) (sym e) p))
  because q (named {i} {p} {xs} w j l e n h) =
      marks.state q (subst (λ (a : ℕ). a < T.states) e (args_states good.sound w j l))
      ∙ or_right (ltb 0 (c q) && is_among q T.accepting) _
      (any_true (length T.rows) i (λ i. used_by c u q (get_or T.rows i no_row)) w.inside
      (simp (w.is, place_among q j xs l e, lt-ltb 0 (product (map c xs)) n, h)))

  -- a used state has trees
  pub marked_pos : (q : ℕ) → u q ≡ true → 0 < c q
  marked_pos q e = go (why q e)
    where
      go : Why T c u q → 0 < c q
      go (listed i l d p) = p
      go (named {xs} w j l d n h) = subst (λ (a : ℕ). 0 < c a) d (factor_pos c xs j l n)

  -- the arguments of a row that counts more than 0 and has a used target are used
  pub marked_args : {i s p : ℕ} {xs : List ℕ} → IsRow T.rows i s p xs → u p ≡ true → 0 < product (map c xs) → (j : ℕ) → j < length xs → u (get_or xs j 0) ≡ true
  marked_args {xs} w h n j l = because (get_or xs j 0) (named w j l refl n h)

  -- ---- subtrees of an accepted tree reach used states

  record Reached (x : Tree) : Type 0 where
    state : ℕ
    reaches : Reaches T.rows x state
    used : u state ≡ true

  pub accepted_marked : {t : Tree} (a : Accepted T t) → u (get_or T.accepting a.entry 0) ≡ true
  accepted_marked {t} a = because _ (listed a.entry a.listed refl (reaches_pos T good.sound c counts {t = t} a.reaches))

  subtree_reached : {t x : Tree} → Accepted T t → Subtree t x → Reached x
  subtree_reached a whole = record { state = _; reaches = a.reaches; used = accepted_marked a }
  subtree_reached a (child n d) = let p = subtree_reached a n in below d p.reaches p.used
    where
      below : {x y : Tree} {q : ℕ} → Child y x.children → Reaches T.rows x q → u q ≡ true → Reached y
      below d (row i w ks none) h =
          let p = child_reaches d ks in
          record { state = _; reaches = p.2; used = marked_args w h (reached_pos T good.sound c counts ks) p.0 p.1 }

  -- ---- a tree of a used state is a subtree of an accepted tree

  -- trees for states that count more than 0, and with one of them given
  record Some (xs : List ℕ) : Type 0 where
    forest : Forest
    reach : Reach T.rows forest xs

  some_trees : (xs : List ℕ) → AllBelow T.states xs → 0 < product (map c xs) → Some xs
  unfolding product
  some_trees [] b p = record { forest = empty; reach = none }
  some_trees (a ∷ xs) b p =
      let f = factors_pos (c a) (product (map c xs)) 0 p in
      let v = tree_valued T good.sound c counts good.ordered (suc a) a 0 (omega arith) (below_first T.states a xs b) f.0 in
      let t = tree_in T.rows c (suc a) a 0 in
      let g = some_trees xs (below_rest T.states a xs b) f.1 in
      record { forest = node t.symbol t.children g.forest; reach = graft v.reaches g.reach }

  record SomeWith (x : Tree) (xs : List ℕ) : Type 0 where
    forest : Forest
    reach : Reach T.rows forest xs
    has : Child x forest

  trees_with : (x : Tree) (xs : List ℕ) (j : ℕ) → j < length xs → Reaches T.rows x (get_or xs j 0) → AllBelow T.states xs → 0 < product (map c xs) → SomeWith x xs
  unfolding product
  trees_with x [] j l r b p = absurd (not-suc-le-zero l)
  trees_with x (a ∷ xs) zero l r b p =
      let g = some_trees xs (below_rest T.states a xs b) (factors_pos (c a) (product (map c xs)) 0 p).1 in
      record { forest = node x.symbol x.children g.forest; reach = graft r g.reach; has = first }
  trees_with x (a ∷ xs) (suc j) l r b p =
      let f = factors_pos (c a) (product (map c xs)) 0 p in
      let v = tree_valued T good.sound c counts good.ordered (suc a) a 0 (omega arith) (below_first T.states a xs b) f.0 in
      let g = trees_with x xs j (le_of_suc-le-suc l) r (below_rest T.states a xs b) f.1 in
      record { forest = _; reach = graft v.reaches g.reach; has = later g.has }

  -- a row's arguments are below its target
  lower : {i s p : ℕ} {xs : List ℕ} → IsRow T.rows i s p xs → AllBelow p xs
  lower {i} w = rw (row_target w, row_args w) at (good.ordered i w.inside)

  record With (x : Tree) : Type 0 where
    tree : Tree
    accepted : Accepted T tree
    inside : Subtree tree x

  with_subtree : (n q : ℕ) → T.states ≤ q + n → u q ≡ true → (x : Tree) → Reaches T.rows x q → With x
  with_subtree zero q h e x r = absurd (omega (arith, marked_state marks q e))
  with_subtree (suc n) q h e x r = go (why q e) (with_subtree n)
    where
      go : Why T c u q → ((p : ℕ) → T.states ≤ p + n → u p ≡ true → (y : Tree) → Reaches T.rows y p → With y) → With x
      go (listed i l d m) ih =
          record { tree = x; accepted = record { entry = i; listed = l; reaches = subst (Reaches T.rows x) (sym d) r }; inside = whole }
      go (named {i} {s} {p} {xs} w j l d m k) ih =
          let g = trees_with x xs j l (subst (Reaches T.rows x) (sym d) r) (args_states good.sound w) m in
          let b : get_or xs j 0 < p = lower w j l in
          let v = ih p (omega (arith, d)) k (record { symbol = s; children = g.forest }) (row i w g.reach none) in
          record { tree = v.tree; accepted = v.accepted; inside = child v.inside g.has }

  -- the marked states are those that are used
  pub marked_exactly : (q : ℕ) → (u q ≡ true) ↔ Used T q
  marked_exactly q = (there, back)
    where
      there : u q ≡ true → Used T q
      there e =
          let v = tree_valued T good.sound c counts good.ordered (suc q) q 0 (omega arith) (marked_state marks q e) (marked_pos q e) in
          let w = with_subtree T.states q (omega arith) e (tree_in T.rows c (suc q) q 0) v.reaches in
          record { tree = w.tree; accepted = w.accepted; subtree = tree_in T.rows c (suc q) q 0; inside = w.inside; reaches = v.reaches }

      back : Used T q → u q ≡ true
      back h =
          let p = subtree_reached h.accepted h.inside in
          subst (λ (a : ℕ). u a ≡ true) (reaches_same {t = h.subtree} good.sound.distinct p.reaches h.reaches) p.used

  -- a used state counts at most what the listed states do together
  few : (n q : ℕ) → T.states ≤ q + n → u q ≡ true → c q ≤ sum (map c T.accepting)
  few zero q h e = absurd (omega (arith, marked_state marks q e))
  few (suc n) q h e = go (why q e) (few n)
    where
      go : Why T c u q → ((p : ℕ) → T.states ≤ p + n → u p ≡ true → c p ≤ sum (map c T.accepting)) → c q ≤ sum (map c T.accepting)
      go (listed i l d m) ih = omega (arith, sum_entry (map c T.accepting) i, get_d_map c T.accepting i 0 0 l, ap c d)
      go (named {p} {xs} w j l d m k) ih =
          let b : get_or xs j 0 < p = lower w j l in
          let f = factor_le c xs j l m in
          let r = row_counts_le c w in
          let s = counts.state p (marked_state marks p k) in
          omega (arith, f, ap c d, r, s, ih p (omega (arith, d)) k)

  pub marked_few : (q : ℕ) → u q ≡ true → c q ≤ sum (map c T.accepting)
  marked_few q e = few T.states q (omega arith) e

-- ---- a good table

module _ (T : Table) (good : Good T) where
  counts : Counts T (count T)
  counts = count_counts T good.ordered

  marks : Marks T (count T) (is_used T)
  marks = used_marks T good.ordered

  -- "A state is used if some accepted tree has a subtree reaching it."
  pub used_exactly : (q : ℕ) → (is_used T q ≡ true) ↔ Used T q
  used_exactly = marked_exactly T good (count T) counts (is_used T) marks

  pub used_pos : (q : ℕ) → is_used T q ≡ true → 0 < count T q
  used_pos = marked_pos T good (count T) counts (is_used T) marks

  -- a used state counts at most the total: each of its trees is in an accepted one
  pub used_few : (q : ℕ) → is_used T q ≡ true → count T q ≤ total T
  used_few q e = omega (arith, marked_few T good (count T) counts (is_used T) marks q e, total_is T)

  -- the arguments of a row that counts more than 0 and has a used target are used
  pub used_args : {i s p : ℕ} {xs : List ℕ} → IsRow T.rows i s p xs → is_used T p ≡ true → 0 < product (map (count T) xs) → (j : ℕ) → j < length xs → is_used T (get_or xs j 0) ≡ true
  used_args = marked_args T good (count T) counts (is_used T) marks

  -- a listed state that counts more than 0 is used
  pub listed_used : (i : ℕ) → i < length T.accepting → 0 < count T (get_or T.accepting i 0) → is_used T (get_or T.accepting i 0) ≡ true
  listed_used i l p = listed_marked T (count T) (is_used T) marks i l (good.sound.listed i l) p

  -- the state of an accepted tree is used
  pub accepted_used : {t : Tree} (a : Accepted T t) → is_used T (get_or T.accepting a.entry 0) ≡ true
  accepted_used = accepted_marked T good (count T) counts (is_used T) marks

  -- a tree with a subtree that reaches an unused state is not accepted
  pub unused_not_accepted : {t x : Tree} {q : ℕ} → Subtree t x → Reaches T.rows x q → is_used T q ≡ false → Accepted T t → ⊥
  unused_not_accepted {t} {x} {q} n r e a = not_both (is_used T q) ((used_exactly q).1 (record { tree = t; accepted = a; subtree = x; inside = n; reaches = r })) e
