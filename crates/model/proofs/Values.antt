-- The value of a tree in its state: values are below the state's count and go up in the order of trees, and the tree of a value reaches the
-- state and has that value.
use Rattle.std.specs.Prelude.{if◌then◌else◌}
use Prim.Native.Nat.{ℕ, zero, suc, ◌+◌, ◌*◌, ◌-◌, ◌/◌, ◌%◌, ◌≤◌, ◌<◌, pred, suc-le-suc}
use mathlib.Core.Path.{◌≡◌, refl, ap, sym, ◌∙◌}
use mathlib.Core.Bool.{Bool, true, false}
use mathlib.Core.List.{List, [], ◌∷◌, map}
use native.Mathlib.Omega.{arith}
use native.Mathlib.Decide.{dec_le}
use native.Mathlib.Nat.{div-add-mod', mod-lt, div-lt_iff_lt-mul, mul-div_cancel_left, not-suc-le-zero, le_of_suc-le-suc, lt_of_not-le, le_refl, mul-le-mul_right}
use lib.ListN.{length, get_or, take, length-map, get_or-eq_default}
use lib.Dec.{ltb}
use borrow.Author.Tests.{ltb-true, ltb-false, lt-ltb, le-ltb}
use Rattle.model.specs.Table.{Row, Table, IsRow, no_row}
use Rattle.model.specs.Tree.{Forest, Tree, empty, node, only}
use Rattle.model.specs.Reach.{Reach, none, row, Reaches, row_with, row_of}
use Rattle.model.specs.Count.{sum, product, row_counts, weight, state_counts, Counts}
use Rattle.model.specs.Value.{horner, earlier_rows, row_value, values_of, value_of, Picked, find_by, children_from, tree_in}
use Rattle.model.specs.Order.{Earlier}
use Rattle.model.specs.Order.Earlier.{row as by_row, child as by_child, next as by_next}
use Rattle.model.proofs.Good.{AllBelow, below_first, below_rest, below_none, Ordered, Sound}
use Rattle.model.proofs.Counting.{sum_place, factors_pos, weight_at, weight_pos}
use Rattle.model.proofs.Reaching.{row_symbol, row_args, row_there}
use Rattle.model.proofs.States.{row_with_is, target_is, states_reach}
use Rattle.model.proofs.Longest.{graft, row_fits}

-- ---- three ways

-- one of three things holds
pub data Three (A B C : Type 0) : Type 0 where
  lt : A → Three A B C
  eq : B → Three A B C
  gt : C → Three A B C

-- a number is below another, the same, or above it
pub three : (i j : ℕ) → Three (i < j) (i ≡ j) (j < i)
three zero zero = eq refl
three zero (suc j) = lt (omega arith)
three (suc i) zero = gt (omega arith)
three (suc i) (suc j) = up (three i j)
  where
    up : Three (i < j) (i ≡ j) (j < i) → Three (suc i < suc j) (suc i ≡ suc j) (suc j < suc i)
    up (lt l) = lt (omega arith)
    up (eq e) = eq (ap suc e)
    up (gt l) = gt (omega arith)

-- ---- sums up to a place, and the place of a number

-- the entry at a place is in the sum up to any later place
pub sum_step : (ws : List ℕ) (i j : ℕ) → i < j → sum (take i ws) + get_or ws i 0 ≤ sum (take j ws)
unfolding sum
sum_step ws i zero l = absurd (not-suc-le-zero l)
sum_step [] zero (suc j) l = omega arith
sum_step [] (suc i) (suc j) l = omega arith
sum_step (w ∷ ws) zero (suc j) l = omega arith
sum_step (w ∷ ws) (suc i) (suc j) l = omega (arith, sum_step ws i j (le_of_suc-le-suc l))

-- the weight that holds h: the weights before it make h with the rest, and the rest is below the weight
pub record FindsAt (ws : List ℕ) (h : ℕ) (p : Picked) : Type 0 where
  pub inside : p.which < length ws
  pub less : p.rest < get_or ws p.which 0
  pub is : sum (take p.which ws) + p.rest ≡ h

-- the first weight holds h or not; where not, what is found among the others stands one later
abbrev pick_by : Bool → ℕ → Picked → Picked
pick_by b h p = if b then record { which = 0; rest = h } else record { which = suc p.which; rest = p.rest }

-- a number below the sum of all is found
pub found : (ws : List ℕ) (h : ℕ) → h < sum ws → FindsAt ws h (find_by ws h)
unfolding sum find_by
found [] h l = absurd (not-suc-le-zero l)
found (w ∷ ws) h l = go (ltb h w) (ltb-true h w) (ltb-false h w) (found ws (h - w))
  where
    go : (b : Bool) → (b ≡ true → h < w) → (b ≡ false → w ≤ h) → (h - w < sum ws → FindsAt ws (h - w) (find_by ws (h - w)))
        → FindsAt (w ∷ ws) h (pick_by b h (find_by ws (h - w)))
    go true y n ih = record { inside = omega arith; less = y refl; is = omega arith }
    go false y n ih =
        let le : w ≤ h = n refl in
        let p = ih (omega arith) in
        record { inside = suc-le-suc p.inside; less = p.less; is = omega (arith, p.is) }

-- the place where the sums first pass h is the one that is found
pub find_at : (ws : List ℕ) (h i : ℕ) → sum (take i ws) ≤ h → h < sum (take i ws) + get_or ws i 0 → find_by ws h ≡ record { which = i; rest = h - sum (take i ws) }
unfolding sum find_by
find_at [] h i l m = absurd (omega arith)
find_at (w ∷ ws) h zero l m =
    let e : h ≡ h - 0 = omega arith in
    rw (lt-ltb h w (omega arith)) (λ j. record { which = 0; rest = e j })
find_at (w ∷ ws) h (suc i) l m =
    let e : h - w - sum (take i ws) ≡ h - (w + sum (take i ws)) = omega arith in
    rw (le-ltb h w (omega arith), find_at ws (h - w) i (omega arith) (omega arith)) (λ j. record { which = suc i; rest = e j })

-- no weight holds a number that is not below the sum of all
pub find_none : (ws : List ℕ) (h : ℕ) → sum ws ≤ h → find_by ws h ≡ record { which = length ws; rest = h - sum ws }
unfolding sum find_by
find_none [] h l = let e : h ≡ h - 0 = omega arith in λ j. record { which = 0; rest = e j }
find_none (w ∷ ws) h l =
    let e : h - w - sum ws ≡ h - (w + sum ws) = omega arith in
    rw (le-ltb h w (omega arith), find_none ws (h - w) (omega arith)) (λ j. record { which = suc (length ws); rest = e j })

-- ---- the definitions, one step at a time

pub children_none : (c : ℕ → ℕ) (below : ℕ → ℕ → Tree) (w h : ℕ) → children_from c below [] w h ≡ empty
unfolding children_from
children_none c below w h = refl

pub children_next : (c : ℕ → ℕ) (below : ℕ → ℕ → Tree) (a : ℕ) (xs : List ℕ) (w h : ℕ)
    → children_from c below (a ∷ xs) w h
    ≡ node (below a (h / (w / c a))).symbol (below a (h / (w / c a))).children (children_from c below xs (w / c a) (h % (w / c a)))
unfolding children_from
children_next c below a xs w h = refl

-- ---- Horner's way

-- from h on: h times the product of the counts more
pub horner_from : (c : ℕ → ℕ) (h : ℕ) (xs vs : List ℕ) → length vs ≡ length xs → horner c h xs vs ≡ h * product (map c xs) + horner c 0 xs vs
unfolding horner product
horner_from c h [] vs e = omega arith
horner_from c h (a ∷ xs) [] e = absurd (omega arith)
horner_from c h (a ∷ xs) (v ∷ vs) e = omega (arith, horner_from c (h * c a + v) xs vs (ap pred e), horner_from c (0 * c a + v) xs vs (ap pred e))

-- the first value counts as often as the others have values together
pub horner_cons : (c : ℕ → ℕ) (q v : ℕ) (qs vs : List ℕ) → length vs ≡ length qs → horner c 0 (q ∷ qs) (v ∷ vs) ≡ v * product (map c qs) + horner c 0 qs vs
unfolding horner
horner_cons c q v qs vs e = omega (arith, horner_from c (0 * c q + v) qs vs e)

-- values below counts, one for each state
pub data ValuesBelow (c : ℕ → ℕ) : List ℕ → List ℕ → Type 0 where
  none_below : ValuesBelow c [] []
  also_below : {q v : ℕ} {qs vs : List ℕ} → v < c q → ValuesBelow c qs vs → ValuesBelow c (q ∷ qs) (v ∷ vs)

-- there is one for each
pub below_length : {c : ℕ → ℕ} {qs vs : List ℕ} → ValuesBelow c qs vs → length vs ≡ length qs
below_length none_below = refl
below_length (also_below l b) = ap suc (below_length b)

-- together they are below the product of the counts
pub horner_less : {c : ℕ → ℕ} {qs vs : List ℕ} → ValuesBelow c qs vs → horner c 0 qs vs < product (map c qs)
unfolding product horner
horner_less none_below = omega arith
horner_less {c} (also_below {q} {v} {qs} {vs} l b) =
    rw (horner_cons c q v qs vs (below_length b)) (omega (arith, horner_less b, mul-le-mul_right (product (map c qs)) l))

-- the first value that differs decides
first_decides : {c : ℕ → ℕ} (q v v' : ℕ) {qs vs vs' : List ℕ} → ValuesBelow c qs vs → ValuesBelow c qs vs' → v < v'
    → horner c 0 (q ∷ qs) (v ∷ vs) < horner c 0 (q ∷ qs) (v' ∷ vs')
first_decides {c} q v v' {qs} {vs} {vs'} b b' l =
    rw (horner_cons c q v qs vs (below_length b), horner_cons c q v' qs vs' (below_length b'))
    (omega (arith, horner_less b, mul-le-mul_right (product (map c qs)) l))

rest_decides : {c : ℕ → ℕ} (q v : ℕ) {qs vs vs' : List ℕ} → ValuesBelow c qs vs → ValuesBelow c qs vs' → horner c 0 qs vs < horner c 0 qs vs'
    → horner c 0 (q ∷ qs) (v ∷ vs) < horner c 0 (q ∷ qs) (v ∷ vs')
rest_decides {c} q v {qs} {vs} {vs'} b b' l =
    rw (horner_cons c q v qs vs (below_length b), horner_cons c q v qs vs' (below_length b')) (omega arith)

-- ---- the tree of a value through more states

-- the row that is found has arguments below its target; where none is, there are no arguments
pub found_args : (rows : List Row) → Ordered rows → (c : ℕ → ℕ) (q h : ℕ) → AllBelow q (get_or rows (find_by (map (weight c q) rows) h).which no_row).args
found_args rows o c q h = go (dec_le (sum ws) h)
  where
    ws : List ℕ
    ws = map (weight c q) rows

    go : Dec (sum ws ≤ h) → AllBelow q (get_or rows (find_by ws h).which no_row).args
    go (yes l) =
        let e : (find_by ws h).which ≡ length rows = ap (λ (p : Picked). p.which) (find_none ws h l) ∙ length-map rows (weight c q) in
        rw (e, get_or-eq_default rows no_row (le_refl (length rows))) (below_none q)
    go (no l) =
        let f = found ws h (lt_of_not-le l) in
        let m : (find_by ws h).which < length rows = rw (length-map rows (weight c q)) at f.inside in
        rw (weight_pos c rows q (find_by ws h).rest (find_by ws h).which m f.less).0 at (o (find_by ws h).which m)

-- the same trees below: the same children
pub children_same : (c : ℕ → ℕ) (f g : ℕ → ℕ → Tree) (q : ℕ) → ((a h : ℕ) → a < q → f a h ≡ g a h)
    → (xs : List ℕ) → AllBelow q xs → (w h : ℕ) → children_from c f xs w h ≡ children_from c g xs w h
unfolding children_from
children_same c f g q e [] b w h = refl
children_same c f g q e (a ∷ xs) b w h =
    rw (e a (h / (w / c a)) (below_first q a xs b), children_same c f g q e xs (below_rest q a xs b) (w / c a) (h % (w / c a)))

-- the tree of a value does not depend on the depth above its state
pub depth_free : (rows : List Row) → Ordered rows → (c : ℕ → ℕ) (d e q h : ℕ) → q < d → q < e → tree_in rows c d q h ≡ tree_in rows c e q h
unfolding tree_in
depth_free rows o c zero e q h l m = absurd (not-suc-le-zero l)
depth_free rows o c (suc d) zero q h l m = absurd (not-suc-le-zero m)
depth_free rows o c (suc d) (suc e) q h l m =
    let p = find_by (map (weight c q) rows) h in
    let r = get_or rows p.which no_row in
    let k = children_same c (tree_in rows c d) (tree_in rows c e) q (λ a v la. depth_free rows o c d e a v (omega arith) (omega arith)) r.args (found_args rows o c q h)
    (row_counts c r) p.rest in
    λ j. record { symbol = r.symbol; children = k j }

-- ---- children: "for each child divide w by the child's count"

-- a row that counts more than h: its first child counts more than 0, dividing leaves the count of the others, the child's value is below
-- its count and the remainder below the count of the others
pub record Share (c : ℕ → ℕ) (a : ℕ) (xs : List ℕ) (w h : ℕ) : Type 0 where
  pub counts : 0 < c a
  pub leaves : w / c a ≡ product (map c xs)
  pub positive : 0 < w / c a
  pub value : h / (w / c a) < c a
  pub remains : h % (w / c a) < w / c a

-- where w is the count of the row and h below it
pub share : (c : ℕ → ℕ) (a : ℕ) (xs : List ℕ) (w h : ℕ) → w ≡ product (map c (a ∷ xs)) → h < w → Share c a xs w h
unfolding product
share c a xs w h e l =
    let m : h < c a * product (map c xs) = rw e at l in
    let p = factors_pos (c a) (product (map c xs)) h m in
    let d : w / c a ≡ product (map c xs) = rw e (mul-div_cancel_left (product (map c xs)) p.0) in
    record {
      counts = p.0;
      leaves = d;
      positive = rw d p.1;
      value = rw d ((div-lt_iff_lt-mul p.1).1 m);
      remains = rw d (mod-lt h p.1);
    }

-- the row of a value in a state: it has the state as target and counts more than the rest; no row that counts 0 is entered
pub record Entered (T : Table) (c : ℕ → ℕ) (q h : ℕ) (p : Picked) : Type 0 where
  pub inside : p.which < length T.rows
  pub target : (get_or T.rows p.which no_row).target ≡ q
  pub less : p.rest < row_counts c (get_or T.rows p.which no_row)
  pub is : earlier_rows T.rows c q p.which + p.rest ≡ h

-- the tree reaches the state and has the value there
pub record Valued (T : Table) (c : ℕ → ℕ) (t : Tree) (q h : ℕ) : Type 0 where
  pub reaches : Reaches T.rows t q
  pub value : value_of T c t ≡ h

-- trees side by side reach the states and have the value together
pub record ValuedForest (T : Table) (c : ℕ → ℕ) (f : Forest) (qs : List ℕ) (h : ℕ) : Type 0 where
  pub reach : Reach T.rows f qs
  pub value : horner c 0 qs (values_of T c f) ≡ h

module _ (T : Table) (sound : Sound T) where
  -- a tree's row
  pub row_of_lem : {i s q : ℕ} {k : Forest} {xs : List ℕ} → IsRow T.rows i s q xs → Reach T.rows k xs → row_of T s k ≡ i
  row_of_lem {s} w ks = ap (row_with T.rows s) (states_reach sound ks) ∙ row_with_is sound.distinct w

  same_args : {i j s q s' q' : ℕ} {xs xs' : List ℕ} → IsRow T.rows i s q xs → IsRow T.rows j s' q' xs' → i ≡ j → xs ≡ xs'
  same_args w w' e = sym (row_args w) ∙ ap (λ (i : ℕ). (get_or T.rows i no_row).args) e ∙ row_args w'

  same_symbol : {i j s q s' q' : ℕ} {xs xs' : List ℕ} → IsRow T.rows i s q xs → IsRow T.rows j s' q' xs' → i ≡ j → s ≡ s'
  same_symbol w w' e = sym (row_symbol w) ∙ ap (λ (i : ℕ). (get_or T.rows i no_row).symbol) e ∙ row_symbol w'

  -- of two forests that reach the same states one is earlier, or they are the same
  pub compare : {f g : Forest} {qs : List ℕ} → Reach T.rows f qs → Reach T.rows g qs → Three (Earlier T f g) (f ≡ g) (Earlier T g f)
  compare none none = eq refl
  compare (row {s} {q} {children = k} {right = r} {xs} i w ks ts) (row {s = s'} {children = k'} {right = r'} {xs = xs'} j w' ks' ts') =
      go (three i j) (λ (h : Reach T.rows k' xs). compare ks h) (compare ts ts')
    where
      Compared : Forest → Forest → Type 0
      Compared f g = Three (Earlier T f g) (f ≡ g) (Earlier T g f)

      ri : row_of T s k ≡ i
      ri = row_of_lem w ks

      rj : row_of T s' k' ≡ j
      rj = row_of_lem w' ks'

      deep : i ≡ j → s ≡ s' → Compared k k' → Compared r r' → Compared (node s k r) (node s' k' r')
      deep e y (lt l) d = lt (by_child (ri ∙ e ∙ sym rj) l)
      deep e y (gt l) d = gt (by_child (rj ∙ sym e ∙ sym ri) l)
      deep e y (eq z) (lt l) = lt (rw (y, z) (by_next l))
      deep e y (eq z) (gt l) = gt (rw (y, z) (by_next l))
      deep e y (eq z) (eq u) = eq (λ i. node (y i) (z i) (u i))

      go : Three (i < j) (i ≡ j) (j < i) → (Reach T.rows k' xs → Compared k k') → Compared r r' → Compared (node s k r) (node s' k' r')
      go (lt l) h d = let m : row_of T s k < row_of T s' k' = rw (ri, rj) l in lt (by_row m)
      go (gt l) h d = let m : row_of T s' k' < row_of T s k = rw (ri, rj) l in gt (by_row m)
      go (eq e) h d = deep e (same_symbol w w' e) (h (rw (← (same_args w w' e)) at ks')) d

  module _ (c : ℕ → ℕ) (counts : Counts T c) where
    -- the value of a tree, by its row
    pub values_row : {i s q : ℕ} {k : Forest} {xs : List ℕ} (r : Forest) → IsRow T.rows i s q xs → Reach T.rows k xs
        → values_of T c (node s k r) ≡ (horner c 0 xs (values_of T c k) + earlier_rows T.rows c q i) ∷ values_of T c r
    unfolding values_of row_value
    values_row r w ks = rw (row_of_lem w ks, target_is T w, w.is)

    -- a row's trees fit into its target's count
    pub row_below : {i s q : ℕ} {xs : List ℕ} (h : ℕ) → IsRow T.rows i s q xs → h < product (map c xs) → h + earlier_rows T.rows c q i < c q
    unfolding state_counts earlier_rows
    row_below {i} {q} h w l = omega (arith, counts.state q (row_fits T sound w), sum_place (map (weight c q) T.rows) i, weight_at c w)

    -- values are below the counts of the states
    pub values_below : {f : Forest} {qs : List ℕ} → Reach T.rows f qs → ValuesBelow c qs (values_of T c f)
    unfolding values_of
    values_below none = none_below
    values_below (row {s} {q} {children = k} {right = r} {xs} i w ks ts) =
        rw (values_row r w ks) (also_below (row_below (horner c 0 xs (values_of T c k)) w (horner_less (values_below ks))) (values_below ts))

    -- an earlier row of the same target has the smaller values
    pub rows_rise : {i s q : ℕ} {xs : List ℕ} (j h h' : ℕ) → IsRow T.rows i s q xs → i < j → h < product (map c xs)
        → h + earlier_rows T.rows c q i < h' + earlier_rows T.rows c q j
    unfolding earlier_rows
    rows_rise {i} {q} j h h' w l m = omega (arith, sum_step (map (weight c q) T.rows) i j l, weight_at c w)

    -- the order implies a smaller value
    pub values_rise : {f g : Forest} {qs : List ℕ} → Earlier T f g → Reach T.rows f qs → Reach T.rows g qs
        → horner c 0 qs (values_of T c f) < horner c 0 qs (values_of T c g)
    unfolding values_of
    values_rise (by_row {s} {s'} {k} {k'} {r} {r'} l) (row {q} {xs} {qs} i w ks ts) (row {xs = xs'} j w' ks' ts') =
        let m = rows_rise j (horner c 0 xs (values_of T c k)) (horner c 0 xs' (values_of T c k')) w (rw (row_of_lem w ks, row_of_lem w' ks') at l) (horner_less (values_below ks)) in
        rw (values_row r w ks, values_row r' w' ks') (first_decides q _ _ (values_below ts) (values_below ts') m)
    values_rise (by_child {s} {s'} {k} {k'} {r} {r'} e l) (row {q} {xs} {qs} i w ks ts) (row {xs = xs'} j w' ks' ts') =
        let p : i ≡ j = sym (row_of_lem w ks) ∙ e ∙ row_of_lem w' ks' in
        let x : xs ≡ xs' = same_args w w' p in
        let m = values_rise l ks (rw (← x) at ks') in
        rw (values_row r w ks, values_row r' w' ks', ← p, ← x) (first_decides q _ _ (values_below ts) (values_below ts') (omega (arith, m)))
    values_rise (by_next l) (row i w ks ts) (row j w' ks' ts') = rest_decides _ _ (values_below ts) (values_below ts') (values_rise l ts ts')

    valued_next : {t : Tree} {f : Forest} {a v r : ℕ} {xs : List ℕ} (h : ℕ) → Valued T c t a v → ValuedForest T c f xs r → v * product (map c xs) + r ≡ h
        → ValuedForest T c (node t.symbol t.children f) (a ∷ xs) h
    unfolding values_of
    valued_next {t} {f} {a} {v} {r} {xs} h x y e =
        record {
          reach = graft x.reaches y.reach;
          value = horner_cons c a (value_of T c t) xs (values_of T c f) (below_length (values_below y.reach)) ∙ rw (x.value, y.value) e;
        }

    -- the children of a value
    pub children_valued : (below : ℕ → ℕ → Tree) (q : ℕ) → ((a h : ℕ) → a < q → h < c a → Valued T c (below a h) a h)
        → (xs : List ℕ) → AllBelow q xs → (w h : ℕ) → w ≡ product (map c xs) → h < w → ValuedForest T c (children_from c below xs w h) xs h
    unfolding children_from product values_of horner
    children_valued below q ih [] b w h e l = record { reach = none; value = omega arith }
    children_valued below q ih (a ∷ xs) b w h e l =
        let s = share c a xs w h e l in
        valued_next h (ih a (h / (w / c a)) (below_first q a xs b) s.value)
        (children_valued below q ih xs (below_rest q a xs b) (w / c a) (h % (w / c a)) s.leaves s.remains)
        (rw (← s.leaves) (div-add-mod' h (w / c a)))

    -- the row of a value below the state's count
    pub entered : (q h : ℕ) → q < T.states → h < c q → Entered T c q h (find_by (map (weight c q) T.rows) h)
    unfolding state_counts earlier_rows
    entered q h l m =
        let f = found (map (weight c q) T.rows) h (rw (counts.state q l) at m) in
        let i : (find_by (map (weight c q) T.rows) h).which < length T.rows = rw (length-map T.rows (weight c q)) at f.inside in
        let w = weight_pos c T.rows q (find_by (map (weight c q) T.rows) h).rest (find_by (map (weight c q) T.rows) h).which i f.less in
        record { inside = i; target = w.0; less = w.1; is = f.is }

    -- a tree's value is below its state's count
    pub value_below : {t : Tree} {q : ℕ} → Reaches T.rows t q → value_of T c t < c q
    unfolding values_of
    value_below r = go (values_below r)
      where
        go : {q v : ℕ} → ValuesBelow c (q ∷ []) (v ∷ []) → v < c q
        go (also_below l b) = l

    -- the order of two trees in one state implies a smaller value
    pub value_rises : {t u : Tree} {q : ℕ} → Earlier T (only t) (only u) → Reaches T.rows t q → Reaches T.rows u q → value_of T c t < value_of T c u
    unfolding values_of horner
    value_rises l r r' = omega (arith, values_rise l r r')

    -- ---- where arguments stand below targets

    module _ (ordered : Ordered T.rows) where
      row_valued : (below : ℕ → ℕ → Tree) (q h : ℕ) (p : Picked) → ((a h : ℕ) → a < q → h < c a → Valued T c (below a h) a h) → Entered T c q h p
          → Valued T c
          (record {
            symbol = (get_or T.rows p.which no_row).symbol;
            children = children_from c below (get_or T.rows p.which no_row).args (row_counts c (get_or T.rows p.which no_row)) p.rest;
          }) q h
      row_valued below q h p ih n =
          let r = get_or T.rows p.which no_row in
          let w = row_there T.rows p.which q n.inside n.target in
          let k = children_valued below q ih r.args (rw n.target at (ordered p.which n.inside)) (row_counts c r) p.rest refl n.less in
          record {
            reaches = row p.which w k.reach none;
            value = ap (λ (vs : List ℕ). get_or vs 0 0) (values_row empty w k.reach) ∙ omega (arith, k.value, n.is);
          }

      -- the tree of a value below the count of its state
      pub tree_valued : (d q h : ℕ) → q < d → q < T.states → h < c q → Valued T c (tree_in T.rows c d q h) q h
      unfolding tree_in
      tree_valued zero q h l fits less = absurd (not-suc-le-zero l)
      tree_valued (suc d) q h l fits less =
          row_valued (tree_in T.rows c d) q h (find_by (map (weight c q) T.rows) h)
          (λ a v la lv. tree_valued d a v (omega arith) (omega arith) lv) (entered q h fits less)
