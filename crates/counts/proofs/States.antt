-- Counting one state along the chain of its rows. Assumes nothing.
use Rattle.std.specs.Prelude.{if◌then◌else◌, Option, Some}
use Rattle.std.specs.Option.{unwrap_or}
use Prim.Native.Nat.{ℕ, zero, suc, ◌+◌, ◌-◌, ◌<◌, ◌≤◌, ◌%◌, min, max}
use mathlib.Core.Path.{◌≡◌, refl, sym, ap, ◌∙◌, subst}
use mathlib.Core.Bool.{Bool, true, false}
use mathlib.Core.List.{List, map}
use native.Mathlib.Nat.{max-zero, add-zero}
use native.Mathlib.Omega.{arith}
use lib.ListN.{length, get_or, take, set, length-set, length-map}
use lib.Seq.{take_all, get_or-set_same, get_or-set_other}
use lib.Dec.{eqb, ltb}
use borrow.Author.Tests.{eq-eqb, ne_eqb, ltb-true, ltb-false, eqb-true, eqb-false}
use Rattle.model.specs.Table.{Row, no_row}
use Rattle.model.specs.Count.{sum, product, largest, weight, row_longest, state_counts, state_longest}
use Rattle.model.specs.Value.{earlier_rows}
use Rattle.model.proofs.Counting.{get_d_map, sum_take_suc, largest_take_suc}
use Rattle.rows.specs.Words.{after_in, args_in, rows_in, row_no, afters}
use Rattle.rows.proofs.Words.{rows_long, row_held_lem}
use Rattle.counts.specs.Chain.{target, leads, TargetLink, Chained, Comes}
use Rattle.counts.specs.Marks.{top, ceiling, long_ceiling}
use Rattle.counts.specs.Kept.{Is}
use Rattle.counts.specs.States.{held, held_whole, held_long, MarksTell, weight_by, Summed, Countable}
use Rattle.counts.proofs.KeptCounts.{kept_low, kept_plus}
use Rattle.counts.proofs.Marks.{weight_is, longer_told}
use Rattle.counts.proofs.Chain.{leads_row, leads_end}

-- entries that add nothing may be passed over
skip : (F : List ℕ → ℕ) (op : ℕ → ℕ → ℕ) → ((xs : List ℕ) (i : ℕ) → F (take (suc i) xs) ≡ op (F (take i xs)) (get_or xs i 0)) → ((y : ℕ) → op y 0 ≡ y)
    → (xs : List ℕ) (i j : ℕ) → i ≤ j → ((k : ℕ) → i ≤ k → k < j → get_or xs k 0 ≡ 0) → F (take j xs) ≡ F (take i xs)
skip F op more none xs i zero le z = let e : i ≡ 0 = omega arith in rw e
skip F op more none xs i (suc j) le z = go (ltb j i) refl (skip F op more none xs i j)
  where
    go : (b : Bool) → ltb j i ≡ b → (i ≤ j → ((k : ℕ) → i ≤ k → k < j → get_or xs k 0 ≡ 0) → F (take j xs) ≡ F (take i xs)) → F (take (suc j) xs) ≡ F (take i xs)
    go true e ih = let h : i ≡ suc j = omega (arith, ltb-true j i e) in rw h
    go false e ih =
        let ge : i ≤ j = ltb-false j i e in
        more xs j ∙ ap (λ (v : ℕ). op (F (take j xs)) v) (z j ge (omega arith)) ∙ none (F (take j xs)) ∙ ih ge (λ k a b. z k a (omega arith))

-- what row k adds
at_row : (rows : List Row) (f : Row → ℕ) (k : ℕ) → k < length rows → get_or (map f rows) k 0 ≡ f (row_no rows k)
at_row rows f k lt = get_d_map f rows k no_row 0 lt

-- ---- the rows of a state before one

module _ (rows : List Row) (c : ℕ → ℕ) (q : ℕ) where
  abbrev weights : List ℕ
  weights = map (weight c q) rows

  weight_mine : (k : ℕ) → k < length rows → target rows k ≡ q → get_or weights k 0 ≡ product (map c (row_no rows k).args)
  unfolding weight
  weight_mine k lt e = at_row rows (weight c q) k lt ∙ rw (eq-eqb _ _ e)

  weight_other : (k : ℕ) → k < length rows → (target rows k ≡ q → ⊥) → get_or weights k 0 ≡ 0
  unfolding weight
  weight_other k lt ne = at_row rows (weight c q) k lt ∙ rw (ne_eqb _ _ ne)

  pub earlier_skip : (i j : ℕ) → i ≤ j → j ≤ length rows → ((k : ℕ) → i ≤ k → k < j → target rows k ≡ q → ⊥)
      → earlier_rows rows c q j ≡ earlier_rows rows c q i
  unfolding earlier_rows
  earlier_skip i j le within none =
      skip sum (λ (a b : ℕ). a + b) sum_take_suc add-zero (map (weight c q) rows) i j le (λ k a b. weight_other k (omega arith) (none k a b))

  pub earlier_more : (k : ℕ) → k < length rows → target rows k ≡ q
      → earlier_rows rows c q (suc k) ≡ earlier_rows rows c q k + product (map c (row_no rows k).args)
  unfolding earlier_rows
  earlier_more k lt e = sum_take_suc (map (weight c q) rows) k ∙ ap (λ (v : ℕ). sum (take k (map (weight c q) rows)) + v) (weight_mine k lt e)

  pub all_earlier : earlier_rows rows c q (length rows) ≡ state_counts rows c q
  unfolding earlier_rows state_counts
  all_earlier = ap sum (take_all (length rows) (map (weight c q) rows) (rw (length-map rows (weight c q)) (omega arith)))

-- ---- and their longest trees

module _ (rows : List Row) (c l : ℕ → ℕ) (q : ℕ) where
  abbrev pub lengths : List ℕ
  lengths = map (row_longest c l q) rows

  length_mine : (k : ℕ) → k < length rows → target rows k ≡ q
      → get_or lengths k 0 ≡ (if ltb 0 (product (map c (row_no rows k).args)) then 2 + sum (map l (row_no rows k).args) else 0)
  unfolding row_longest
  length_mine k lt e = at_row rows (row_longest c l q) k lt ∙ rw (eq-eqb _ _ e)

  length_other : (k : ℕ) → k < length rows → (target rows k ≡ q → ⊥) → get_or lengths k 0 ≡ 0
  unfolding row_longest
  length_other k lt ne = at_row rows (row_longest c l q) k lt ∙ rw (ne_eqb _ _ ne)

  largest_skip : (i j : ℕ) → i ≤ j → j ≤ length rows → ((k : ℕ) → i ≤ k → k < j → target rows k ≡ q → ⊥)
      → largest (take j lengths) ≡ largest (take i lengths)
  largest_skip i j le within none = skip largest max largest_take_suc max-zero lengths i j le (λ k a b. length_other k (omega arith) (none k a b))

  all_lengths : largest (take (length rows) lengths) ≡ state_longest rows c l q
  unfolding state_longest
  all_lengths = ap largest (take_all (length rows) (map (row_longest c l q) rows) (rw (length-map rows (row_longest c l q)) (omega arith)))

  -- the rows of state q before the one that p leads to are counted: what they count together is kept, each sum to 64 bits
  pub record Summing (sums₀ sums : List ℕ) (count : Option ℕ) (long p : ℕ) : Type 0 where
    pub inside : 0 < p → p - 1 < length rows
    pub mine : 0 < p → target rows (p - 1) ≡ q
    pub counted : Is count (earlier_rows rows c q (leads p (length rows)))
    pub measured : long ≡ largest (take (leads p (length rows)) lengths)
    pub sums_long : length sums ≡ length sums₀
    pub own : (k : ℕ) → k < leads p (length rows) → target rows k ≡ q → get_or sums k 0 ≡ min (earlier_rows rows c q k) top
    pub others : (k : ℕ) → (target rows k ≡ q → ⊥) → get_or sums k 0 ≡ get_or sums₀ k 0

  inside_of : (m p : ℕ) → TargetLink rows q m (length rows) p → 0 < p → p - 1 < length rows
  inside_of m p t h = rw (leads_row p (length rows) h) at (t.inside h)

  mine_of : (m p : ℕ) → TargetLink rows q m (length rows) p → 0 < p → target rows (p - 1) ≡ q
  mine_of m p t h = rw (leads_row p (length rows) h) at (t.mine h)

  sum_begins : (sums : List ℕ) (p : ℕ) → TargetLink rows q 0 (length rows) p → Summing sums sums (Some 0) 0 p
  unfolding earlier_rows sum largest
  sum_begins sums p t = record {
    inside = inside_of 0 p t;
    mine = mine_of 0 p t;
    counted = let e : earlier_rows rows c q (leads p (length rows)) ≡ 0 = earlier_skip rows c q 0 (leads p (length rows)) (omega arith) t.within t.gap in (omega (arith, e), sym e);
    measured = sym (largest_skip 0 (leads p (length rows)) (omega arith) t.within t.gap);
    sums_long = refl;
    own = λ k lt h. absurd (t.gap k (omega arith) lt h);
    others = λ k ne. refl;
  }

  module _ {sums₀ sums : List ℕ} {count : Option ℕ} {long p : ℕ} (s : Summing sums₀ sums count long p) {r : ℕ} (here : (0 < p) × (r ≡ p - 1)) (w k : Option ℕ) (long' p' : ℕ)
      (row : Is w (product (map c (row_no rows r).args))) (more : Is k (unwrap_or count ceiling + unwrap_or w ceiling))
      (longest : long' ≡ max long (if ltb 0 (product (map c (row_no rows r).args)) then 2 + sum (map l (row_no rows r).args) else 0))
      (t : TargetLink rows q (suc r) (length rows) p') (places : length rows ≤ length sums₀) where
    led : leads p (length rows) ≡ r
    led = leads_row p (length rows) here.0 ∙ sym here.1

    row_in : r < length rows
    row_in = rw here.1 (s.inside here.0)

    mine_in : target rows r ≡ q
    mine_in = rw here.1 (s.mine here.0)

    counted_before : Is count (earlier_rows rows c q r)
    counted_before = subst (λ (n : ℕ). Is count (earlier_rows rows c q n)) led s.counted

    counted_more : Is k (earlier_rows rows c q (leads p' (length rows)))
    counted_more =
        subst (λ (n : ℕ). Is k n)
        (sym (earlier_skip rows c q (suc r) (leads p' (length rows)) t.from t.within t.gap ∙ earlier_more rows c q r row_in mine_in))
        (kept_plus count w k _ _ counted_before row more)

    measured_more : long' ≡ largest (take (leads p' (length rows)) lengths)
    measured_more =
        let a = largest_skip (suc r) (leads p' (length rows)) t.from t.within t.gap in
        let b = length_mine r row_in mine_in in
        let d : long ≡ largest (take r lengths) = rw led at s.measured in
        longest
        ∙ ap (λ (v : ℕ). max long v) (sym b)
        ∙ ap (λ (v : ℕ). max v (get_or lengths r 0)) d
        ∙ sym (largest_take_suc lengths r)
        ∙ sym a

    own_more : (k : ℕ) → k < leads p' (length rows) → target rows k ≡ q → (b : Bool) → ltb k r ≡ b → (e : Bool) → eqb k r ≡ e
        → get_or (set sums r (unwrap_or count top)) k 0 ≡ min (earlier_rows rows c q k) top
    own_more k lt h true x e y =
        let below : k < r = ltb-true k r x in
        let ne : k ≡ r → ⊥ = λ z. omega arith in
        get_or-set_other sums r k (unwrap_or count top) 0 ne ∙ s.own k (rw led below) h
    own_more k lt h false x true y =
        let z : k ≡ r = eqb-true k r y in
        let room : r < length sums = omega (arith, s.sums_long, row_in) in
        rw z (get_or-set_same sums r (unwrap_or count top) 0 room ∙ kept_low count _ counted_before)
    own_more k lt h false x false y = absurd (t.gap k (omega (arith, ltb-false k r x, eqb-false k r y)) lt h)

    sum_goes : Summing sums₀ (set sums r (unwrap_or count top)) k long' p'
    sum_goes = record {
      inside = inside_of (suc r) p' t;
      mine = mine_of (suc r) p' t;
      counted = counted_more;
      measured = measured_more;
      sums_long = length-set sums r (unwrap_or count top) ∙ s.sums_long;
      own = λ k lt h. own_more k lt h (ltb k r) refl (eqb k r) refl;
      others = λ k ne. get_or-set_other sums r k (unwrap_or count top) 0 (λ z. ne (ap (λ (v : ℕ). target rows v) z ∙ mine_in)) ∙ s.others k ne;
    }

-- ---- the row that the link leads to, by its word

abbrev pub StateSumming : (rows : List Row) (counts marks : List ℕ) (q : ℕ) (sums₀ sums : List ℕ) (count : Option ℕ) (long p : ℕ) → Type 0
StateSumming rows counts marks q sums₀ sums count long p = Summing rows (held_whole counts marks) (held_long marks) q sums₀ sums count long p

module _ (pool : List ℕ) {words first counts marks sums₀ sums : List ℕ} {q long p r word p' : ℕ} {count : Option ℕ}
    (chained : Chained (rows_in pool words) first (afters words)) (c : Countable (rows_in pool words) first counts marks sums₀ q)
    (s : StateSumming (rows_in pool words) counts marks q sums₀ sums count long p) (g : Comes words p r word p') where
  abbrev rows : List Row
  rows = rows_in pool words

  inside_rows : r < length rows
  inside_rows = rw (rows_long pool words) g.inside

  mine_here : target rows r ≡ q
  mine_here = rw g.here.1 (s.mine g.here.0)

  args_here : (row_no rows r).args ≡ args_in pool word
  args_here = ap (λ (r : Row). r.args) (row_held_lem pool words r g.inside) ∙ ap (args_in pool) (sym g.held)

  pub marked_here : (args : List ℕ) → args ≡ args_in pool word → MarksTell counts marks args
  marked_here args e = rw (e ∙ sym args_here) (c.marked r inside_rows mine_here)

  link_here : TargetLink rows q (suc r) (length rows) p'
  link_here = rw (g.next, g.held) (rw (mine_here, get_d_map after_in words r 0 0 g.inside) at (chained.afters r (omega arith) inside_rows))

  module _ (args : List ℕ) (e : args ≡ args_in pool word) (m long' : ℕ) (w k : Option ℕ) (marksum : m ≡ 2 + sum (map (held marks) args)) where
    pub state_goes : Is w (weight_by m (product (map (held counts) args))) → Is k (unwrap_or count ceiling + unwrap_or w ceiling)
        → long' ≡ max long (if ltb m 1099511627776 then m % 1048576 else 0)
        → StateSumming rows counts marks q sums₀ (set sums r (unwrap_or count top)) k long' p'
    state_goes row more longest =
        let a : args ≡ (row_no rows r).args = e ∙ sym args_here in
        let t = marked_here args e in
        sum_goes rows (held_whole counts marks) (held_long marks) q s g.here w k long' p' (rw a at (weight_is t marksum w row)) more
        (rw a at (longest ∙ ap (λ (v : ℕ). max long v) (longer_told t marksum))) link_here c.sums_room

pub state_begins : (pool words : List ℕ) {first counts marks sums : List ℕ} {q : ℕ} → Chained (rows_in pool words) first (afters words)
    → Countable (rows_in pool words) first counts marks sums q → (p : ℕ) → p ≡ get_or first q 0 → StateSumming (rows_in pool words) counts marks q sums sums (Some 0) 0 p
state_begins pool words {first} {counts} {marks} {sums} {q} chained c p e =
    sum_begins (rows_in pool words) (held_whole counts marks) (held_long marks) q sums p (rw e (chained.firsts q c.state))

pub state_ends : (rows : List Row) (counts marks : List ℕ) (q : ℕ) {sums₀ sums : List ℕ} {count : Option ℕ} {long p : ℕ} (long' : ℕ)
    → StateSumming rows counts marks q sums₀ sums count long p → p ≡ 0 → long' ≡ min long long_ceiling
    → Summed rows counts marks q sums₀ sums (record { count = count; longest = long' })
state_ends rows counts marks q {sums₀} {sums} {count} {long} {p} long' s z cut =
    let c : ℕ → ℕ = held_whole counts marks in
    let e : leads p (length rows) ≡ length rows = ap (λ (v : ℕ). leads v (length rows)) z ∙ leads_end (length rows) in
    record {
      count = subst (λ (n : ℕ). Is count n) (ap (λ (v : ℕ). earlier_rows rows c q v) e ∙ all_earlier rows c q) s.counted;
      longest = cut ∙ ap (λ (v : ℕ). min v long_ceiling) (s.measured ∙ ap (λ (v : ℕ). largest (take v (lengths rows c (held_long marks) q))) e ∙ all_lengths rows c (held_long marks) q);
      long = s.sums_long;
      mine = λ k lt h. s.own k (rw e lt) h;
      others = s.others;
    }
