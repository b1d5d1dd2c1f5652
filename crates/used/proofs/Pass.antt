-- The pass from the highest state down: the marks satisfy, at every turn, what the rows with targets from here on say; where every state below
-- that has trees is marked they are final. Assumes nothing.
use Prim.Native.Nat.{ℕ, suc, ◌-◌, ◌<◌, ◌≤◌}
use mathlib.Core.Path.{◌≡◌, refl, sym, ap, ◌∙◌}
use mathlib.Core.Bool.{Bool, true, false, ◌&&◌, ◌||◌}
use mathlib.Core.List.{List}
use mathlib.Core.Logic.{◌⊎◌, inl, inr}
use native.Mathlib.Decide.{dec_le}
use native.Mathlib.Omega.{arith}
use lib.ListN.{length, get_or, take, get_or-eq_default}
use lib.Seq.{length-take-le, get_or-take}
use lib.Dec.{eqb, ltb, leb}
use borrow.Author.Tests.{eqb-true, ltb-true}
use Rattle.model.specs.Choice.{any_below}
use Rattle.model.specs.Table.{Table, Row, no_row}
use Rattle.model.specs.Count.{row_counts, count}
use Rattle.model.specs.Reach.{is_among}
use Rattle.model.specs.Used.{used_by, state_used, is_used}
use Rattle.model.proofs.Choice.{is_false, and_true, or_true, or_left, or_right, any_none, any_true, any_some}
use Rattle.model.proofs.Counting.{count_beyond}
use Rattle.model.proofs.Used.{among_place, used_marks, marks_unique}
use Rattle.model.proofs.UsedPass.{used_since, since_listed, since_own, since_next, since_local}
use Rattle.model.proofs.UsedKept.{used_alike}
use Rattle.rows.specs.Words.{rows_in, row_no, held_table}
use Rattle.counts.specs.Chain.{target, InOrder}
use Rattle.counts.specs.States.{held}
use Rattle.used.specs.Marked.{is_set, MarkedToo, row_names, listed_by, named_row, named_for, AllMarked, TurnReady, Turned, PassReady, FoundUsed}
use Rattle.used.proofs.Marks.{same_test, or_none}
use Rattle.used.proofs.Turn.{factor_some}

-- ---- any table

-- what is no state is neither listed nor an argument
used_none : (T : Table) → ((i : ℕ) → i < length T.accepting → get_or T.accepting i 0 < T.states) → InOrder T.states T.rows
    → (c : ℕ → ℕ) (u : ℕ → Bool) (q : ℕ) → T.states ≤ q → state_used T c u q ≡ false
unfolding state_used
used_none T listed order c u q l =
    is_false _ (λ e. by (or_true (ltb 0 (c q) && is_among q T.accepting) (any_below (length T.rows) (λ i. used_by c u q (get_or T.rows i no_row))) e))
  where
    by : ((ltb 0 (c q) && is_among q T.accepting) ≡ true) ⊎ (any_below (length T.rows) (λ i. used_by c u q (get_or T.rows i no_row)) ≡ true) → ⊥
    by (inl e) =
        let p = among_place q T.accepting (and_true (ltb 0 (c q)) (is_among q T.accepting) e).1 in
        omega (arith, listed p.0 p.1, p.2)
    by (inr e) =
        let r = any_some (length T.rows) (λ i. used_by c u q (get_or T.rows i no_row)) e in
        let p = among_place q (get_or T.rows r.0 no_row).args (and_true (is_among q (get_or T.rows r.0 no_row).args) _ r.2).0 in
        omega (arith, order.lower r.0 r.1 p.0 p.1, order.known r.0 r.1, p.2)

-- what the higher targets say is said by all
since_some : (T : Table) (c : ℕ → ℕ) (u : ℕ → Bool) (m q : ℕ) → used_since T c u m q ≡ true → state_used T c u q ≡ true
unfolding used_since state_used
since_some T c u m q e =
    go (or_true (ltb 0 (c q) && is_among q T.accepting) (any_below (length T.rows) (λ i. leb m (get_or T.rows i no_row).target && used_by c u q (get_or T.rows i no_row))) e)
  where
    go : ((ltb 0 (c q) && is_among q T.accepting) ≡ true) ⊎ (any_below (length T.rows) (λ i. leb m (get_or T.rows i no_row).target && used_by c u q (get_or T.rows i no_row)) ≡ true)
        → ((ltb 0 (c q) && is_among q T.accepting) || any_below (length T.rows) (λ i. used_by c u q (get_or T.rows i no_row))) ≡ true
    go (inl y) = or_left _ _ y
    go (inr y) =
        let f = any_some (length T.rows) (λ i. leb m (get_or T.rows i no_row).target && used_by c u q (get_or T.rows i no_row)) y in
        or_right (ltb 0 (c q) && is_among q T.accepting) _
        (any_true (length T.rows) f.0 (λ i. used_by c u q (get_or T.rows i no_row)) f.1 (and_true (leb m (get_or T.rows f.0 no_row).target) (used_by c u q (get_or T.rows f.0 no_row)) f.2).1)

-- a used state has trees
used_some : (T : Table) (c : ℕ → ℕ) (u : ℕ → Bool) (q : ℕ) → state_used T c u q ≡ true → 0 < c q
unfolding state_used
used_some T c u q e = go (or_true (ltb 0 (c q) && is_among q T.accepting) (any_below (length T.rows) (λ i. used_by c u q (get_or T.rows i no_row))) e)
  where
    go : ((ltb 0 (c q) && is_among q T.accepting) ≡ true) ⊎ (any_below (length T.rows) (λ i. used_by c u q (get_or T.rows i no_row)) ≡ true) → 0 < c q
    go (inl y) = ltb-true 0 (c q) (and_true (ltb 0 (c q)) (is_among q T.accepting) y).0
    go (inr y) =
        let f = any_some (length T.rows) (λ i. used_by c u q (get_or T.rows i no_row)) y in
        let x = and_true (is_among q (get_or T.rows f.0 no_row).args) _ f.2 in
        let p = among_place q (get_or T.rows f.0 no_row).args x.0 in
        let n = ltb-true 0 (row_counts c (get_or T.rows f.0 no_row)) (and_true (ltb 0 (row_counts c (get_or T.rows f.0 no_row))) _ x.1).0 in
        rw (← p.2) (factor_some c (get_or T.rows f.0 no_row).args p.0 p.1 n)

-- no row names a state that is not below its target
named_low : (states : ℕ) (rows : List Row) → InOrder states rows → (cs : List ℕ) (k a : ℕ) → k ≤ a → named_for rows cs k a ≡ false
named_low states rows order cs k a le = any_none (length rows) (named_row rows cs k a) (λ i l. is_false (named_row rows cs k a i) (λ e. here i l e))
  where
    here : (i : ℕ) → i < length rows → named_row rows cs k a i ≡ true → ⊥
    here i l e =
        let x = and_true (eqb (target rows i) k) (row_names cs (row_no rows i).args a) e in
        let y = and_true (is_among a (row_no rows i).args) _ x.1 in
        let p = among_place a (row_no rows i).args y.0 in
        omega (arith, order.lower i l p.0 p.1, p.2, eqb-true (target rows i) k x.0)

-- ---- the pass

-- what the loop holds when the states from m on have had their turns
pub record Passing (states : ℕ) (pool accepting words cs : List ℕ) (begun used : List ℕ) (m n : ℕ) : Type 0 where
  pub low : m ≤ states
  pub long : length used ≡ length begun
  pub each : (a : ℕ) → is_set used a ≡ used_since (held_table states pool words accepting) (held cs) (is_set used) m a
  pub passed : AllMarked cs used n
  pub below : n ≤ m

-- the counts of the states alone will do: what is no state counts 0
pub of_states : {states : ℕ} {pool accepting words first cs : List ℕ} {used : List ℕ} → PassReady states pool accepting words first cs used
    → PassReady states pool accepting words first (take states cs) used
of_states {states} {pool} {accepting} {words} {cs = cs} g = record {
  ordered = g.ordered;
  listed = g.listed;
  first_room = g.first_room;
  cs_room = omega (arith, whole);
  used_room = g.used_room;
  blank = g.blank;
  alike = λ a. go a (dec_le states a);
}
  where
    T : Table
    T = held_table states pool words accepting

    whole : length (take states cs) ≡ states
    whole = length-take-le states cs g.cs_room

    go : (a : ℕ) → Dec (states ≤ a) → ltb 0 (held (take states cs) a) ≡ ltb 0 (count T a)
    go a (yes l) = ap (ltb 0) (get_or-eq_default (take states cs) 0 (omega (arith, whole)) ∙ sym (count_beyond T a l))
    go a (no h) = ap (ltb 0) (get_or-take states cs a 0 (omega arith)) ∙ g.alike a

module _ {states : ℕ} {pool accepting words first cs : List ℕ} {used₀ : List ℕ} (g : PassReady states pool accepting words first cs used₀) where
  abbrev T : Table
  T = held_table states pool words accepting

  abbrev rows : List Row
  rows = rows_in pool words

  pub passing_begins : (used : List ℕ) (n : ℕ) → MarkedToo (listed_by accepting cs) used₀ used → AllMarked cs used n × (n ≤ states) → Passing states pool accepting words cs used used states n
  passing_begins used n m s = record {
    low = omega arith;
    long = refl;
    each = λ a.
        m.each a
        ∙ ap (λ (b : Bool). b || listed_by accepting cs a) (g.blank a)
        ∙ sym (since_listed T (held cs) (is_set used) g.ordered.known a);
    passed = s.0;
    below = s.1;
  }

  module _ {begun used : List ℕ} {m n : ℕ} (b : MarkedToo (listed_by accepting cs) used₀ begun) (x : Passing states pool accepting words cs begun used m n) where
    pub turn_ready : n < m → TurnReady rows first cs used n (m - 1)
    turn_ready l = record {
      lower = λ r i e. record { placed = λ k j. omega (arith, g.ordered.lower r i k j, e) };
      state = omega (arith, x.low, g.first_room);
      passed = record { passed = x.passed; low = omega arith; counted = omega (arith, x.low, g.cs_room); room = omega (arith, x.low, x.long, b.long, g.used_room) };
    }

    since_before : n < m → (u : ℕ → Bool) (a : ℕ) → used_since T (held cs) u m a ≡ used_since T (held cs) u (suc (m - 1)) a
    since_before l u a = let e : m ≡ suc (m - 1) = omega arith in ap (λ (k : ℕ). used_since T (held cs) u k a) e

    -- a used state's turn
    pub passing_goes : n < m → (used' : List ℕ) (n' : ℕ) → is_set used (m - 1) ≡ true → Turned rows cs (m - 1) used used' n' → Passing states pool accepting words cs begun used' (m - 1) n'
    passing_goes l used' n' y t = record {
      low = omega (arith, x.low);
      long = t.marked.long ∙ x.long;
      each = λ a.
          t.marked.each a
          ∙ ap (λ (b : Bool). b || named_for rows cs k a) (x.each a ∙ since_before l (is_set used) a ∙ since_local T (held cs) (is_set used) (is_set used') (suc k) a (λ q i. sym (stays q (omega arith))))
          ∙ ap (λ (b : Bool). used_since T (held cs) (is_set used') (suc k) a || (b && named_for rows cs k a)) (sym (stays k (omega arith) ∙ y))
          ∙ sym (since_next T (held cs) (is_set used') k a);
      passed = t.passed;
      below = t.low;
    }
      where
        k : ℕ
        k = m - 1

        stays : (q : ℕ) → m - 1 ≤ q → is_set used' q ≡ is_set used q
        stays q i = t.marked.each q ∙ ap (λ (b : Bool). is_set used q || b) (named_low states rows g.ordered cs (m - 1) q i) ∙ sym (or_none (is_set used q))

    -- an unused one's
    pub passing_skips : n < m → is_set used (m - 1) ≡ false → Passing states pool accepting words cs begun used (m - 1) n
    passing_skips l z = record {
      low = omega (arith, x.low);
      long = x.long;
      each = λ a.
          x.each a
          ∙ since_before l (is_set used) a
          ∙ or_none (used_since T (held cs) (is_set used) (suc (m - 1)) a)
          ∙ ap (λ (b : Bool). used_since T (held cs) (is_set used) (suc (m - 1)) a || (b && named_for rows cs (m - 1) a)) (sym z)
          ∙ sym (since_next T (held cs) (is_set used) (m - 1) a);
      passed = x.passed;
      below = omega arith;
    }

    -- the marks satisfy the equation
    final : m ≤ n → (a : ℕ) → is_set used a ≡ state_used T (held cs) (is_set used) a
    final le a = same_test (is_set used a) (state_used T (held cs) (is_set used) a) to from
      where
        to : is_set used a ≡ true → state_used T (held cs) (is_set used) a ≡ true
        to e = since_some T (held cs) (is_set used) m a (sym (x.each a) ∙ e)

        from : state_used T (held cs) (is_set used) a ≡ true → is_set used a ≡ true
        from e = go (dec_le m a)
          where
            go : Dec (m ≤ a) → is_set used a ≡ true
            go (yes l) = x.each a ∙ since_own T (held cs) (is_set used) g.ordered.lower m a (omega arith) ∙ e
            go (no l) = let k : a < n = omega arith in x.passed.marked a k (used_some T (held cs) (is_set used) a e)

    pub passing_ends : m ≤ n → FoundUsed states pool accepting words used₀ used
    passing_ends le = record {
      long = x.long ∙ b.long;
      each = marks_unique T g.ordered.lower (count T) (is_set used) (is_used T)
          (record {
            state = λ q l. final le q ∙ used_alike T (held cs) (count T) (is_set used) g.alike q;
            other = λ q l. final le q ∙ used_none T g.listed.placed g.ordered (held cs) (is_set used) q l;
          })
          (used_marks T g.ordered.lower);
    }
