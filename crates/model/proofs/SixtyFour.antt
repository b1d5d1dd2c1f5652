-- Request (h): what passes has 64 bits, and the check answers another thing only where it refused by 9 or 11 what is within the larger limit.
use Rattle.std.specs.Prelude.{if◌then◌else◌}
use Prim.Native.Nat.{ℕ, ◌≤◌, ◌<◌}
use mathlib.Core.Path.{◌≡◌, refl, sym, ap, ◌∙◌}
use mathlib.Core.Bool.{Bool, true, false}
use mathlib.Core.Logic.{◌⊎◌, inl, inr}
use mathlib.Core.List.{List}
use native.Mathlib.Omega.{arith}
use native.Mathlib.Decide.{dec_le}
use native.Mathlib.Nat.{lt_of_not-le}
use lib.Dec.{ltb}
use borrow.Author.Tests.{lt-ltb, le-ltb}
use Rattle.model.specs.Answers.{Outcome, result, refused}
use Rattle.model.specs.Table.{Table, table_of}
use Rattle.model.specs.Count.{count, total, longest}
use Rattle.model.specs.Used.{Used, is_used}
use Rattle.model.specs.Check.{limit_ground, state_ground, lists_then, check_within, count_limit, check_outcome}
use Rattle.model.specs.Conserved.{Conserves}
use Rattle.model.specs.HalfDrawn.{check_all}
use Rattle.model.specs.SixtyFour.{SixtyFour, limit32, WiderLimit, PassedBefore, TotalDecides, RefusedBetween, nine, eleven, OnlyBetween}
use Rattle.model.proofs.Choice.{if_yes, if_no, no_fault, first_fault, First, nowhere, first, first_of}
use Rattle.model.proofs.Good.{Good}
use Rattle.model.proofs.Checked.{NoGround, passes_exactly, passes_just, ground_used, ground_unused, state_good, sound_good, checked_good}
use Rattle.model.proofs.Passing.{state_ground_lem}
use Rattle.model.proofs.Used.{used_exactly, used_few}
use Rattle.model.proofs.Conserved.{Lists, decide, pass, lists, same_answers}
use Rattle.model.proofs.Demand3.{passing_good, beyond_answer, demand3}
use Rattle.model.proofs.HalfDrawn.{conservative}

-- ---- one state

-- the ground of a used state, by what it counts
pub ground_9 : (limit : ℕ) (T : Table) (q : ℕ) → is_used T q ≡ true → limit < count T q → state_ground limit T q ≡ 9
unfolding limit_ground
ground_9 limit T q u l = ground_used limit T q u ∙ rw (lt-ltb limit (count T q) l)

pub ground_10 : (limit : ℕ) (T : Table) (q : ℕ) → is_used T q ≡ true → count T q ≤ limit → 4096 < longest T q → state_ground limit T q ≡ 10
unfolding limit_ground
ground_10 limit T q u l m = ground_used limit T q u ∙ rw (le-ltb limit (count T q) l, lt-ltb 4096 (longest T q) m)

-- a state that is within a limit is within a larger one
ground_wider : (old new : ℕ) → old ≤ new → (T : Table) (q : ℕ) → state_ground old T q ≡ 0 → state_ground new T q ≡ 0
ground_wider old new le T q e = state_ground_lem new T q (λ u. let g = state_good old T q u e in (omega (arith, g.0), g.1))

-- ---- tables that pass

pub total_decides : TotalDecides
total_decides old new le states rows accepting n = (there, back)
  where
    T : Table
    T = table_of states rows accepting

    there : check_within old states rows accepting ≡ result n → (check_within new states rows accepting ≡ result n) × (n ≤ old)
    there e =
        let p = (passes_exactly old states rows accepting n).0 e in
        let g = p.0 in
        let wide : NoGround new states rows accepting = record {
          few_states = g.few_states;
          good_rows = g.good_rows;
          good_entries = g.good_entries;
          good_states = λ q l. ground_wider old new le T q (g.good_states q l);
          small_total = omega (arith, g.small_total);
        } in
        ((passes_exactly new states rows accepting n).1 (wide, p.1), omega (arith, g.small_total, p.1))

    back : (check_within new states rows accepting ≡ result n) × (n ≤ old) → check_within old states rows accepting ≡ result n
    back e =
        let p = (passes_exactly new states rows accepting n).0 e.0 in
        let g = p.0 in
        let good : Good T = checked_good new states rows accepting g in
        let narrow : NoGround old states rows accepting = record {
          few_states = g.few_states;
          good_rows = g.good_rows;
          good_entries = g.good_entries;
          good_states = λ q l. state_ground_lem old T q (λ u. (omega (arith, used_few T good q u, e.1, p.1), (state_good new T q u (g.good_states q l)).1));
          small_total = omega (arith, e.1, p.1);
        } in
        (passes_exactly old states rows accepting n).1 (narrow, p.1)

pub wider_limit : WiderLimit
wider_limit old new le states rows accepting n e =
    same_answers (check_within old) (check_within new) states rows accepting (((total_decides old new le states rows accepting n).0 e).0 ∙ sym e)

pub passed_before : PassedBefore
unfolding check_outcome
passed_before = (within, all)
  where
    within : Conserves (check_within limit32) check_outcome
    within = wider_limit limit32 count_limit (omega arith)

    all : Conserves (check_all limit32) check_outcome
    all states rows accepting n e =
        let a = (conservative limit32 states rows accepting n e).checking in
        same_answers (check_all limit32) check_outcome states rows accepting ((within states rows accepting n (a ∙ e)).checking ∙ a)

-- ---- every table

module _ (old new : ℕ) (le : old ≤ new) (states : ℕ) (rows accepting : List ℕ) where
  abbrev T : Table
  T = table_of states rows accepting

  abbrev Either : Type 0
  Either = (check_within new states rows accepting ≡ check_within old states rows accepting) ⊎ RefusedBetween old new states rows accepting

  -- the total, or 11
  abbrev total_or : ℕ → Outcome
  total_or limit = if ltb limit (total T) then refused 11 0 else result (total T)

  -- nothing is found in the lists
  module _ (h : (o : Outcome) → lists_then states rows accepting o ≡ o) where
    -- nor in the states
    module _ (fine : (q : ℕ) → q < states → state_ground old T q ≡ 0) where
      last : (limit : ℕ) → old ≤ limit → check_within limit states rows accepting ≡ total_or limit
      unfolding check_within
      last limit m = h _ ∙ no_fault states (state_ground limit T) _ (λ q l. ground_wider old limit m T q (fine q l))

      passes : (limit : ℕ) → old ≤ limit → total T ≤ limit → check_within limit states rows accepting ≡ result (total T)
      passes limit m l = last limit m ∙ if_no (ltb limit (total T)) (refused 11 0) _ (le-ltb limit (total T) l)

      refuses_11 : (limit : ℕ) → old ≤ limit → limit < total T → check_within limit states rows accepting ≡ refused 11 0
      refuses_11 limit m l = last limit m ∙ if_yes (ltb limit (total T)) (refused 11 0) _ (lt-ltb limit (total T) l)

      by_total : Dec (total T ≤ old) → Dec (total T ≤ new) → Either
      by_total (yes l) m = inl (passes new le (omega arith) ∙ sym (passes old (omega arith) l))
      by_total (no l) (yes m) = inr (eleven (refuses_11 old (omega arith) (lt_of_not-le l)) (passes new le m) (lt_of_not-le l))
      by_total (no l) (no m) = inl (refuses_11 new le (lt_of_not-le m) ∙ sym (refuses_11 old (omega arith) (lt_of_not-le l)))

    -- a state is the first beyond the smaller limit
    module _ (q : ℕ) (l : q < states) (before : (j : ℕ) → j < q → state_ground old T j ≡ 0) where
      refuses : (limit k : ℕ) → old ≤ limit → 0 < k → state_ground limit T q ≡ k → check_within limit states rows accepting ≡ refused k q
      unfolding check_within
      refuses limit k m p e =
          h _ ∙ first_fault states q (state_ground limit T) _ l (λ j b. ground_wider old limit m T j (before j b)) (omega (arith, e)) ∙ ap (λ (i : ℕ). refused i q) e

      by_count : Used T q → is_used T q ≡ true → 0 < state_ground old T q → Dec (count T q ≤ old) → Dec (count T q ≤ new) → Dec (longest T q ≤ 4096) → Either
      by_count u i p (yes a) b (yes c) = absurd (omega (arith, p, state_ground_lem old T q (λ v. (a, c))))
      by_count u i p (yes a) b (no c) =
          inl (refuses new 10 le (omega arith) (ground_10 new T q i (omega arith) (lt_of_not-le c))
          ∙ sym (refuses old 10 (omega arith) (omega arith) (ground_10 old T q i a (lt_of_not-le c))))
      by_count u i p (no a) (yes b) c = inr (nine q (refuses old 9 (omega arith) (omega arith) (ground_9 old T q i (lt_of_not-le a))) u (lt_of_not-le a) b)
      by_count u i p (no a) (no b) c =
          inl (refuses new 9 le (omega arith) (ground_9 new T q i (lt_of_not-le b))
          ∙ sym (refuses old 9 (omega arith) (omega arith) (ground_9 old T q i (lt_of_not-le a))))

      by_used : Good T → 0 < state_ground old T q → (b : Bool) → is_used T q ≡ b → Either
      by_used good p true u = by_count ((used_exactly T good q).0 u) u p (dec_le (count T q) old) (dec_le (count T q) new) (dec_le (longest T q) 4096)
      by_used good p false u = absurd (omega (arith, p, ground_unused old T q u))

    by_state : Good T → First states (state_ground old T) → Either
    by_state good (nowhere c) = by_total c (dec_le (total T) old) (dec_le (total T) new)
    by_state good (first q l b g) = by_used q l b good g (is_used T q) refl

  by_lists : Lists states rows accepting → Either
  unfolding check_within
  by_lists (decide h) = inl (h _ _)
  by_lists (pass c d h) = by_state h (sound_good states rows accepting c d) (first_of states (state_ground old T))

pub only_between : OnlyBetween
only_between old new le states rows accepting = by_lists old new le states rows accepting (lists states rows accepting)

-- ---- what has 64 bits

pub sixty_four : SixtyFour
sixty_four states rows accepting n p =
    let T = table_of states rows accepting in
    let g = (passes_just states rows accepting n).0 p in
    let l : n ≤ count_limit = omega (arith, g.0.small_total, g.1) in
    let good : Good T = passing_good states rows accepting n p in
    let d = demand3 states rows accepting n p in
    record {
      total_fits = l;
      counts_fit = λ q u. omega (arith, used_few T good q ((used_exactly T good q).1 u), g.1);
      numbers_fit = λ tree number e.
          let h = (d.answers.numbers tree number).0 e in
          omega (arith, d.pairing.below h.accepts.tree h.accepts.accepted, h.numbers);
      beyond = λ number room m. beyond_answer states rows accepting n p number room (omega arith);
    }
