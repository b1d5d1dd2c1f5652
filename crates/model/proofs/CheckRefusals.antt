-- Each refusal of a table has its ground, its number and its place; where no ground holds, the answer is the total.
use Rattle.std.specs.Prelude.{if◌then◌else◌}
use Prim.Native.Nat.{ℕ, suc, ◌+◌, ◌-◌, ◌≤◌, ◌<◌}
use mathlib.Core.Path.{◌≡◌, refl, sym, subst, ◌∙◌}
use mathlib.Core.Bool.{Bool, true, false, not, ◌&&◌, ◌||◌}
use mathlib.Core.Logic.{◌⊎◌, inl, inr, ◌↔◌}
use mathlib.Core.List.{List, [], ◌∷◌}
use native.Mathlib.Omega.{arith}
use native.Mathlib.Decide.{dec_le}
use native.Mathlib.Nat.{not-suc-le-zero, eq-zero-or-pos, lt_of_not-le}
use lib.ListN.{length, get_or}
use lib.Dec.{eqb, ltb, leb}
use borrow.Author.Tests.{ltb-true, ltb-false, leb-true, eqb-true, not-true, lt-ltb, le-ltb, le-leb, eq-eqb}
use Rattle.model.specs.Answers.{Outcome, result, refused}
use Rattle.model.specs.Choice.{first_faulty, any_below}
use Rattle.model.specs.Table.{Row, Table, arg_count_at, row_start, row_numbered, how_many_rows, row_is, how_many_entries, state_at, table_of}
use Rattle.model.specs.Count.{count, total, longest}
use Rattle.model.specs.Tree.{Tree}
use Rattle.model.specs.Reach.{Reaches, Accepted}
use Rattle.model.specs.Used.{Used}
use Rattle.model.specs.Check.{all_below, is_state, cut, too_many, out_of_range, not_below, repeated, row_ground, accepting_ground, limit_ground, state_ground, counts_outcome, check_within, check_outcome, count_limit}
use Rattle.model.specs.Limits.{ReachedBy, WithinLimits, BeyondLimits, nine, ten}
use Rattle.model.specs.CheckRefusals.{RowBegins, RowCut, RowTooMany, SomeArgument, RowOutOfRange, RowNotBelow, RowRepeated, RowRefused, row2, row3, row4, row5, row6, FaultlessRow, FaultlessRows, EntryFaulty, FaultlessEntries, CheckRefused, check1, check2to6, check7, check9to10, check11, CheckRefuses, CheckGives}
use Rattle.model.proofs.Choice.{if_no, if_yes, if_zero, refused_number, refused_place, or_true, or_left, or_right, not_both, is_false, no_fault, fault_refused, any_true, any_some, if_refused, result_only, Decided, clear, faulty, decided, ground_alone}
use Rattle.model.proofs.Good.{Good}
use Rattle.model.proofs.Exactly.{exactly_once}
use Rattle.model.proofs.Longest.{longest_none, longest_tree}
use Rattle.model.proofs.Used.{used_exactly, used_state}
use Rattle.model.proofs.Passing.{state_ground_lem}
use Rattle.model.proofs.Limits.{state_counted, tree_most, within_limits, beyond_limits, total_counted}
use Rattle.model.proofs.Checked.{all_below_true, passes_just, sound_good, ground_used}
use Rattle.model.proofs.Rows.{row_count, row_start_grows, row_is_true, row_is_yes}

-- ---- what a test says

-- a test that says whether the property holds
abbrev Tells : Bool → Type 0 → Type 0
Tells b P = (b ≡ true) ↔ P

tells_no : {P : Type 0} (b : Bool) → Tells b P → b ≡ false → P → ⊥
tells_no b t e p = not_both b (t.1 p) e

tells_false : {P : Type 0} (b : Bool) → Tells b P → (P → ⊥) → b ≡ false
tells_false b t h = is_false b (λ e. h (t.0 e))

or_tells : {P Q : Type 0} (a b : Bool) → Tells a P → Tells b Q → Tells (a || b) (P ⊎ Q)
or_tells {P} {Q} a b t u = (λ e. there (or_true a b e), back)
  where
    there : (a ≡ true) ⊎ (b ≡ true) → P ⊎ Q
    there (inl e) = inl (t.0 e)
    there (inr e) = inr (u.0 e)

    back : P ⊎ Q → (a || b) ≡ true
    back (inl p) = or_left a b (t.1 p)
    back (inr q) = or_right a b (u.1 q)

lt_tells : (a b : ℕ) → Tells (ltb a b) (a < b)
lt_tells a b = (ltb-true a b, lt-ltb a b)

eq_tells : (a b : ℕ) → Tells (eqb a b) (a ≡ b)
eq_tells a b = (eqb-true a b, eq-eqb a b)

le_tells : (a b : ℕ) → Tells (leb a b) (a ≤ b)
le_tells a b = (leb-true a b, le-leb a b)

not_lt_tells : (a b : ℕ) → Tells (not (ltb a b)) (b ≤ a)
not_lt_tells a b = (λ e. ltb-false a b (not-true (ltb a b) e), λ l. rw (le-ltb a b l))

-- an entry that is not below n
some_not_below : (n : ℕ) (xs : List ℕ) → all_below n xs ≡ false → (k : ℕ) × (k < length xs) × (n ≤ get_or xs k 0)
unfolding all_below
some_not_below n [] e = let z : ◌≡◌ {A = ℕ} 0 1 = cc in absurd (omega arith)
some_not_below n (x ∷ xs) e = go (ltb x n) (ltb-false x n) e (some_not_below n xs)
  where
    go : (t : Bool) → (t ≡ false → n ≤ x) → (t && all_below n xs) ≡ false → (all_below n xs ≡ false → (k : ℕ) × (k < length xs) × (n ≤ get_or xs k 0))
        → (k : ℕ) × (k < length (x ∷ xs)) × (n ≤ get_or (x ∷ xs) k 0)
    go true h f ih = let s = ih f in (suc s.0, omega (arith, s.1), s.2)
    go false h f ih = (0, omega arith, h refl)

not_all_tells : (n : ℕ) (xs : List ℕ) → Tells (not (all_below n xs)) ((k : ℕ) × (k < length xs) × (n ≤ get_or xs k 0))
not_all_tells n xs = (
  λ e. some_not_below n xs (not-true (all_below n xs) e),
  λ s. rw (is_false (all_below n xs) (λ e. omega (arith, all_below_true n xs e s.0 s.1, s.2))),
)

-- a number below n with the property
any_tells : {P : ℕ → Type 0} (n : ℕ) (p : ℕ → Bool) → ((j : ℕ) → Tells (p j) (P j)) → Tells (any_below n p) ((j : ℕ) × (j < n) × P j)
any_tells n p t = (λ e. let s = any_some n p e in (s.0, s.1, (t s.0).0 s.2), λ s. any_true n s.0 p s.1 ((t s.0).1 s.2))

-- ---- one row

row_begins : (rows : List ℕ) (i : ℕ) → i < how_many_rows rows → RowBegins rows i
row_begins rows i l = (row_count rows).inside i l

begins_row : (rows : List ℕ) (i : ℕ) → RowBegins rows i → i < how_many_rows rows
begins_row rows i b = go (dec_le (how_many_rows rows) i)
  where
    go : Dec (how_many_rows rows ≤ i) → i < how_many_rows rows
    go (yes l) = absurd (omega (arith, (row_count rows).end, row_start_grows rows (how_many_rows rows) i l))
    go (no l) = lt_of_not-le l

module _ (states : ℕ) (rows : List ℕ) (i : ℕ) where
  abbrev start : ℕ
  start = row_start rows i

  abbrev r : Row
  r = row_numbered rows i

  -- the tests within a row, in their order
  abbrev test2 : Bool
  test2 = cut rows start

  abbrev test3 : Bool
  test3 = too_many i (arg_count_at rows start)

  abbrev test4 : Bool
  test4 = out_of_range states r

  abbrev test5 : Bool
  test5 = not_below r

  abbrev test6 : Bool
  test6 = repeated rows i

  tells2 : Tells test2 (RowCut rows i)
  unfolding cut
  tells2 = (λ e. there (or_true few fewer e), back)
    where
      few : Bool
      few = ltb (length rows - start) 3

      fewer : Bool
      fewer = ltb (length rows - start - 3) (arg_count_at rows start)

      there : (few ≡ true) ⊎ (fewer ≡ true) → RowCut rows i
      there (inl e) = inl (omega (arith, ltb-true (length rows - start) 3 e))
      there (inr e) = inr (omega (arith, ltb-true (length rows - start - 3) (arg_count_at rows start) e))

      none : length rows < start + 3 → (few || fewer) ≡ true
      none l = or_left few fewer (lt-ltb (length rows - start) 3 (omega arith))

      back : RowCut rows i → (few || fewer) ≡ true
      back (inl l) = none l
      back (inr l) = go (dec_le (start + 3) (length rows))
        where
          go : Dec (start + 3 ≤ length rows) → (few || fewer) ≡ true
          go (yes m) = or_right few fewer (lt-ltb (length rows - start - 3) (arg_count_at rows start) (omega arith))
          go (no m) = none (lt_of_not-le m)

  tells3 : Tells test3 (RowTooMany rows i)
  unfolding too_many
  tells3 = or_tells (leb 1024 i) (ltb 16 (arg_count_at rows start)) (le_tells 1024 i) (lt_tells 16 (arg_count_at rows start))

  tells4 : Tells test4 (RowOutOfRange states r)
  unfolding out_of_range
  tells4 = (λ e. right (four.0 e), λ p. four.1 (left p))
    where
      Four : Type 0
      Four = (((r.symbol ≡ 0) ⊎ (255 < r.symbol)) ⊎ (states ≤ r.target)) ⊎ SomeArgument r (λ a. states ≤ a)

      four : Tells (eqb r.symbol 0 || ltb 255 r.symbol || not (is_state states r.target) || not (all_below states r.args)) Four
      four =
          or_tells _ _
          (or_tells _ _ (or_tells _ _ (eq_tells r.symbol 0) (lt_tells 255 r.symbol)) (not_lt_tells r.target states))
          (not_all_tells states r.args)

      right : Four → RowOutOfRange states r
      right (inl (inl (inl x))) = inl x
      right (inl (inl (inr x))) = inr (inl x)
      right (inl (inr x)) = inr (inr (inl x))
      right (inr x) = inr (inr (inr x))

      left : RowOutOfRange states r → Four
      left (inl x) = inl (inl (inl x))
      left (inr (inl x)) = inl (inl (inr x))
      left (inr (inr (inl x))) = inl (inr x)
      left (inr (inr (inr x))) = inr x

  tells5 : Tells test5 (RowNotBelow r)
  unfolding not_below
  tells5 = not_all_tells r.target r.args

  tells6 : Tells test6 (RowRepeated rows i)
  unfolding repeated
  tells6 = (λ e. let s = t.0 e in (s.0, s.1, s.2.0, s.2.1), λ s. t.1 (s.0, s.1, (s.2, s.3)))
    where
      Same : ℕ → Type 0
      Same j = ((row_numbered rows j).symbol ≡ r.symbol) × ((row_numbered rows j).args ≡ r.args)

      t : Tells (any_below i (λ j. row_is (row_numbered rows j) r.symbol r.args)) ((j : ℕ) × (j < i) × Same j)
      t = any_tells i (λ j. row_is (row_numbered rows j) r.symbol r.args) (λ j.
          (row_is_true (row_numbered rows j) r.symbol r.args, λ s. row_is_yes (row_numbered rows j) r.symbol r.args s.0 s.1))

  -- the row's ground is the first test that holds
  pub row_faultless : row_ground states rows i ≡ 0 → FaultlessRow states rows i
  unfolding row_ground
  row_faultless e =
      let a = if_zero test2 _ _ e in
      let b = if_zero test3 2 _ a.1 in
      let c = if_zero test4 3 _ b.1 in
      let d = if_zero test5 4 _ c.1 in
      let f = if_zero test6 5 _ d.1 in
      record {
        not2 = tells_no test2 tells2 a.0;
        not3 = tells_no test3 tells3 b.0;
        not4 = tells_no test4 tells4 c.0;
        not5 = tells_no test5 tells5 d.0;
        not6 = tells_no test6 tells6 f.0;
      }

  pub row_refused : 0 < row_ground states rows i → RowRefused states rows i (row_ground states rows i)
  unfolding row_ground
  row_refused = go test2 test3 test4 test5 test6 tells2 tells3 tells4 tells5 tells6
    where
      go : (a b c d e : Bool) → Tells a (RowCut rows i) → Tells b (RowTooMany rows i) → Tells c (RowOutOfRange states r) → Tells d (RowNotBelow r) → Tells e (RowRepeated rows i)
          → 0 < (if a then 2 else if b then 3 else if c then 4 else if d then 5 else if e then 6 else 0)
          → RowRefused states rows i (if a then 2 else if b then 3 else if c then 4 else if d then 5 else if e then 6 else 0)
      go true b c d e t2 t3 t4 t5 t6 p = row2 refl (t2.0 refl)
      go false true c d e t2 t3 t4 t5 t6 p = row3 refl (tells_no false t2 refl) (t3.0 refl)
      go false false true d e t2 t3 t4 t5 t6 p = row4 refl (tells_no false t2 refl) (tells_no false t3 refl) (t4.0 refl)
      go false false false true e t2 t3 t4 t5 t6 p = row5 refl (tells_no false t2 refl) (tells_no false t3 refl) (tells_no false t4 refl) (t5.0 refl)
      go false false false false true t2 t3 t4 t5 t6 p =
          row6 refl (tells_no false t2 refl) (tells_no false t3 refl) (tells_no false t4 refl) (tells_no false t5 refl) (t6.0 refl)
      go false false false false false t2 t3 t4 t5 t6 p = absurd (not-suc-le-zero p)

  no2 : (RowCut rows i → ⊥) → test2 ≡ false
  no2 = tells_false test2 tells2

  no3 : (RowTooMany rows i → ⊥) → test3 ≡ false
  no3 = tells_false test3 tells3

  no4 : (RowOutOfRange states r → ⊥) → test4 ≡ false
  no4 = tells_false test4 tells4

  no5 : (RowNotBelow r → ⊥) → test5 ≡ false
  no5 = tells_false test5 tells5

  pub faultless_row : FaultlessRow states rows i → row_ground states rows i ≡ 0
  unfolding row_ground
  faultless_row f = rw (no2 f.not2, no3 f.not3, no4 f.not4, no5 f.not5, tells_false test6 tells6 f.not6)

  pub refused_row : (number : ℕ) → RowRefused states rows i number → (row_ground states rows i ≡ number) × (0 < number)
  unfolding row_ground
  refused_row number (row2 n x) = (rw (tells2.1 x, n), rw n (omega arith))
  refused_row number (row3 n a x) = (rw (no2 a, tells3.1 x, n), rw n (omega arith))
  refused_row number (row4 n a b x) = (rw (no2 a, no3 b, tells4.1 x, n), rw n (omega arith))
  refused_row number (row5 n a b c x) = (rw (no2 a, no3 b, no4 c, tells5.1 x, n), rw n (omega arith))
  refused_row number (row6 n a b c d x) = (rw (no2 a, no3 b, no4 c, no5 d, tells6.1 x, n), rw n (omega arith))

-- ---- one accepting entry

module _ (states : ℕ) (accepting : List ℕ) (i : ℕ) where
  abbrev again : ℕ → Bool
  again j = eqb (state_at accepting j) (state_at accepting i)

  abbrev test7 : Bool
  test7 = not (is_state states (state_at accepting i)) || any_below i again

  tells7 : Tells test7 (EntryFaulty states accepting i)
  tells7 =
      or_tells (not (is_state states (state_at accepting i))) (any_below i again)
      (not_lt_tells (state_at accepting i) states) (any_tells i again (λ j. eq_tells (state_at accepting j) (state_at accepting i)))

  pub entry_faultless : accepting_ground states accepting i ≡ 0 → EntryFaulty states accepting i → ⊥
  unfolding accepting_ground
  entry_faultless e = tells_no test7 tells7 (if_zero test7 6 0 e).0

  pub faultless_entry : (EntryFaulty states accepting i → ⊥) → accepting_ground states accepting i ≡ 0
  unfolding accepting_ground
  faultless_entry h = if_no test7 7 0 (tells_false test7 tells7 h)

  pub entry_faulty : 0 < accepting_ground states accepting i → (accepting_ground states accepting i ≡ 7) × EntryFaulty states accepting i
  unfolding accepting_ground
  entry_faulty = go test7 tells7
    where
      go : (b : Bool) → Tells b (EntryFaulty states accepting i) → 0 < (if b then 7 else 0) → ◌≡◌ {A = ℕ} (if b then 7 else 0) 7 × EntryFaulty states accepting i
      go true t p = (refl, t.0 refl)
      go false t p = absurd (not-suc-le-zero p)

  pub faulty_entry : EntryFaulty states accepting i → accepting_ground states accepting i ≡ 7
  unfolding accepting_ground
  faulty_entry f = if_yes test7 7 0 (tells7.1 f)

-- ---- one state

module _ (T : Table) (good : Good T) (q : ℕ) (l : q < T.states) where
  counted : (many : ℕ) → ReachedBy T.rows q many → many ≡ count T q
  counted many r = exactly_once (λ (t : Tree). Reaches T.rows t q) many (count T q) r (state_counted T good q l)

  pub limits_ground : (Used T q → WithinLimits T q) → state_ground count_limit T q ≡ 0
  limits_ground h = state_ground_lem count_limit T q (λ u. held (h ((used_exactly T good q).0 u)))
    where
      long : WithinLimits T q → (count T q ≡ 0) ⊎ (0 < count T q) → longest T q ≤ 4096
      long w (inl z) = omega (arith, longest_none T good q z)
      long w (inr p) = let t = longest_tree T good q l p in omega (arith, t.has, w.short t.tree t.reaches)

      held : WithinLimits T q → (count T q ≤ count_limit) × (longest T q ≤ 4096)
      held w = (omega (arith, counted w.many w.reached, w.few), long w (eq-zero-or-pos (count T q)))

  beyond_limit : (number : ℕ) → BeyondLimits T q number → (limit_ground count_limit T q ≡ number) × (0 < number)
  unfolding limit_ground
  beyond_limit number (nine n many r a) = (rw (lt-ltb count_limit (count T q) (omega (arith, counted many r, a)), n), rw n (omega arith))
  beyond_limit number (ten n many r a t h b) = (
    rw (
      le-ltb count_limit (count T q) (omega (arith, counted many r, a)),
      lt-ltb 4096 (longest T q) (omega (arith, tree_most T good t q h, b)),
      n,
    ),
    rw n (omega arith),
  )

  pub beyond_ground : (number : ℕ) → Used T q → BeyondLimits T q number → (state_ground count_limit T q ≡ number) × (0 < number)
  beyond_ground number h b = let e = beyond_limit number b in (ground_used count_limit T q ((used_exactly T good q).1 h) ∙ e.0, e.1)

-- ---- the check

module _ (states : ℕ) (rows accepting : List ℕ) where
  abbrev T : Table
  T = table_of states rows accepting

  -- what follows the states, the accepting list, the rows, the count of states
  abbrev after_states : Outcome
  after_states = if ltb count_limit (total T) then refused 11 0 else result (total T)

  abbrev after_entries : Outcome
  after_entries = counts_outcome count_limit T

  abbrev after_rows : Outcome
  after_rows = first_faulty (how_many_entries accepting) (accepting_ground states accepting) after_entries

  abbrev after_size : Outcome
  after_size = first_faulty (how_many_rows rows) (row_ground states rows) after_rows

  check_is : check_outcome states rows accepting ≡ (if ltb 256 states then refused 1 0 else after_size)
  unfolding check_outcome check_within
  check_is = refl

  abbrev ClearRows : Type 0
  ClearRows = (i : ℕ) → i < how_many_rows rows → row_ground states rows i ≡ 0

  abbrev ClearEntries : Type 0
  ClearEntries = (i : ℕ) → i < how_many_entries accepting → accepting_ground states accepting i ≡ 0

  rows_faultless : ClearRows → FaultlessRows states rows
  rows_faultless c i b = row_faultless states rows i (c i (begins_row rows i b))

  faultless_rows : FaultlessRows states rows → ClearRows
  faultless_rows f i l = faultless_row states rows i (f i (row_begins rows i l))

  entries_faultless : ClearEntries → FaultlessEntries states accepting
  entries_faultless c i l = entry_faultless states accepting i (c i l)

  faultless_entries : FaultlessEntries states accepting → ClearEntries
  faultless_entries f i l = faultless_entry states accepting i (f i l)

  -- a refusal has its ground
  module _ (number place : ℕ) where
    abbrev Refused : Type 0
    Refused = CheckRefused states rows accepting number place

    moved : (P : ℕ → ℕ → Type 0) (n i : ℕ) → refused n i ≡ refused number place → P n i → P number place
    moved P n i e p = subst (λ (k : ℕ). P k place) (refused_number e) (subst (P n) (refused_place e) p)

    total_refused : states ≤ 256 → ClearRows → ClearEntries → ((q : ℕ) → q < states → state_ground count_limit T q ≡ 0) → after_states ≡ refused number place → Refused
    total_refused s c d h e = go (if_refused (ltb count_limit (total T)) 11 0 number place (result (total T)) e)
      where
        good : Good T
        good = sound_good states rows accepting c d

        go : ((ltb count_limit (total T) ≡ true) × (number ≡ 11) × (place ≡ 0)) ⊎ ((ltb count_limit (total T) ≡ false) × (result (total T) ≡ refused number place)) → Refused
        go (inl x) =
            check11 x.1 s (rows_faultless c) (entries_faultless d)
            (record {
              zero_place = x.2;
              states = λ q u. within_limits T good q u (h q (used_state T q ((used_exactly T good q).1 u)));
              many = total T;
              accepted = total_counted T good;
              beyond = ltb-true count_limit (total T) x.0;
            })
        go (inr x) = let y = x.1 in let z : ◌≡◌ {A = ℕ} 0 1 = cc in absurd (omega arith)

    state_refused : states ≤ 256 → ClearRows → ClearEntries → after_entries ≡ refused number place → Refused
    state_refused s c d e = go (decided states (state_ground count_limit T) after_states)
      where
        good : Good T
        good = sound_good states rows accepting c d

        go : Decided states (state_ground count_limit T) after_states after_entries → Refused
        go (clear h f) = total_refused s c d h (sym f ∙ e)
        go (faulty q l h p f) =
            moved (λ n i. CheckRefused states rows accepting n i) (state_ground count_limit T q) q (sym f ∙ e)
            (check9to10 s (rows_faultless c) (entries_faultless d)
            (let b = beyond_limits T good q l p in record { before = λ a k u. within_limits T good a u (h a k); used = b.0; here = b.1 }))

    entry_refused : states ≤ 256 → ClearRows → after_rows ≡ refused number place → Refused
    entry_refused s c e = go (decided (how_many_entries accepting) (accepting_ground states accepting) after_entries)
      where
        go : Decided (how_many_entries accepting) (accepting_ground states accepting) after_entries after_rows → Refused
        go (clear h f) = state_refused s c h (sym f ∙ e)
        go (faulty i l h p f) =
            let a = entry_faulty states accepting i p in
            moved (λ n i. CheckRefused states rows accepting n i) (accepting_ground states accepting i) i (sym f ∙ e)
            (check7 a.0 s (rows_faultless c) (record { within = l; before = λ j m. entry_faultless states accepting j (h j m); here = a.1 }))

    row_decides : states ≤ 256 → after_size ≡ refused number place → Refused
    row_decides s e = go (decided (how_many_rows rows) (row_ground states rows) after_rows)
      where
        go : Decided (how_many_rows rows) (row_ground states rows) after_rows after_size → Refused
        go (clear h f) = entry_refused s h (sym f ∙ e)
        go (faulty i l h p f) =
            moved (λ n i. CheckRefused states rows accepting n i) (row_ground states rows i) i (sym f ∙ e)
            (check2to6 s (record { begins = row_begins rows i l; before = λ j m. row_faultless states rows j (h j m); here = row_refused states rows i p }))

    has_ground : check_outcome states rows accepting ≡ refused number place → Refused
    has_ground e = go (if_refused (ltb 256 states) 1 0 number place after_size (sym check_is ∙ e))
      where
        go : ((ltb 256 states ≡ true) × (number ≡ 1) × (place ≡ 0)) ⊎ ((ltb 256 states ≡ false) × (after_size ≡ refused number place)) → Refused
        go (inl x) = check1 x.1 x.2 (ltb-true 256 states x.0)
        go (inr x) = row_decides (ltb-false 256 states x.0) x.1

  -- a ground refuses
  size_passes : states ≤ 256 → check_outcome states rows accepting ≡ after_size
  size_passes s = check_is ∙ if_no (ltb 256 states) (refused 1 0) after_size (le-ltb 256 states s)

  rows_pass : states ≤ 256 → ClearRows → check_outcome states rows accepting ≡ after_rows
  rows_pass s c = size_passes s ∙ no_fault (how_many_rows rows) (row_ground states rows) after_rows c

  entries_pass : states ≤ 256 → ClearRows → ClearEntries → check_outcome states rows accepting ≡ after_entries
  entries_pass s c d = rows_pass s c ∙ no_fault (how_many_entries accepting) (accepting_ground states accepting) after_entries d

  at_fault : (n i k : ℕ) (g : ℕ → ℕ) (o : Outcome) → i < n → ((j : ℕ) → j < i → g j ≡ 0) → (g i ≡ k) × (0 < k) → first_faulty n g o ≡ refused k i
  at_fault n i k g o l h e = sym (fault_refused n i k g o l h e.0 e.1)

  ground_refuses : (number place : ℕ) → CheckRefused states rows accepting number place → check_outcome states rows accepting ≡ refused number place
  ground_refuses number place (check1 n p a) = rw (n, p) (check_is ∙ if_yes (ltb 256 states) (refused 1 0) after_size (lt-ltb 256 states a))
  ground_refuses number place (check2to6 s f) =
      size_passes s
      ∙ at_fault (how_many_rows rows) place number (row_ground states rows) after_rows (begins_row rows place f.begins)
      (λ j m. faultless_row states rows j (f.before j m)) (refused_row states rows place number f.here)
  ground_refuses number place (check7 n s c f) =
      rows_pass s (faultless_rows c)
      ∙ at_fault (how_many_entries accepting) place number (accepting_ground states accepting) after_entries f.within
      (λ j m. faultless_entry states accepting j (f.before j m)) (faulty_entry states accepting place f.here ∙ sym n, rw n (omega arith))
  ground_refuses number place (check9to10 s c d f) =
      let good = sound_good states rows accepting (faultless_rows c) (faultless_entries d) in
      let l = used_state T place ((used_exactly T good place).1 f.used) in
      entries_pass s (faultless_rows c) (faultless_entries d)
      ∙ at_fault states place number (state_ground count_limit T) after_states l
      (λ q m. limits_ground T good q (omega arith) (f.before q m)) (beyond_ground T good place l number f.used f.here)
  ground_refuses number place (check11 n s c d f) =
      let good = sound_good states rows accepting (faultless_rows c) (faultless_entries d) in
      rw (n, f.zero_place)
      (entries_pass s (faultless_rows c) (faultless_entries d)
      ∙ no_fault states (state_ground count_limit T) after_states (λ q l. limits_ground T good q l (f.states q))
      ∙ if_yes (ltb count_limit (total T)) (refused 11 0) (result (total T))
      (lt-ltb count_limit (total T) (omega (arith, exactly_once (Accepted T) f.many (total T) f.accepted (total_counted T good), f.beyond))))

-- each refusal has its ground, and each ground its refusal
pub check_refuses : CheckRefuses
check_refuses states rows accepting number place = (has_ground states rows accepting number place, ground_refuses states rows accepting number place)

-- where no ground holds, the answer is the total
pub check_gives : CheckGives
check_gives states rows accepting n = (there, back)
  where
    there : check_outcome states rows accepting ≡ result n
        → ((number place : ℕ) → CheckRefused states rows accepting number place → ⊥) × (n ≡ total (table_of states rows accepting))
    there e = (
      λ number place g. let f = sym e ∙ ground_refuses states rows accepting number place g in let z : ◌≡◌ {A = ℕ} 0 1 = cc in omega arith,
      ((passes_just states rows accepting n).0 e).1,
    )

    back : ((number place : ℕ) → CheckRefused states rows accepting number place → ⊥) × (n ≡ total (table_of states rows accepting))
        → check_outcome states rows accepting ≡ result n
    back p =
        result_only (check_outcome states rows accepting) n (λ t e. ((passes_just states rows accepting t).0 e).1 ∙ sym p.1)
        (λ number place e. p.0 number place (has_ground states rows accepting number place e))

-- at most one ground is the first: its number and its place are the only ones
pub ground_once : (states : ℕ) (rows accepting : List ℕ) (m p n q : ℕ) → CheckRefused states rows accepting m p → CheckRefused states rows accepting n q → (m ≡ n) × (p ≡ q)
ground_once states rows accepting = ground_alone (CheckRefused states rows accepting) (check_outcome states rows accepting) (ground_refuses states rows accepting)
