-- The check of a table: it passes just where no ground of document 01 holds, and a table that passes is good.
use Prim.Native.Nat.{ℕ, ◌-◌, ◌≤◌, ◌<◌}
use mathlib.Core.Path.{◌≡◌, refl, ap, sym, ◌∙◌}
use mathlib.Core.Bool.{Bool, true, false, not, ◌||◌}
use mathlib.Core.List.{List, [], ◌∷◌}
use mathlib.Core.Logic.{◌⊎◌, inl, inr, ◌↔◌}
use native.Mathlib.Omega.{arith}
use native.Mathlib.Decide.{dec_le}
use native.Mathlib.Nat.{eq-or-lt_of_le, lt_of_not-le, pos_of_ne-zero}
use lib.ListN.{length, get_or}
use lib.Dec.{eqb, ltb, leb}
use borrow.Author.Tests.{ltb-true, ltb-false, leb-false, eqb-false, le-ltb, not-false}
use Rattle.model.specs.Answers.{result, refused}
use Rattle.model.specs.Choice.{any_below}
use Rattle.model.specs.Table.{Row, Table, no_row, pack, arg_count_at, row_start, row_numbered, how_many_rows, rows_of, row_is, how_many_entries, state_at, accepting_states, table_of, Whole}
use Rattle.model.specs.Count.{count, total, longest}
use Rattle.model.specs.Used.{is_used}
use Rattle.model.specs.Check.{all_below, is_state, cut, too_many, out_of_range, not_below, repeated, row_ground, accepting_ground, limit_ground, state_ground, check_within, count_limit, check_outcome, Passes}
use Rattle.model.specs.Card.{EntriesFew}
use Rattle.model.proofs.Choice.{if_no, if_result, if_zero, or_false, and_true, not_both, no_fault, no_fault_back, any_false}
use Rattle.model.proofs.Good.{AllBelow, below_none, below_cons, pigeon, Good, Within}
use Rattle.model.proofs.Used.{used_state}
use Rattle.model.proofs.Rows.{args_length, rows_of_length, rows_of_at, pack_rows_of, row_is_yes}

-- ---- no ground

-- no ground for a refusal holds of the table that is lent
pub record NoGround (limit states : ℕ) (rows accepting : List ℕ) : Type 0 where
  pub few_states : states ≤ 256
  pub good_rows : (i : ℕ) → i < how_many_rows rows → row_ground states rows i ≡ 0
  pub good_entries : (i : ℕ) → i < how_many_entries accepting → accepting_ground states accepting i ≡ 0
  pub good_states : (q : ℕ) → q < states → state_ground limit (table_of states rows accepting) q ≡ 0
  pub small_total : total (table_of states rows accepting) ≤ limit

module _ (limit states : ℕ) (rows accepting : List ℕ) where
  pub passes : NoGround limit states rows accepting → check_within limit states rows accepting ≡ result (total (table_of states rows accepting))
  unfolding check_within
  passes g =
      if_no (ltb 256 states) (refused 1 0) _ (le-ltb 256 states g.few_states)
      ∙ no_fault (how_many_rows rows) (row_ground states rows) _ g.good_rows
      ∙ no_fault (how_many_entries accepting) (accepting_ground states accepting) _ g.good_entries
      ∙ no_fault states (state_ground limit (table_of states rows accepting)) _ g.good_states
      ∙ if_no (ltb limit (total (table_of states rows accepting))) (refused 11 0) _ (le-ltb limit (total (table_of states rows accepting)) g.small_total)

  pub passed : (n : ℕ) → check_within limit states rows accepting ≡ result n → NoGround limit states rows accepting × (n ≡ total (table_of states rows accepting))
  unfolding check_within
  passed n e =
      let T = table_of states rows accepting in
      let a = if_result (ltb 256 states) 1 0 n _ e in
      let b = no_fault_back (how_many_rows rows) n (row_ground states rows) _ a.1 in
      let c = no_fault_back (how_many_entries accepting) n (accepting_ground states accepting) _ b.1 in
      let d = no_fault_back states n (state_ground limit T) _ c.1 in
      let f = if_result (ltb limit (total T)) 11 0 n _ d.1 in
      let z : result (total T) ≡ result n = f.1 in (
        record {
          few_states = ltb-false 256 states a.0;
          good_rows = b.0;
          good_entries = c.0;
          good_states = d.0;
          small_total = ltb-false limit (total T) f.0;
        },
        cc,
      )

  pub passes_exactly : (n : ℕ) → (check_within limit states rows accepting ≡ result n) ↔ (NoGround limit states rows accepting × (n ≡ total (table_of states rows accepting)))
  passes_exactly n = (passed n, λ p. passes p.0 ∙ ap result (sym p.1))

-- a table passes its check, with this total, just where no ground holds
pub passes_just : (states : ℕ) (rows accepting : List ℕ) (n : ℕ)
    → Passes states rows accepting n ↔ (NoGround count_limit states rows accepting × (n ≡ total (table_of states rows accepting)))
unfolding check_outcome
passes_just states rows accepting n = passes_exactly count_limit states rows accepting n

-- ---- one row

pub all_below_true : (n : ℕ) (xs : List ℕ) → all_below n xs ≡ true → AllBelow n xs
unfolding all_below
all_below_true n [] h = below_none n
all_below_true n (x ∷ xs) h =
    let p = and_true (ltb x n) (all_below n xs) h in
    below_cons n x xs (ltb-true x n p.0) (all_below_true n xs p.1)

pub not_cut : (rows : List ℕ) (s : ℕ) → cut rows s ≡ false → Whole rows s
unfolding cut
not_cut rows s e =
    let p = or_false (ltb (length rows - s) 3) (ltb (length rows - s - 3) (arg_count_at rows s)) e in
    omega (arith, ltb-false (length rows - s) 3 p.0, ltb-false (length rows - s - 3) (arg_count_at rows s) p.1)

pub not_too_many : (i n : ℕ) → too_many i n ≡ false → (i < 1024) × (n ≤ 16)
unfolding too_many
not_too_many i n e = let p = or_false (leb 1024 i) (ltb 16 n) e in (leb-false 1024 i p.0, ltb-false 16 n p.1)

-- symbol, target and arguments in range
pub record InRange (states : ℕ) (r : Row) : Type 0 where
  pub low : 1 ≤ r.symbol
  pub high : r.symbol ≤ 255
  pub target_fits : r.target < states
  pub args_fit : AllBelow states r.args

pub not_out_of_range : (states : ℕ) (r : Row) → out_of_range states r ≡ false → InRange states r
unfolding out_of_range
not_out_of_range states r e =
    let p = or_false (eqb r.symbol 0 || ltb 255 r.symbol || not (is_state states r.target)) (not (all_below states r.args)) e in
    let q = or_false (eqb r.symbol 0 || ltb 255 r.symbol) (not (is_state states r.target)) p.0 in
    let s = or_false (eqb r.symbol 0) (ltb 255 r.symbol) q.0 in
    record {
      low = pos_of_ne-zero (eqb-false r.symbol 0 s.0);
      high = ltb-false 255 r.symbol s.1;
      target_fits = ltb-true r.target states (not-false (is_state states r.target) q.1);
      args_fit = all_below_true states r.args (not-false (all_below states r.args) p.1);
    }

pub not_not_below : (r : Row) → not_below r ≡ false → AllBelow r.target r.args
unfolding not_below
not_not_below r e = all_below_true r.target r.args (not-false (all_below r.target r.args) e)

pub not_repeated : (rows : List ℕ) (i : ℕ) → repeated rows i ≡ false
    → (j : ℕ) → j < i → (row_numbered rows j).symbol ≡ (row_numbered rows i).symbol → (row_numbered rows j).args ≡ (row_numbered rows i).args → ⊥
unfolding repeated
not_repeated rows i e j l s x =
    not_both (row_is (row_numbered rows j) (row_numbered rows i).symbol (row_numbered rows i).args)
    (row_is_yes (row_numbered rows j) (row_numbered rows i).symbol (row_numbered rows i).args s x)
    (any_false i (λ j. row_is (row_numbered rows j) (row_numbered rows i).symbol (row_numbered rows i).args) e j l)

-- what a row without a ground is like
pub record GoodRow (states : ℕ) (rows : List ℕ) (i : ℕ) : Type 0 where
  pub whole : Whole rows (row_start rows i)
  pub number : i < 1024
  pub few_args : arg_count_at rows (row_start rows i) ≤ 16
  pub in_range : InRange states (row_numbered rows i)
  pub ordered : AllBelow (row_numbered rows i).target (row_numbered rows i).args
  pub fresh : (j : ℕ) → j < i → (row_numbered rows j).symbol ≡ (row_numbered rows i).symbol → (row_numbered rows j).args ≡ (row_numbered rows i).args → ⊥

pub row_good : (states : ℕ) (rows : List ℕ) (i : ℕ) → row_ground states rows i ≡ 0 → GoodRow states rows i
unfolding row_ground
row_good states rows i e =
    let a = if_zero (cut rows (row_start rows i)) 1 _ e in
    let b = if_zero (too_many i (arg_count_at rows (row_start rows i))) 2 _ a.1 in
    let c = if_zero (out_of_range states (row_numbered rows i)) 3 _ b.1 in
    let d = if_zero (not_below (row_numbered rows i)) 4 _ c.1 in
    let f = if_zero (repeated rows i) 5 _ d.1 in
    let m = not_too_many i (arg_count_at rows (row_start rows i)) b.0 in
    record {
      whole = not_cut rows (row_start rows i) a.0;
      number = m.0;
      few_args = m.1;
      in_range = not_out_of_range states (row_numbered rows i) c.0;
      ordered = not_not_below (row_numbered rows i) d.0;
      fresh = not_repeated rows i f.0;
    }

-- ---- one accepting entry, one state

-- what an accepting entry without a ground is like
pub record GoodEntry (states : ℕ) (accepting : List ℕ) (i : ℕ) : Type 0 where
  pub state : state_at accepting i < states
  pub fresh : (j : ℕ) → j < i → state_at accepting j ≡ state_at accepting i → ⊥

pub entry_good : (states : ℕ) (accepting : List ℕ) (i : ℕ) → accepting_ground states accepting i ≡ 0 → GoodEntry states accepting i
unfolding accepting_ground
entry_good states accepting i e =
    let again = any_below i (λ j. eqb (state_at accepting j) (state_at accepting i)) in
    let a = if_zero (not (is_state states (state_at accepting i)) || again) 6 0 e in
    let b = or_false (not (is_state states (state_at accepting i))) again a.0 in
    record {
      state = ltb-true (state_at accepting i) states (not-false (is_state states (state_at accepting i)) b.0);
      fresh = λ j l. eqb-false (state_at accepting j) (state_at accepting i) (any_false i (λ j. eqb (state_at accepting j) (state_at accepting i)) b.1 j l);
    }

pub limit_good : (limit : ℕ) (T : Table) (q : ℕ) → limit_ground limit T q ≡ 0 → (count T q ≤ limit) × (longest T q ≤ 4096)
unfolding limit_ground
limit_good limit T q e =
    let a = if_zero (ltb limit (count T q)) 8 _ e in
    let b = if_zero (ltb 4096 (longest T q)) 9 _ a.1 in
    (ltb-false limit (count T q) a.0, ltb-false 4096 (longest T q) b.0)

-- a used state is held to the limits, an unused one is not
pub ground_used : (limit : ℕ) (T : Table) (q : ℕ) → is_used T q ≡ true → state_ground limit T q ≡ limit_ground limit T q
unfolding state_ground
ground_used limit T q u = rw u

pub ground_unused : (limit : ℕ) (T : Table) (q : ℕ) → is_used T q ≡ false → state_ground limit T q ≡ 0
unfolding state_ground
ground_unused limit T q u = rw u

-- where no limit is passed no ground holds, used or not
pub ground_clear : (limit : ℕ) (T : Table) (q : ℕ) → limit_ground limit T q ≡ 0 → state_ground limit T q ≡ 0
ground_clear limit T q e = go (is_used T q) refl
  where
    go : (b : Bool) → is_used T q ≡ b → state_ground limit T q ≡ 0
    go true u = ground_used limit T q u ∙ e
    go false u = ground_unused limit T q u

pub state_good : (limit : ℕ) (T : Table) (q : ℕ) → is_used T q ≡ true → state_ground limit T q ≡ 0 → (count T q ≤ limit) × (longest T q ≤ 4096)
state_good limit T q u e = limit_good limit T q (sym (ground_used limit T q u) ∙ e)

-- ---- a table that passes

-- where each thing differs from all before it, no two are the same
pub apart : (n : ℕ) (R : ℕ → ℕ → Type 0) → ((i : ℕ) → i < n → (j : ℕ) → j < i → R j i → ⊥) → (i j : ℕ) → i < n → j < n → R i j → R j i → i ≡ j
apart n R h i j li lj r r' = go (dec_le i j)
  where
    near : (i ≡ j) ⊎ (i < j) → i ≡ j
    near (inl e) = e
    near (inr l) = absurd (h j lj i l r)

    go : Dec (i ≤ j) → i ≡ j
    go (yes l) = near (eq-or-lt_of_le l)
    go (no l) = absurd (h i li j (lt_of_not-le l) r')

-- the states of a lent accepting list are those that its entries name
pub states_length : (accepting : List ℕ) → length (accepting_states accepting) ≡ how_many_entries accepting
states_length accepting = refl

pub states_at : (accepting : List ℕ) (i : ℕ) → get_or (accepting_states accepting) i 0 ≡ state_at accepting i
states_at accepting i = refl

-- the first n entries, where each is a state and none equals an earlier one: no two are the same, and there are no more of them than states
module _ (states : ℕ) (accepting : List ℕ) (n : ℕ) (good : (i : ℕ) → i < n → GoodEntry states accepting i) where
  entries_apart : (i j : ℕ) → i < n → j < n → state_at accepting i ≡ state_at accepting j → i ≡ j
  entries_apart i j li lj e = apart n (λ i j. state_at accepting i ≡ state_at accepting j) (λ i l. (good i l).fresh) i j li lj e (sym e)

  pub first_few : n ≤ states
  first_few = pigeon n states (state_at accepting) (λ i l. (good i l).state) entries_apart

pub entries_few : EntriesFew
entries_few states accepting state fresh = first_few states accepting (how_many_entries accepting) (λ i l. record { state = state i l; fresh = fresh i l })

-- rows and accepting entries for which no ground holds, whatever the states count
module _ (states : ℕ) (rows accepting : List ℕ) (good_rows : (i : ℕ) → i < how_many_rows rows → row_ground states rows i ≡ 0)
    (good_entries : (i : ℕ) → i < how_many_entries accepting → accepting_ground states accepting i ≡ 0) where
  pub sound_good : Good (table_of states rows accepting)
  sound_good =
      record {
        sound = record {
          symbols = λ i l. rw (rows_of_at rows i no_row (within i l)) (let r = (row i (within i l)).in_range in (r.low, r.high));
          targets = λ i l. rw (rows_of_at rows i no_row (within i l)) (row i (within i l)).in_range.target_fits;
          args = λ i l. rw (rows_of_at rows i no_row (within i l)) (row i (within i l)).in_range.args_fit;
          distinct = λ i j li lj s x. two i j (within i li) (within j lj)
              (rw (rows_of_at rows i no_row (within i li), rows_of_at rows j no_row (within j lj)) at s)
              (rw (rows_of_at rows i no_row (within i li), rows_of_at rows j no_row (within j lj)) at x);
          listed = λ i l. rw (states_at accepting i) (entry i (rw (states_length accepting) at l)).state;
          once = λ i j li lj e.
              entries_apart states accepting (how_many_entries accepting) entry i j (rw (states_length accepting) at li) (rw (states_length accepting) at lj)
              (sym (states_at accepting i) ∙ e ∙ states_at accepting j);
        };
        ordered = λ i l. rw (rows_of_at rows i no_row (within i l)) (row i (within i l)).ordered;
      }
    where
      row : (i : ℕ) → i < how_many_rows rows → GoodRow states rows i
      row i l = row_good states rows i (good_rows i l)

      entry : (i : ℕ) → i < how_many_entries accepting → GoodEntry states accepting i
      entry i l = entry_good states accepting i (good_entries i l)

      within : (i : ℕ) → i < length (rows_of rows) → i < how_many_rows rows
      within i l = rw (rows_of_length rows) at l

      two : (i j : ℕ) → i < how_many_rows rows → j < how_many_rows rows → (row_numbered rows i).symbol ≡ (row_numbered rows j).symbol
          → (row_numbered rows i).args ≡ (row_numbered rows j).args → i ≡ j
      two i j li lj s x =
          apart (how_many_rows rows) (λ i j. ((row_numbered rows i).symbol ≡ (row_numbered rows j).symbol) × ((row_numbered rows i).args ≡ (row_numbered rows j).args))
          (λ i l j m r. (row i l).fresh j m r.0 r.1) i j li lj (s, x) (sym s, sym x)

module _ (limit states : ℕ) (rows accepting : List ℕ) (g : NoGround limit states rows accepting) where
  pub checked_row : (i : ℕ) → i < how_many_rows rows → GoodRow states rows i
  checked_row i l = row_good states rows i (g.good_rows i l)

  -- "The rows, one after another in one list": nothing is left over
  pub checked_packed : pack (rows_of rows) ≡ rows
  checked_packed = pack_rows_of rows (λ i l. (checked_row i l).whole)

  pub checked_good : Good (table_of states rows accepting)
  checked_good = sound_good states rows accepting g.good_rows g.good_entries

  pub checked_within : Within limit (table_of states rows accepting)
  checked_within =
      record {
        few_states = g.few_states;
        few_rows = few (dec_le (how_many_rows rows) 1024);
        few_args = λ i l. args i (rw (rows_of_length rows) at l);
        small_counts = λ q u. (state_good limit T q u (g.good_states q (used_state T q u))).0;
        small_trees = λ q u. (state_good limit T q u (g.good_states q (used_state T q u))).1;
        small_total = g.small_total;
      }
    where
      T : Table
      T = table_of states rows accepting

      few : Dec (how_many_rows rows ≤ 1024) → length (rows_of rows) ≤ 1024
      few (yes l) = rw (rows_of_length rows) l
      few (no l) = absurd (omega (arith, (checked_row 1024 (lt_of_not-le l)).number))

      args : (i : ℕ) → i < how_many_rows rows → length (get_or (rows_of rows) i no_row).args ≤ 16
      args i l =
          rw (rows_of_at rows i no_row l)
          (omega (arith, args_length rows (row_start rows i) (checked_row i l).whole, (checked_row i l).few_args))
