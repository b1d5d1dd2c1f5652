-- Every good table within the limits passes its check: with Checked, the check takes just these tables.
use Prim.Native.Nat.{ℕ, ◌-◌, ◌≤◌, ◌<◌}
use mathlib.Core.Path.{◌≡◌, refl, ap, sym, subst, ◌∙◌}
use mathlib.Core.Bool.{Bool, true, false}
use mathlib.Core.List.{List, [], ◌∷◌}
use mathlib.Core.Logic.{◌↔◌}
use native.Mathlib.Omega.{arith}
use lib.ListN.{length, get_or}
use lib.Dec.{eqb, ltb, leb}
use borrow.Author.Tests.{lt-ltb, le-ltb, lt-leb, ne_eqb}
use Rattle.model.specs.Answers.{result}
use Rattle.model.specs.Table.{Row, Table, no_row, pack, arg_count_at, row_start, row_numbered, how_many_rows, rows_of, row_is, how_many_entries, state_at, table_of, Whole}
use Rattle.model.specs.Count.{count, total, longest}
use Rattle.model.specs.Used.{is_used}
use Rattle.model.specs.Check.{all_below, cut, too_many, out_of_range, not_below, repeated, row_ground, accepting_ground, limit_ground, state_ground, check_within}
use Rattle.model.proofs.Choice.{or_none, and_both, is_false, any_none}
use Rattle.model.proofs.Good.{AllBelow, below_first, below_rest, Good, Within}
use Rattle.model.proofs.Rows.{args_length, rows_of_length, rows_of_at, rows_of_pack, pack_whole, row_is_true}
use Rattle.model.proofs.Checked.{NoGround, passes, passed, checked_good, checked_within, checked_packed, InRange, GoodRow, GoodEntry, states_length, states_at, ground_used, ground_unused}

-- ---- the tests do not hold

pub all_below_yes : (n : ℕ) (xs : List ℕ) → AllBelow n xs → all_below n xs ≡ true
unfolding all_below
all_below_yes n [] h = refl
all_below_yes n (x ∷ xs) h = and_both (ltb x n) (all_below n xs) (lt-ltb x n (below_first n x xs h)) (all_below_yes n xs (below_rest n x xs h))

pub cut_no : (rows : List ℕ) (s : ℕ) → Whole rows s → cut rows s ≡ false
unfolding cut
cut_no rows s w =
    or_none (ltb (length rows - s) 3) (ltb (length rows - s - 3) (arg_count_at rows s))
    (le-ltb (length rows - s) 3 (omega arith)) (le-ltb (length rows - s - 3) (arg_count_at rows s) (omega arith))

pub too_many_no : (i n : ℕ) → i < 1024 → n ≤ 16 → too_many i n ≡ false
unfolding too_many
too_many_no i n l m = or_none (leb 1024 i) (ltb 16 n) (lt-leb 1024 i l) (le-ltb 16 n m)

pub out_of_range_no : (states : ℕ) (r : Row) → InRange states r → out_of_range states r ≡ false
unfolding out_of_range
out_of_range_no states r h =
    rw (
      ne_eqb r.symbol 0 (λ e. omega (arith, h.low)),
      le-ltb 255 r.symbol h.high,
      lt-ltb r.target states h.target_fits,
      all_below_yes states r.args h.args_fit,
    )

pub not_below_no : (r : Row) → AllBelow r.target r.args → not_below r ≡ false
unfolding not_below
not_below_no r h = rw (all_below_yes r.target r.args h)

pub repeated_no : (rows : List ℕ) (i : ℕ)
    → ((j : ℕ) → j < i → (row_numbered rows j).symbol ≡ (row_numbered rows i).symbol → (row_numbered rows j).args ≡ (row_numbered rows i).args → ⊥) → repeated rows i ≡ false
unfolding repeated
repeated_no rows i h =
    any_none i (λ j. row_is (row_numbered rows j) (row_numbered rows i).symbol (row_numbered rows i).args)
    (λ j l. is_false (row_is (row_numbered rows j) (row_numbered rows i).symbol (row_numbered rows i).args)
    (λ y. let p = row_is_true (row_numbered rows j) (row_numbered rows i).symbol (row_numbered rows i).args y in h j l p.0 p.1))

pub row_ground_lem : (states : ℕ) (rows : List ℕ) (i : ℕ) → GoodRow states rows i → row_ground states rows i ≡ 0
unfolding row_ground
row_ground_lem states rows i g =
    rw (
      cut_no rows (row_start rows i) g.whole,
      too_many_no i (arg_count_at rows (row_start rows i)) g.number g.few_args,
      out_of_range_no states (row_numbered rows i) g.in_range,
      not_below_no (row_numbered rows i) g.ordered,
      repeated_no rows i g.fresh,
    )

pub entry_ground_lem : (states : ℕ) (accepting : List ℕ) (i : ℕ) → GoodEntry states accepting i → accepting_ground states accepting i ≡ 0
unfolding accepting_ground
entry_ground_lem states accepting i g =
    rw (
      lt-ltb (state_at accepting i) states g.state,
      any_none i (λ j. eqb (state_at accepting j) (state_at accepting i)) (λ j m. ne_eqb (state_at accepting j) (state_at accepting i) (g.fresh j m)),
    )

pub limit_ground_lem : (limit : ℕ) (T : Table) (q : ℕ) → count T q ≤ limit → longest T q ≤ 4096 → limit_ground limit T q ≡ 0
unfolding limit_ground
limit_ground_lem limit T q l m = rw (le-ltb limit (count T q) l, le-ltb 4096 (longest T q) m)

pub state_ground_lem : (limit : ℕ) (T : Table) (q : ℕ) → (is_used T q ≡ true → (count T q ≤ limit) × (longest T q ≤ 4096)) → state_ground limit T q ≡ 0
state_ground_lem limit T q h = go (is_used T q) refl
  where
    go : (b : Bool) → is_used T q ≡ b → state_ground limit T q ≡ 0
    go true u = let s = h u in ground_used limit T q u ∙ limit_ground_lem limit T q s.0 s.1
    go false u = ground_unused limit T q u

-- ---- a good table within the limits

-- what the check takes: a good table within the limits, whose lent rows are its rows written out
pub record Fine (limit states : ℕ) (rows accepting : List ℕ) : Type 0 where
  pub good : Good (table_of states rows accepting)
  pub within : Within limit (table_of states rows accepting)
  pub packed : pack (rows_of rows) ≡ rows

module _ (limit states : ℕ) (rows accepting : List ℕ) where
  fine_row : Fine limit states rows accepting → (i : ℕ) → i < how_many_rows rows → GoodRow states rows i
  fine_row f i l =
      record {
        whole = whole;
        number = omega (arith, f.within.few_rows, rows_of_length rows);
        few_args = omega (arith, args_length rows (row_start rows i) whole, rw is at (f.within.few_args i l'));
        in_range = record {
          low = rw is at (f.good.sound.symbols i l').0;
          high = rw is at (f.good.sound.symbols i l').1;
          target_fits = rw is at (f.good.sound.targets i l');
          args_fit = rw is at (f.good.sound.args i l');
        };
        ordered = ordered;
        fresh = λ j m s x. fresh j m (j_is j m) s x;
      }
    where
      l' : i < length (rows_of rows)
      l' = rw (rows_of_length rows) l

      is : get_or (rows_of rows) i no_row ≡ row_numbered rows i
      is = rows_of_at rows i no_row l

      whole : Whole rows (row_start rows i)
      whole = subst (λ (e : List ℕ). Whole e (row_start e i)) f.packed (pack_whole (rows_of rows) i l')

      ordered : AllBelow (row_numbered rows i).target (row_numbered rows i).args
      ordered = rw is at (f.good.ordered i l')

      j_is : (j : ℕ) → j < i → get_or (rows_of rows) j no_row ≡ row_numbered rows j
      j_is j m = rows_of_at rows j no_row (omega arith)

      fresh : (j : ℕ) → j < i → get_or (rows_of rows) j no_row ≡ row_numbered rows j → (row_numbered rows j).symbol ≡ (row_numbered rows i).symbol
          → (row_numbered rows j).args ≡ (row_numbered rows i).args → ⊥
      fresh j m e s x =
          let k : j ≡ i = f.good.sound.distinct j i (omega (arith, rows_of_length rows)) l' (rw (e, is) s) (rw (e, is) x) in
          omega arith

  fine_entry : Fine limit states rows accepting → (i : ℕ) → i < how_many_entries accepting → GoodEntry states accepting i
  fine_entry f i l =
      record {
        state = rw (states_at accepting i) at (f.good.sound.listed i (rw (states_length accepting) l));
        fresh = λ j m e.
            let k : j ≡ i = f.good.sound.once j i (omega (arith, states_length accepting)) (rw (states_length accepting) l) (states_at accepting j ∙ e ∙ sym (states_at accepting i)) in
            omega arith;
      }

  pub fine_clear : Fine limit states rows accepting → NoGround limit states rows accepting
  fine_clear f =
      record {
        few_states = f.within.few_states;
        good_rows = λ i l. row_ground_lem states rows i (fine_row f i l);
        good_entries = λ i l. entry_ground_lem states accepting i (fine_entry f i l);
        good_states = λ q l. state_ground_lem limit (table_of states rows accepting) q (λ u. (f.within.small_counts q u, f.within.small_trees q u));
        small_total = f.within.small_total;
      }

  pub clear_fine : NoGround limit states rows accepting → Fine limit states rows accepting
  clear_fine g =
      record {
        good = checked_good limit states rows accepting g;
        within = checked_within limit states rows accepting g;
        packed = checked_packed limit states rows accepting g;
      }

  -- the check takes just these tables, and gives the total
  pub taken_exactly : (n : ℕ) → (check_within limit states rows accepting ≡ result n) ↔ (Fine limit states rows accepting × (n ≡ total (table_of states rows accepting)))
  taken_exactly n = (
    λ e. let p = passed limit states rows accepting n e in (clear_fine p.0, p.1),
    λ p. passes limit states rows accepting (fine_clear p.0) ∙ ap result (sym p.1),
  )

-- a good table within the limits, its rows written out, passes
pub good_passes : (limit : ℕ) (T : Table) → Good T → Within limit T → check_within limit T.states (pack T.rows) T.accepting ≡ result (total T)
good_passes limit T g w =
    let e : table_of T.states (pack T.rows) T.accepting ≡ T = λ i. record { states = T.states; rows = rows_of_pack T.rows i; accepting = T.accepting } in
    passes limit T.states (pack T.rows) T.accepting
    (fine_clear limit T.states (pack T.rows) T.accepting
    (record { good = subst Good (sym e) g; within = subst (Within limit) (sym e) w; packed = ap pack (rows_of_pack T.rows) }))
    ∙ ap (λ (x : Table). result (total x)) e
