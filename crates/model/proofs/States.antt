-- For a sound table the functions for rows and states say what reaching and accepting say.
use Rattle.std.specs.Prelude.{if◌then◌else◌}
use Prim.Native.Nat.{ℕ, zero, suc, ◌≤◌, ◌<◌, suc-le-suc}
use mathlib.Core.Path.{◌≡◌, refl, ap, sym, ◌∙◌, subst}
use mathlib.Core.Bool.{Bool, true, false}
use mathlib.Core.List.{List, [], ◌∷◌}
use mathlib.Core.Logic.{◌↔◌}
use native.Mathlib.Omega.{arith}
use native.Mathlib.Decide.{dec_le}
use native.Mathlib.Nat.{not-suc-le-zero, le_of_suc-le-suc, lt_of_not-le}
use lib.ListN.{length, get_or, get_or-eq_default}
use lib.Dec.{eqb}
use borrow.Author.Tests.{eqb-true, eqb-false}
use Rattle.model.specs.Table.{Row, Table, IsRow, row_is, no_row}
use Rattle.model.specs.Tree.{Forest, Tree, empty, node, only}
use Rattle.model.specs.Reach.{Reach, none, row, Reaches, Accepted, row_with, target_of, states_of, state_of, entry_of}
use Rattle.model.proofs.Choice.{not_both}
use Rattle.model.proofs.Counting.{get_d_any}
use Rattle.model.proofs.Good.{AllBelow, below_first, below_rest, below_cons, below_none, Distinct, Sound}
use Rattle.model.proofs.Reaching.{row_symbol, row_target, row_args, same_row}
use Rattle.model.proofs.Rows.{row_is_yes, row_is_true}

-- ---- the row with a symbol and arguments

-- where the search ends inside, the row has them
row_with_fits : (rows : List Row) (s : ℕ) (xs : List ℕ) (d : Row) → row_with rows s xs < length rows → row_is (get_or rows (row_with rows s xs) d) s xs ≡ true
unfolding row_with
row_with_fits [] s xs d l = absurd (not-suc-le-zero l)
row_with_fits (r ∷ rs) s xs d l = go (row_is r s xs) refl (row_with_fits rs s xs d) l
  where
    go : (b : Bool) → row_is r s xs ≡ b → (row_with rs s xs < length rs → row_is (get_or rs (row_with rs s xs) d) s xs ≡ true)
        → (if b then 0 else suc (row_with rs s xs)) < suc (length rs) → row_is (get_or (r ∷ rs) (if b then 0 else suc (row_with rs s xs)) d) s xs ≡ true
    go true e ih l = e
    go false e ih l = ih (le_of_suc-le-suc l)

-- so it is a row with them, whatever the default
pub row_with_row : (rows : List Row) (s : ℕ) (xs : List ℕ) (d : Row) → row_with rows s xs < length rows
    → IsRow rows (row_with rows s xs) s (get_or rows (row_with rows s xs) d).target xs
row_with_row rows s xs d l =
    let p = row_is_true (get_or rows (row_with rows s xs) d) s xs (row_with_fits rows s xs d l) in
    record {
      inside = l;
      is = get_d_any rows (row_with rows s xs) no_row d l ∙ (λ j. record { symbol = p.0 j; target = (get_or rows (row_with rows s xs) d).target; args = p.1 j });
    }

-- and no row before it has them
pub row_with_first : (rows : List Row) (s : ℕ) (xs : List ℕ) (i : ℕ) → row_is (get_or rows i no_row) s xs ≡ true → row_with rows s xs ≤ i
unfolding row_with
row_with_first [] s xs i h = omega arith
row_with_first (r ∷ rs) s xs i h = go (row_is r s xs) refl (row_with_first rs s xs) i h
  where
    go : (b : Bool) → row_is r s xs ≡ b → ((i : ℕ) → row_is (get_or rs i no_row) s xs ≡ true → row_with rs s xs ≤ i)
        → (i : ℕ) → row_is (get_or (r ∷ rs) i no_row) s xs ≡ true → (if b then 0 else suc (row_with rs s xs)) ≤ i
    go true e ih i h = omega arith
    go false e ih zero h = absurd (not_both (row_is r s xs) h e)
    go false e ih (suc i) h = suc-le-suc (ih i h)

-- where there is such a row, the search ends inside
pub row_with_inside : {rows : List Row} {i s q : ℕ} {xs : List ℕ} → IsRow rows i s q xs → row_with rows s xs < length rows
row_with_inside {rows} {i} {s} {xs} w =
    omega (arith, w.inside, row_with_first rows s xs i (row_is_yes (get_or rows i no_row) s xs (row_symbol w) (row_args w)))

-- where no row is repeated it ends at the row
pub row_with_is : {rows : List Row} {i s q : ℕ} {xs : List ℕ} → Distinct rows → IsRow rows i s q xs → row_with rows s xs ≡ i
row_with_is {rows} {i} {s} {q} {xs} d w = same_row d (row_with_row rows s xs no_row (row_with_inside w)) w refl

-- ---- states

-- what stands for a row where there is none
abbrev nowhere : Table → Row
nowhere T = record { symbol = 0; target = T.states; args = [] }

-- a row's target
pub target_is : (T : Table) {i s q : ℕ} {xs : List ℕ} → IsRow T.rows i s q xs → target_of T i ≡ q
target_is T {i} w =
    ap (λ (r : Row). r.target) (get_d_any T.rows i (nowhere T) no_row w.inside) ∙ row_target w

-- a target that is a state is a row's
pub target_inside : (T : Table) (i : ℕ) → target_of T i < T.states → i < length T.rows
target_inside T i l = go (dec_le (length T.rows) i)
  where
    go : Dec (length T.rows ≤ i) → i < length T.rows
    go (yes h) = absurd (omega (arith, l, ap (λ (r : Row). r.target) (get_or-eq_default T.rows (nowhere T) h)))
    go (no h) = lt_of_not-le h

-- the arguments of a row are states
pub args_states : {T : Table} {i s q : ℕ} {xs : List ℕ} → Sound T → IsRow T.rows i s q xs → AllBelow T.states xs
args_states {i} g w = rw (row_args w) at (g.args i w.inside)

-- what a forest reaches is what the function gives
pub states_reach : {T : Table} {f : Forest} {qs : List ℕ} → Sound T → Reach T.rows f qs → states_of T f ≡ qs
unfolding states_of
states_reach g none = refl
states_reach {T} g (row i w ks ts) = rw (states_reach g ks, row_with_is g.distinct w, target_is T w, states_reach g ts)

-- where the function gives states, the forest reaches them
pub reach_states : {T : Table} → Sound T → (f : Forest) → AllBelow T.states (states_of T f) → Reach T.rows f (states_of T f)
unfolding states_of
reach_states g empty b = none
reach_states {T} g (node s children right) b =
    let xs = states_of T children in
    let i = row_with T.rows s xs in
    let l : i < length T.rows = target_inside T i (below_first T.states (target_of T i) (states_of T right) b) in
    let w : IsRow T.rows i s (target_of T i) xs = row_with_row T.rows s xs (nowhere T) l in
    row i w (reach_states g children (args_states g w)) (reach_states g right (below_rest T.states (target_of T i) (states_of T right) b))

-- the same of one tree
pub state_reaches : {T : Table} {t : Tree} {q : ℕ} → Sound T → Reaches T.rows t q → state_of T t ≡ q
unfolding states_of
state_reaches g r = ap (λ (qs : List ℕ). get_or qs 0 0) (states_reach g r)

pub reaches_state : {T : Table} → Sound T → (t : Tree) → state_of T t < T.states → Reaches T.rows t (state_of T t)
unfolding states_of
reaches_state {T} g t l = reach_states g (only t) (below_cons T.states (state_of T t) [] l (below_none T.states))

-- ---- where a state is listed

-- where the search ends inside, the state stands there
pub entry_of_is : (xs : List ℕ) (q : ℕ) → entry_of xs q < length xs → get_or xs (entry_of xs q) 0 ≡ q
unfolding entry_of
entry_of_is [] q l = absurd (not-suc-le-zero l)
entry_of_is (x ∷ xs) q l = go (eqb x q) (eqb-true x q) (entry_of_is xs q) l
  where
    go : (b : Bool) → (b ≡ true → x ≡ q) → (entry_of xs q < length xs → get_or xs (entry_of xs q) 0 ≡ q)
        → (if b then 0 else suc (entry_of xs q)) < suc (length xs) → get_or (x ∷ xs) (if b then 0 else suc (entry_of xs q)) 0 ≡ q
    go true h ih l = h refl
    go false h ih l = ih (le_of_suc-le-suc l)

-- and it stands nowhere before
pub entry_of_first : (xs : List ℕ) (q i : ℕ) → get_or xs i 0 ≡ q → entry_of xs q ≤ i
unfolding entry_of
entry_of_first [] q i e = omega arith
entry_of_first (x ∷ xs) q i e = go (eqb x q) (eqb-false x q) (entry_of_first xs q) i e
  where
    go : (b : Bool) → (b ≡ false → x ≡ q → ⊥) → ((i : ℕ) → get_or xs i 0 ≡ q → entry_of xs q ≤ i)
        → (i : ℕ) → get_or (x ∷ xs) i 0 ≡ q → (if b then 0 else suc (entry_of xs q)) ≤ i
    go true h ih i e = omega arith
    go false h ih zero e = absurd (h refl e)
    go false h ih (suc i) e = suc-le-suc (ih i e)

-- a tree is accepted just where its state is listed
pub accepted_exactly : {T : Table} → Sound T → (t : Tree) → Accepted T t ↔ (entry_of T.accepting (state_of T t) < length T.accepting)
accepted_exactly {T} g t = (there, back)
  where
    there : Accepted T t → entry_of T.accepting (state_of T t) < length T.accepting
    there a = omega (arith, a.listed, entry_of_first T.accepting (state_of T t) a.entry (sym (state_reaches g a.reaches)))

    back : entry_of T.accepting (state_of T t) < length T.accepting → Accepted T t
    back l =
        let e = entry_of_is T.accepting (state_of T t) l in
        record {
          entry = entry_of T.accepting (state_of T t);
          listed = l;
          reaches = subst (Reaches T.rows t) (sym e) (reaches_state g t (subst (λ (q : ℕ). q < T.states) e (g.listed (entry_of T.accepting (state_of T t)) l)));
        }
