-- Reaching is by one row only: where no two rows have the same symbol and the same arguments, a tree reaches at most one state.
use Prim.Native.Nat.{ℕ, ◌<◌}
use mathlib.Core.Path.{◌≡◌, refl, ap, sym, ◌∙◌}
use mathlib.Core.List.{List}
use lib.ListN.{length, get_or}
use Rattle.model.specs.Table.{Row, IsRow, no_row}
use Rattle.model.specs.Tree.{Forest, Tree}
use Rattle.model.specs.Reach.{Reach, none, row, Reaches}
use Rattle.model.proofs.Good.{Distinct}

-- what a row's number says of it
pub row_symbol : {rows : List Row} {i s q : ℕ} {xs : List ℕ} → IsRow rows i s q xs → (get_or rows i no_row).symbol ≡ s
row_symbol w = ap (λ (r : Row). r.symbol) w.is

pub row_target : {rows : List Row} {i s q : ℕ} {xs : List ℕ} → IsRow rows i s q xs → (get_or rows i no_row).target ≡ q
row_target w = ap (λ (r : Row). r.target) w.is

pub row_args : {rows : List Row} {i s q : ℕ} {xs : List ℕ} → IsRow rows i s q xs → (get_or rows i no_row).args ≡ xs
row_args w = ap (λ (r : Row). r.args) w.is

-- a row inside the list, by its own symbol and arguments
pub row_there : (rows : List Row) (i q : ℕ) → i < length rows → (get_or rows i no_row).target ≡ q
    → IsRow rows i (get_or rows i no_row).symbol q (get_or rows i no_row).args
row_there rows i q l e = record { inside = l; is = λ j. record { symbol = (get_or rows i no_row).symbol; target = e j; args = (get_or rows i no_row).args } }

-- the same symbol and the same arguments: the same row
pub same_row : {rows : List Row} {i j s q q' : ℕ} {xs xs' : List ℕ} → Distinct rows → IsRow rows i s q xs → IsRow rows j s q' xs' → xs ≡ xs' → i ≡ j
same_row {i} {j} d v w e = d i j v.inside w.inside (row_symbol v ∙ sym (row_symbol w)) (row_args v ∙ e ∙ sym (row_args w))

-- the same row: the same target
pub same_target : {rows : List Row} {i j s s' q q' : ℕ} {xs xs' : List ℕ} → IsRow rows i s q xs → IsRow rows j s' q' xs' → i ≡ j → q ≡ q'
same_target {rows} v w e = sym (row_target v) ∙ ap (λ (k : ℕ). (get_or rows k no_row).target) e ∙ row_target w

-- a forest reaches one list of states
pub reach_same : {rows : List Row} {f : Forest} {qs qs' : List ℕ} → Distinct rows → Reach rows f qs → Reach rows f qs' → qs ≡ qs'
reach_same d none none = refl
reach_same d (row {q} {qs} i v ks ts) (row {q = q'} {qs = qs'} j w ks' ts') =
    let e : q ≡ q' = same_target v w (same_row d v w (reach_same d ks ks')) in
    let h : qs ≡ qs' = reach_same d ts ts' in
    cc

-- a tree reaches one state
pub reaches_same : {rows : List Row} {t : Tree} {q q' : ℕ} → Distinct rows → Reaches rows t q → Reaches rows t q' → q ≡ q'
reaches_same d r r' = let e = reach_same d r r' in cc

-- and by one row
pub reach_row : {rows : List Row} {k : Forest} {i j s q q' : ℕ} {xs xs' : List ℕ} → Distinct rows
    → IsRow rows i s q xs → Reach rows k xs → IsRow rows j s q' xs' → Reach rows k xs' → i ≡ j
reach_row d v ks w ks' = same_row d v w (reach_same d ks ks')
