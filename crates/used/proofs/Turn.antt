-- One state's turn: the rows of a used state mark their arguments. Assumes nothing.
use Prim.Native.Nat.{ℕ, zero, suc, ◌*◌, ◌-◌, ◌<◌, ◌≤◌}
use mathlib.Core.Path.{◌≡◌, refl, sym, ap, ◌∙◌}
use mathlib.Core.Bool.{Bool, true, false, ◌&&◌, ◌||◌}
use mathlib.Core.List.{List, [], ◌∷◌, map}
use mathlib.Core.Logic.{◌⊎◌, inl, inr}
use native.Mathlib.Nat.{mul-zero, zero-mul, eq-zero-or-pos, eq-or-lt_of_le}
use native.Mathlib.Omega.{arith}
use lib.ListN.{length, get_or}
use lib.Dec.{eqb, ltb}
use borrow.Author.Tests.{ltb-true, lt-ltb, eqb-true, eq-eqb, ne_eqb}
use Rattle.model.specs.Choice.{any_below}
use Rattle.model.specs.Table.{Row}
use Rattle.model.specs.Count.{product}
use Rattle.model.specs.Reach.{is_among}
use Rattle.model.proofs.Choice.{and_true, or_true, or_left, or_right, any_true, any_some}
use Rattle.model.proofs.Used.{among_place}
use Rattle.rows.specs.Words.{args_in, rows_in, row_no, afters}
use Rattle.counts.specs.Chain.{target, leads, TargetLink, Chained, Comes}
use Rattle.counts.specs.States.{held}
use Rattle.counts.proofs.Chain.{leads_row, leads_end}
use Rattle.used.specs.Marked.{is_set, Placed, RowPlaced, MarkedToo, row_names, listed_by, named_row, named_for, AllMarked, TurnReady, Turned}
use Rattle.used.proofs.Marks.{same_test, or_none, or_assoc}
use Rattle.used.proofs.Walk.{AtRow, at_link, leads_within, row_here, mine_here, args_here, link_next}

-- ---- rows between that are of other targets

any_skip : (i j : ℕ) (p : ℕ → Bool) → i ≤ j → ((k : ℕ) → i ≤ k → k < j → p k ≡ false) → any_below j p ≡ any_below i p
unfolding any_below
any_skip i zero p l h = let e : i ≡ 0 = omega arith in rw e
any_skip i (suc j) p l h = go (eq-or-lt_of_le l) (λ m. any_skip i j p m (λ k a b. h k a (omega arith)))
  where
    go : (i ≡ suc j) ⊎ (i < suc j) → (i ≤ j → any_below j p ≡ any_below i p) → (any_below j p || p j) ≡ any_below i p
    go (inl e) ih = ap (λ (n : ℕ). any_below n p) (sym e)
    go (inr m) ih = ap (λ (b : Bool). any_below j p || b) (h j (omega arith) (omega arith)) ∙ sym (or_none (any_below j p)) ∙ ih (omega arith)

any_suc : (n : ℕ) (f : ℕ → Bool) → any_below (suc n) f ≡ (any_below n f || f n)
unfolding any_below
any_suc n f = refl

any_zero : (f : ℕ → Bool) → any_below 0 f ≡ false
unfolding any_below
any_zero f = refl

-- a factor of a product above 0
pub factor_some : (c : ℕ → ℕ) (xs : List ℕ) (k : ℕ) → k < length xs → 0 < product (map c xs) → 0 < c (get_or xs k 0)
unfolding product
factor_some c [] k l p = absurd (omega arith)
factor_some c (x ∷ xs) zero l p = go (eq-zero-or-pos (c x))
  where
    go : (c x ≡ 0) ⊎ (0 < c x) → 0 < c x
    go (inl z) = absurd (omega (arith, ap (λ (n : ℕ). n * product (map c xs)) z ∙ zero-mul (product (map c xs))))
    go (inr y) = y
factor_some c (x ∷ xs) (suc k) l p = factor_some c xs k (omega arith) (go (eq-zero-or-pos (product (map c xs))))
  where
    go : (product (map c xs) ≡ 0) ⊎ (0 < product (map c xs)) → 0 < product (map c xs)
    go (inl z) = absurd (omega (arith, ap (λ (n : ℕ). c x * n) z ∙ mul-zero (c x)))
    go (inr y) = y

-- where a row counts more than 0 each of its arguments has trees
pub row_marked : (cs args : List ℕ) {old new : List ℕ} → ltb 0 (product (map (held cs) args)) ≡ true → MarkedToo (listed_by args cs) old new → MarkedToo (row_names cs args) old new
row_marked cs args {old} t m = record { long = m.long; each = λ q. m.each q ∙ ap (λ (b : Bool). is_set old q || b) (same_test (listed_by args cs q) (row_names cs args q) (to q) (from q)) }
  where
    to : (q : ℕ) → listed_by args cs q ≡ true → row_names cs args q ≡ true
    to q e = let x = and_true (ltb 0 (held cs q)) (is_among q args) e in rw (x.1, t) refl

    from : (q : ℕ) → row_names cs args q ≡ true → listed_by args cs q ≡ true
    from q e =
        let x = and_true (is_among q args) (ltb 0 (product (map (held cs) args))) e in
        let z = among_place q args x.0 in
        let l : 0 < held cs q = rw (← z.2) (factor_some (held cs) args z.0 z.1 (ltb-true 0 (product (map (held cs) args)) x.1)) in
        rw (lt-ltb 0 (held cs q) l, x.0) refl

-- ---- the rows before the one that the link leads to are taken, and the states below n that have trees are marked

pub record Taking (rows : List Row) (cs : List ℕ) (q : ℕ) (old used : List ℕ) (n p : ℕ) : Type 0 where
  pub at_row : AtRow rows q p
  pub marked : MarkedToo (λ a. any_below (leads p (length rows)) (named_row rows cs q a)) old used
  pub passed : AllMarked cs used n
  pub low : n ≤ q

module _ (rows : List Row) (cs : List ℕ) (q : ℕ) where
  skip : (i p a : ℕ) → TargetLink rows q i (length rows) p → any_below (leads p (length rows)) (named_row rows cs q a) ≡ any_below i (named_row rows cs q a)
  skip i p a t = any_skip i (leads p (length rows)) (named_row rows cs q a) t.from (λ k l m. none k l m)
    where
      none : (k : ℕ) → i ≤ k → k < leads p (length rows) → named_row rows cs q a k ≡ false
      none k l m = rw (ne_eqb (target rows k) q (t.gap k l m))

  taking_begins : (used : List ℕ) (n p : ℕ) → AllMarked cs used n → n ≤ q → TargetLink rows q 0 (length rows) p → Taking rows cs q used used n p
  taking_begins used n p s l t = record {
    at_row = at_link p t;
    marked = record { long = refl; each = λ a. or_none (is_set used a) ∙ ap (λ (b : Bool). is_set used a || b) (sym (skip 0 p a t ∙ any_zero (named_row rows cs q a))) };
    passed = s;
    low = l;
  }

  taking_goes : (old used used' : List ℕ) (n n' p r p' : ℕ) → Taking rows cs q old used n p → (1 ≤ p) × (r ≡ p - 1) → MarkedToo (row_names cs (row_no rows r).args) used used'
      → AllMarked cs used' n' → n' ≤ q → TargetLink rows q (suc r) (length rows) p' → Taking rows cs q old used' n' p'
  taking_goes old used used' n n' p r p' x l m s le t = record {
    at_row = at_link p' t;
    marked = record {
      long = m.long ∙ x.marked.long;
      each = λ a.
          m.each a
          ∙ ap (λ (b : Bool). b || row_names cs (row_no rows r).args a)
          (x.marked.each a ∙ ap (λ (k : ℕ). is_set old a || any_below k (named_row rows cs q a)) (leads_row p (length rows) l.0 ∙ sym l.1))
          ∙ or_assoc (is_set old a) (any_below r (named_row rows cs q a)) (row_names cs (row_no rows r).args a)
          ∙ ap (λ (b : Bool). is_set old a || (any_below r (named_row rows cs q a) || (b && row_names cs (row_no rows r).args a))) (sym (eq-eqb (target rows r) q (rw l.1 (x.at_row.mine l.0))))
          ∙ ap (λ (b : Bool). is_set old a || b) (sym (any_suc r (named_row rows cs q a)) ∙ sym (skip (suc r) p' a t));
    };
    passed = s;
    low = le;
  }

  pub taking_ends : (old used : List ℕ) (n p : ℕ) → Taking rows cs q old used n p → p ≡ 0 → Turned rows cs q old used n
  taking_ends old used n p x z =
      record {
        marked = record { long = x.marked.long; each = λ a. x.marked.each a ∙ ap (λ (k : ℕ). is_set old a || any_below k (named_row rows cs q a)) (ap (λ (k : ℕ). leads k (length rows)) z ∙ leads_end (length rows)) };
        passed = x.passed;
        low = x.low;
      }

  -- ---- a turn ends early

  -- a state that a row of q names has trees and is below q
  named_facts : (a : ℕ) → ((r : ℕ) → r < length rows → target rows r ≡ q → Placed q (row_no rows r).args) → named_for rows cs q a ≡ true → (a < q) × (0 < held cs a)
  named_facts a lower e =
      let f = any_some (length rows) (named_row rows cs q a) e in
      let r = f.0 in
      let x = and_true (eqb (target rows r) q) (row_names cs (row_no rows r).args a) f.2 in
      let y = and_true (is_among a (row_no rows r).args) (ltb 0 (product (map (held cs) (row_no rows r).args))) x.1 in
      let z = among_place a (row_no rows r).args y.0 in (
        rw (← z.2) ((lower r f.1 (eqb-true (target rows r) q x.0)).placed z.0 z.1),
        rw (← z.2) (factor_some (held cs) (row_no rows r).args z.0 z.1 (ltb-true 0 (product (map (held cs) (row_no rows r).args)) y.1)),
      )

  pub turn_enough : (old used : List ℕ) (n p : ℕ) → ((r : ℕ) → r < length rows → target rows r ≡ q → Placed q (row_no rows r).args)
      → Taking rows cs q old used n p → q ≤ n → Turned rows cs q old used n
  turn_enough old used n p lower t le =
      record {
        marked = record { long = t.marked.long; each = λ a. same_test (is_set used a) (is_set old a || named_for rows cs q a) (to a) (from a) };
        passed = t.passed;
        low = t.low;
      }
    where
      to : (a : ℕ) → is_set used a ≡ true → (is_set old a || named_for rows cs q a) ≡ true
      to a e = go (or_true (is_set old a) (any_below (leads p (length rows)) (named_row rows cs q a)) (sym (t.marked.each a) ∙ e))
        where
          go : (is_set old a ≡ true) ⊎ (any_below (leads p (length rows)) (named_row rows cs q a) ≡ true) → (is_set old a || named_for rows cs q a) ≡ true
          go (inl y) = or_left (is_set old a) (named_for rows cs q a) y
          go (inr y) =
              let f = any_some (leads p (length rows)) (named_row rows cs q a) y in
              or_right (is_set old a) (named_for rows cs q a) (any_true (length rows) f.0 (named_row rows cs q a) (omega (arith, f.1, leads_within p t.at_row)) f.2)

      from : (a : ℕ) → (is_set old a || named_for rows cs q a) ≡ true → is_set used a ≡ true
      from a e = go (or_true (is_set old a) (named_for rows cs q a) e)
        where
          go : (is_set old a ≡ true) ⊎ (named_for rows cs q a ≡ true) → is_set used a ≡ true
          go (inl y) = t.marked.each a ∙ or_left (is_set old a) (any_below (leads p (length rows)) (named_row rows cs q a)) y
          go (inr y) = let f = named_facts a lower y in t.passed.marked a (omega (arith, f.0)) f.1

-- ---- as the code has it

module _ (pool words : List ℕ) {first cs : List ℕ} {old : List ℕ} {low q : ℕ}
    (chained : Chained (rows_in pool words) first (afters words)) (g : TurnReady (rows_in pool words) first cs old low q) where
  abbrev rows : List Row
  rows = rows_in pool words

  pub turn_begins : (p : ℕ) → p ≡ get_or first q 0 → Taking rows cs q old old low p
  turn_begins p e = taking_begins rows cs q old low p g.passed.passed g.passed.low (rw e (chained.firsts q g.state))

  module _ {used : List ℕ} {n p : ℕ} (x : Taking rows cs q old used n p) where
    pub turn_stops : q ≤ n → Turned rows cs q old used n
    turn_stops le = turn_enough rows cs q old used n p g.lower x le

    module _ {r word p' : ℕ} (g' : Comes words p r word p') where
      module _ (args : List ℕ) (is : args ≡ args_in pool word) where
        same : args ≡ (row_no rows r).args
        same = is ∙ sym (args_here pool words chained x.at_row g')

        placed : Placed q args
        placed = rw same (g.lower r (row_here pool words chained x.at_row g') (mine_here pool words chained x.at_row g'))

        pub row_placed : RowPlaced args cs used
        row_placed = record {
          counted = record { placed = λ k l. omega (arith, placed.placed k l, g.passed.counted) };
          marked = record { placed = λ k l. omega (arith, placed.placed k l, g.passed.room, x.marked.long) };
        }

        module _ (used' : List ℕ) (m : MarkedToo (row_names cs args) used used') where
          pub turn_goes : (n' : ℕ) → AllMarked cs used' n' × (n' ≤ q) → Taking rows cs q old used' n' p'
          turn_goes n' s = taking_goes rows cs q old used used' n n' p r p' x g'.here (rw same at m) s.0 s.1 (link_next pool words chained x.at_row g')
