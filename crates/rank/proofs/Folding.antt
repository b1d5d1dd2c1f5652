-- A node's value from those of its children. Assumes nothing.
use Rattle.std.specs.Prelude.{Some, None}
use Prim.Native.Nat.{ℕ, suc, ◌+◌, ◌*◌, ◌<◌, ◌≤◌, pred}
use mathlib.Core.Path.{◌≡◌, refl, sym, ap, ◌∙◌}
use mathlib.Core.List.{List, [], ◌∷◌, map}
use native.Mathlib.Omega.{arith}
use mathlib.Core.Logic.{◌⊎◌, inl, inr}
use native.Mathlib.Nat.{le-mul_of_pos_right, pos_of_ne-zero}
use lib.ListN.{length, get_or}
use borrow.Author.Tests.{eq-eqb, ne_eqb}
use Rattle.model.specs.Table.{Row, row_is}
use Rattle.model.specs.Count.{product}
use Rattle.model.specs.Value.{horner}
use Rattle.model.specs.Check.{count_limit}
use Rattle.model.proofs.Values.{ValuesBelow, none_below, also_below, below_length, horner_from, horner_less}
use Rattle.chains.proofs.First.{first_is}
use Rattle.rows.specs.Words.{row_no, rows_in, target_in}
use Rattle.rows.proofs.Words.{rows_long, row_held_lem}
use Rattle.index.specs.Index.{row_found}
use Rattle.counts.specs.Chain.{target}
use Rattle.counts.specs.States.{held}
use Rattle.rank.specs.Machine.{formed, node_of}
use Rattle.rank.specs.RankReady.{ValuesFit, Foldable, Formable, Closable}

-- ---- Horner's way, child by child

below_each : (c : ℕ → ℕ) (xs vs : List ℕ) → length vs ≡ length xs → ((k : ℕ) → k < length xs → get_or vs k 0 < c (get_or xs k 0)) → ValuesBelow c xs vs
below_each c [] [] e h = none_below
below_each c [] (v ∷ vs) e h = absurd (omega arith)
below_each c (x ∷ xs) [] e h = absurd (omega arith)
below_each c (x ∷ xs) (v ∷ vs) e h = also_below (h 0 (omega arith)) (below_each c xs vs (ap pred e) (λ k l. h (suc k) (omega arith)))

pub valued_below : {cs xs vs : List ℕ} → ValuesFit cs xs vs → ValuesBelow (held cs) xs vs
valued_below {cs} {xs} {vs} v = below_each (held cs) xs vs v.many v.below

-- what is found so far is no more than what is found in the end
horner_least : {c : ℕ → ℕ} {xs vs : List ℕ} (h : ℕ) → ValuesBelow c xs vs → h ≤ horner c h xs vs
horner_least {c} {xs} {vs} h b =
    let less = horner_less b in
    let l : h ≤ h * product (map c xs) = le-mul_of_pos_right h (omega arith) in
    omega (arith, horner_from c h xs vs (below_length b))

-- the children that are left, with their values, make of h what all make of 0
pub record Folding (cs xs vs : List ℕ) (h : ℕ) (ys ws : List ℕ) : Type 0 where
  pub valued : ValuesBelow (held cs) ys ws
  pub same : horner (held cs) h ys ws ≡ horner (held cs) 0 xs vs

pub fold_begins : {cs xs vs : List ℕ} → ValuesFit cs xs vs → Folding cs xs vs 0 xs vs
fold_begins v = record { valued = valued_below v; same = refl }

below_next : {c : ℕ → ℕ} {q v : ℕ} {qs vs : List ℕ} → ValuesBelow c (q ∷ qs) (v ∷ vs) → (v < c q) × ValuesBelow c qs vs
below_next (also_below l b) = (l, b)

-- the next child is taken in
module _ {cs xs vs : List ℕ} {h q v : ℕ} {ys ws ys' ws' : List ℕ} (f : Folding cs xs vs h ys ws) (e : (ys ≡ q ∷ ys') × (ws ≡ v ∷ ws')) where
  next : Folding cs xs vs h (q ∷ ys') (v ∷ ws')
  next = rw (e.0, e.1) at f

  pub fold_goes : (x : ℕ) → x ≡ q → Folding cs xs vs (h * held cs x + v) ys' ws'
  unfolding horner
  fold_goes x d = rw d (record { valued = (below_next next.valued).1; same = next.same })

  pub fold_fits : (x : ℕ) → x ≡ q → Foldable cs xs vs → h * held cs x + v ≤ count_limit
  fold_fits x d b = let g = fold_goes x d in omega (arith, horner_least (h * held cs x + v) g.valued, g.same, horner_less (valued_below b.valued), b.small)

pub fold_ends : {cs xs vs : List ℕ} {h : ℕ} (ys ws : List ℕ) → Folding cs xs vs h ys ws → (ys ≡ []) ⊎ (ws ≡ []) → h ≡ horner (held cs) 0 xs vs
unfolding horner
fold_ends [] ws f e = f.same
fold_ends (y ∷ ys) [] f e = f.same
fold_ends (y ∷ ys) (w ∷ ws) f (inl e) = cc
fold_ends (y ∷ ys) (w ∷ ws) f (inr e) = cc

-- ---- the row of a node

module _ (pool words : List ℕ) (s : ℕ) (xs : List ℕ) (k : ℕ) (found : row_found (rows_in pool words) s xs ≡ Some k) where
  pub found_inside : k < length words
  found_inside = rw (rows_long pool words) at (first_is (λ k. row_is (row_no (rows_in pool words) k) s xs) (length (rows_in pool words)) k found).0

  -- its target
  pub found_target : (q : ℕ) → q ≡ target_in (get_or words k 0) → q ≡ target (rows_in pool words) k
  found_target q e = e ∙ sym (ap (λ (r : Row). r.target) (row_held_lem pool words k found_inside))

  pub node_forms : (cs sums vs : List ℕ) → Closable (rows_in pool words) cs sums s xs vs → (q : ℕ) → q ≡ target_in (get_or words k 0) → Formable cs sums xs vs k q
  node_forms cs sums vs b q e = rw (found_target q e) (b k found)

  pub node_reaches : (cs sums vs : List ℕ) (q v : ℕ) → q ≡ target_in (get_or words k 0) → v ≡ formed cs sums xs vs k q
      → Some (q, v) ≡ node_of (rows_in pool words) cs sums s xs vs
  unfolding node_of
  node_reaches cs sums vs q v e d =
      let t = found_target q e in
      rw found (λ j. Some (t j, (d ∙ ap (formed cs sums xs vs k) t) j))

pub node_stuck : (rows : List Row) (cs sums : List ℕ) (s : ℕ) (xs vs : List ℕ) → row_found rows s xs ≡ None → None ≡ node_of rows cs sums s xs vs
unfolding node_of
node_stuck rows cs sums s xs vs e = rw e

-- ---- the value in a state

module _ (cs sums xs vs : List ℕ) (k q : ℕ) where
  -- none is formed in a state that counts 0
  pub unformed : held cs q ≡ 0 → 0 ≡ formed cs sums xs vs k q
  unfolding formed
  unformed z = rw (eq-eqb (held cs q) 0 z)

  pub formed_is : (held cs q ≡ 0 → ⊥) → (h : ℕ) → h ≡ horner (held cs) 0 xs vs → h + get_or sums k 0 ≡ formed cs sums xs vs k q
  unfolding formed
  formed_is n h e = rw (ne_eqb (held cs q) 0 n, e)

  module _ (b : Formable cs sums xs vs k q) (n : held cs q ≡ 0 → ⊥) where
    pub formable_fits : (h : ℕ) → h ≡ horner (held cs) 0 xs vs → h + get_or sums k 0 < count_limit
    formable_fits h e = let p = pos_of_ne-zero n in omega (arith, b.small p, horner_less (valued_below (b.valued p)))
