-- What the refusals 9, 10 and 11 say of trees, in tables that they turn away: how many trees reach a state, and how long the longest is.
use Rattle.std.specs.Prelude.{if◌then◌else◌}
use Prim.Native.Nat.{ℕ, zero, suc, ◌≤◌, ◌<◌}
use mathlib.Core.Path.{◌≡◌, refl, sym, subst}
use mathlib.Core.Bool.{Bool, true, false}
use mathlib.Core.List.{[], ◌∷◌}
use mathlib.Core.Logic.{◌⊎◌, inl, inr}
use native.Mathlib.Omega.{arith}
use native.Mathlib.Nat.{eq-zero-or-pos}
use lib.ListN.{length, get_or}
use lib.Dec.{ltb}
use borrow.Author.Tests.{ltb-true, ltb-false}
use Rattle.model.specs.Table.{Table}
use Rattle.model.specs.Tree.{Tree, serial}
use Rattle.model.specs.Reach.{Reaches, Accepted}
use Rattle.model.specs.Count.{sum, Counts, count, total, longest}
use Rattle.model.specs.Order.{Exactly}
use Rattle.model.specs.Used.{Used, is_used}
use Rattle.model.specs.Entries.{no_tree}
use Rattle.model.specs.Check.{limit_ground, state_ground, count_limit}
use Rattle.model.specs.Limits.{ReachedBy, WithinLimits, BeyondLimits, nine, ten}
use Rattle.model.proofs.Good.{Sound, Good}
use Rattle.model.proofs.Counting.{count_counts, total_is}
use Rattle.model.proofs.Checked.{state_good, ground_used, ground_unused}
use Rattle.model.proofs.Longest.{forest_most, longest_none, longest_tree}
use Rattle.model.proofs.Used.{used_exactly, used_state}
use Rattle.model.proofs.Exactly.{exactly_map}
use Rattle.model.proofs.Pairing.{all_counted}

-- ---- a state of a good table

module _ (T : Table) (good : Good T) where
  counts : Counts T (count T)
  counts = count_counts T good.ordered

  -- a state counts the trees that reach it
  pub state_counted : (q : ℕ) → q < T.states → ReachedBy T.rows q (count T q)
  unfolding sum
  state_counted q l =
      exactly_map (λ (t : Tree). t) no_tree (Accepted alone) (λ (t : Tree). Reaches T.rows t q) (count T q)
      (λ t u a b e. e)
      (λ t a. there t a.entry a.listed a.reaches)
      (λ t r. (t, record { entry = 0; listed = omega arith; reaches = r }, refl))
      (subst (Exactly (Accepted alone)) (omega arith) (all_counted alone alone_sound (count T) (record { state = counts.state }) good.ordered))
    where
      alone : Table
      alone = record { states = T.states; rows = T.rows; accepting = q ∷ [] }

      listed : (i : ℕ) → i < 1 → get_or (q ∷ []) i 0 < T.states
      listed zero m = l
      listed (suc i) m = absurd (omega arith)

      alone_sound : Sound alone
      alone_sound =
          record {
            symbols = good.sound.symbols;
            targets = good.sound.targets;
            args = good.sound.args;
            distinct = good.sound.distinct;
            listed = listed;
            once = λ i j li lj e. omega (arith, li, lj);
          }

      there : (t : Tree) (i : ℕ) → i < 1 → Reaches T.rows t (get_or (q ∷ []) i 0) → Reaches T.rows t q
      there t zero m r = r
      there t (suc i) m r = absurd (omega arith)

  -- no tree that reaches a state is longer than its longest
  pub tree_most : (t : Tree) (q : ℕ) → Reaches T.rows t q → length (serial t) ≤ longest T q
  unfolding serial sum
  tree_most t q r = omega (arith, forest_most T good r)

  pub within_limits : (q : ℕ) → Used T q → state_ground count_limit T q ≡ 0 → WithinLimits T q
  within_limits q h e =
      let u = (used_exactly T good q).1 h in
      let s = state_good count_limit T q u e in
      record { many = count T q; reached = state_counted q (used_state T q u); few = s.0; short = λ t r. omega (arith, tree_most t q r, s.1) }

  beyond_limit : (q : ℕ) → q < T.states → 0 < limit_ground count_limit T q → BeyondLimits T q (limit_ground count_limit T q)
  unfolding limit_ground
  beyond_limit q l = go (ltb count_limit (count T q)) (ltb 4096 (longest T q)) (ltb-true count_limit (count T q)) (ltb-false count_limit (count T q)) (ltb-true 4096 (longest T q))
    where
      long : count T q ≤ count_limit → 4096 < longest T q → (count T q ≡ 0) ⊎ (0 < count T q) → BeyondLimits T q 10
      long f m (inl z) = absurd (omega (arith, longest_none T good q z))
      long f m (inr p) =
          let t = longest_tree T good q l p in
          ten refl (count T q) (state_counted q l) f t.tree t.reaches (omega (arith, t.has))

      go : (b d : Bool) → (b ≡ true → count_limit < count T q) → (b ≡ false → count T q ≤ count_limit) → (d ≡ true → 4096 < longest T q)
          → 0 < (if b then 9 else if d then 10 else 0) → BeyondLimits T q (if b then 9 else if d then 10 else 0)
      go true d x y z p = nine refl (count T q) (state_counted q l) (x refl)
      go false true x y z p = long (y refl) (z refl) (eq-zero-or-pos (count T q))
      go false false x y z p = absurd (omega arith)

  pub beyond_limits : (q : ℕ) → q < T.states → 0 < state_ground count_limit T q → Used T q × BeyondLimits T q (state_ground count_limit T q)
  beyond_limits q l p = go (is_used T q) refl
    where
      go : (b : Bool) → is_used T q ≡ b → Used T q × BeyondLimits T q (state_ground count_limit T q)
      go true u =
          let e = ground_used count_limit T q u in
          ((used_exactly T good q).0 u, subst (BeyondLimits T q) (sym e) (beyond_limit q l (subst (λ (g : ℕ). 0 < g) e p)))
      go false u = absurd (omega (arith, ground_unused count_limit T q u))

  -- the total counts the accepted trees
  pub total_counted : Exactly (Accepted T) (total T)
  total_counted = subst (Exactly (Accepted T)) (sym (total_is T)) (all_counted T good.sound (count T) counts good.ordered)
