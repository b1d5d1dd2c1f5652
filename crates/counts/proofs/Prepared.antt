-- The counts of used states, and those of all states. Assumes nothing.
use Rattle.std.specs.Prelude.{if◌then◌else◌}
use Prim.Native.Nat.{ℕ, ◌≤◌, ◌<◌}
use mathlib.Core.Path.{◌≡◌, refl, sym, subst, ◌∙◌}
use mathlib.Core.Bool.{Bool, true, false}
use mathlib.Core.Logic.{◌⊎◌, inl, inr}
use mathlib.Core.List.{List, map}
use native.Mathlib.Omega.{arith}
use native.Mathlib.Decide.{dec_le}
use native.Mathlib.Nat.{eq-zero-or-pos, lt_of_not-le}
use lib.ListN.{length, get_or}
use Rattle.model.specs.Table.{Table}
use Rattle.model.specs.Count.{grow, weight, state_counts, count, longest}
use Rattle.model.specs.Value.{earlier_rows}
use Rattle.model.specs.Used.{is_used, used_count}
use Rattle.model.specs.Check.{count_limit}
use Rattle.model.proofs.Choice.{not_both}
use Rattle.model.proofs.Good.{Ordered, Good}
use Rattle.model.proofs.Counting.{grow_length, grow_eqn, sum_take_le, count_eqn, count_beyond}
use Rattle.model.proofs.Checked.{limit_good}
use Rattle.model.proofs.Used.{used_marks, used_beyond, listed_marked}
use Rattle.counts.specs.Chain.{target}
use Rattle.counts.specs.States.{held}
use Rattle.counts.specs.Prepared.{used_sum, UsedCounts, WholeCounts, every_listed}

-- what is held is the function of the model
pub as_counted : {T : Table} {cs sums : List ℕ} → UsedCounts T cs sums → held cs ≡ used_count T
as_counted u i a = u.counted a i

-- the sum before a row of a used target
pub sum_used : {T : Table} {cs sums : List ℕ} → UsedCounts T cs sums → (k : ℕ) → k < length T.rows → is_used T (target T.rows k) ≡ true
    → get_or sums k 0 ≡ earlier_rows T.rows (count T) (target T.rows k) k
unfolding used_sum
sum_used u k l e = u.summed k l ∙ rw e

-- ---- all states

pub as_whole : {T : Table} {cs sums : List ℕ} → WholeCounts T cs sums → held cs ≡ count T
as_whole w i a = w.counted a i

-- the rows before one of its rows count at most what the state counts
pub earlier_le : (T : Table) → Ordered T.rows → (q k : ℕ) → q < T.states → earlier_rows T.rows (count T) q k ≤ count T q
unfolding earlier_rows state_counts
earlier_le T o q k l = rw (count_eqn T o q l) (sum_take_le (map (weight (count T) q) T.rows) k)

-- entry i of the list of all states is i
all_listed : (n : ℕ) → length (grow (λ c q. q) n) ≡ n
all_listed n = grow_length (λ c q. q) n

listed_at_lem : (n i : ℕ) → i < n → get_or (grow (λ c q. q) n) i 0 ≡ i
listed_at_lem n i l = grow_eqn (λ c q. q) (λ c d q e. refl) n i l

pub every_good : (T : Table) → Good T → Good (every_listed T)
every_good T good = record {
  sound = record {
    symbols = good.sound.symbols;
    targets = good.sound.targets;
    args = good.sound.args;
    distinct = good.sound.distinct;
    listed = λ i l. let m : i < T.states = rw (all_listed T.states) at l in rw (listed_at_lem T.states i m) m;
    once = λ i j li lj e.
        sym (listed_at_lem T.states i (rw (all_listed T.states) at li)) ∙ e ∙ listed_at_lem T.states j (rw (all_listed T.states) at lj);
  };
  ordered = good.ordered;
}

module _ (T : Table) (o : Ordered T.rows) where
  -- the counts are the same, and each state that has trees is used
  same_count : (q : ℕ) → count (every_listed T) q ≡ count T q
  unfolding count
  same_count q = refl

  same_longest : (q : ℕ) → longest (every_listed T) q ≡ longest T q
  unfolding count longest
  same_longest q = refl

  same_earlier : (q k : ℕ) → earlier_rows T.rows (count (every_listed T)) q k ≡ earlier_rows T.rows (count T) q k
  unfolding count
  same_earlier q k = refl

  every_used : (a : ℕ) → a < T.states → 0 < count T a → is_used (every_listed T) a ≡ true
  every_used a l p =
      let e = listed_at_lem T.states a l in
      subst (λ (q : ℕ). is_used (every_listed T) q ≡ true) e
      (listed_marked (every_listed T) (count (every_listed T)) (is_used (every_listed T)) (used_marks (every_listed T) o) a (rw (all_listed T.states) l) (rw e l)
      (rw (e, same_count a) p))

  none_unused : (a : ℕ) → a < T.states → is_used (every_listed T) a ≡ false → count T a ≡ 0
  none_unused a l e = go (eq-zero-or-pos (count T a))
    where
      go : (count T a ≡ 0) ⊎ (0 < count T a) → count T a ≡ 0
      go (inl z) = z
      go (inr p) = absurd (not_both (is_used (every_listed T) a) (every_used a l p) e)

  whole_count : (a : ℕ) → count T a ≡ used_count (every_listed T) a
  unfolding used_count
  whole_count a = go (dec_le T.states a)
    where
      by : a < T.states → (b : Bool) → is_used (every_listed T) a ≡ b → count T a ≡ (if b then count (every_listed T) a else 0)
      by l true e = sym (same_count a)
      by l false e = none_unused a l e

      go : Dec (T.states ≤ a) → count T a ≡ (if is_used (every_listed T) a then count (every_listed T) a else 0)
      go (yes l) = rw (used_beyond (every_listed T) a l) (count_beyond T a l)
      go (no l) = by (lt_of_not-le l) (is_used (every_listed T) a) refl

  whole_sum : (k : ℕ) → target T.rows k < T.states → earlier_rows T.rows (count T) (target T.rows k) k ≡ used_sum (every_listed T) k
  unfolding used_sum
  whole_sum k l = go (is_used (every_listed T) (target T.rows k)) refl
    where
      go : (b : Bool) → is_used (every_listed T) (target T.rows k) ≡ b
          → earlier_rows T.rows (count T) (target T.rows k) k ≡ (if b then earlier_rows T.rows (count (every_listed T)) (target T.rows k) k else 0)
      go true e = sym (same_earlier (target T.rows k) k)
      go false e = omega (arith, none_unused (target T.rows k) l e, earlier_le T o (target T.rows k) k l)

-- what is left of all states is what is left of the used states of the table that lists them all
pub whole_used : (T : Table) → Good T → {cs sums : List ℕ} → WholeCounts T cs sums → UsedCounts (every_listed T) cs sums
whole_used T good w = record {
  counted = λ a. w.counted a ∙ whole_count T good.ordered a;
  summed = λ k l. w.summed k l ∙ whole_sum T good.ordered k (good.sound.targets k l);
}

-- and none of them has a tree above the limit
pub whole_short : (T : Table) → Good T → {cs sums : List ℕ} → WholeCounts T cs sums → (q : ℕ) → q < T.states → longest (every_listed T) q ≤ 4096
whole_short T good w q l = rw (same_longest T good.ordered q) (limit_good count_limit T q (w.fine q l)).1
