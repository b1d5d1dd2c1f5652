-- Used states held to the limits: what is left then is as documents 01 and 02 say. Assumes nothing.
use Rattle.std.specs.Prelude.{if◌then◌else◌, Result, Ok, Err}
use Rattle.std.specs.Result.{is_err}
use Prim.Native.Nat.{ℕ, ◌<◌, ◌≤◌, min}
use mathlib.Core.Path.{◌≡◌, refl, sym, ap, ◌∙◌}
use mathlib.Core.Bool.{Bool, true, false}
use mathlib.Core.List.{List}
use mathlib.Core.Logic.{◌⊎◌, inl, inr}
use native.Mathlib.Decide.{dec_le}
use native.Mathlib.Nat.{eq-zero-or-pos}
use native.Mathlib.Omega.{arith}
use lib.ListN.{length, get_or}
use lib.Dec.{ltb}
use Rattle.model.specs.declared.Refusal.{Refusal}
use Rattle.model.specs.Table.{Row, Table}
use Rattle.model.specs.Count.{count}
use Rattle.model.specs.Value.{earlier_rows}
use Rattle.model.specs.Check.{count_limit, limit_ground, state_ground}
use Rattle.model.specs.Used.{is_used, used_count}
use Rattle.model.proofs.Choice.{if_no, not_both}
use Rattle.model.proofs.Counting.{count_beyond}
use Rattle.model.proofs.Checked.{ground_used, ground_clear}
use Rattle.model.proofs.Used.{used_marks, used_beyond, listed_marked}
use Rattle.model.proofs.UsedKept.{kept_alike}
use Rattle.rows.specs.Words.{rows_in, afters, held_table}
use Rattle.rows.proofs.Words.{rows_long}
use Rattle.counts.specs.Chain.{target, Chained}
use Rattle.counts.specs.Marks.{top}
use Rattle.counts.specs.States.{held}
use Rattle.counts.specs.Prepared.{used_sum, used as used_left, whole}
use Rattle.counts.proofs.Prepared.{earlier_le}
use Rattle.counts.proofs.All.{count_same, longest_same, earlier_same}
use Rattle.used.specs.Marked.{is_set, PassReady, FoundUsed}
use Rattle.used.specs.Limits.{Measures, BeyondFrom, FaultFound, FirstUsed}
use Rattle.used.specs.Settled.{ClearReady, Cleared, SettleReady, Settled}
use Rattle.used.proofs.Walk.{target_word}
use Rattle.used.proofs.Beyond.{ground_fine}

-- ---- what is held when used states are held to the limits

module _ {states : ℕ} {pool accepting words first cs ms : List ℕ} {used₀ : List ℕ} {ss : List ℕ} (g : SettleReady states pool accepting words first cs ms used₀ ss) where
  abbrev T : Table
  T = held_table states pool words accepting

  abbrev rows : List Row
  rows = rows_in pool words

  counted : (a : ℕ) → held cs a ≡ min (count T a) top
  counted a = g.kept.counts a ∙ ap (λ (n : ℕ). min n top) (count_same states rows accepting a)

  measures : Measures T ms
  measures = record {
    overs = λ a l. g.kept.overs a l ∙ ap (ltb top) (count_same states rows accepting a);
    longs = λ a l. g.kept.longs a l ∙ ap (λ (n : ℕ). min n 4097) (longest_same states rows accepting a);
  }

  pub pass_ready : PassReady states pool accepting words first cs used₀
  pass_ready = record {
    ordered = g.ordered;
    listed = g.listed;
    first_room = g.room.first_room;
    cs_room = g.room.cs_room;
    used_room = g.room.used_room;
    blank = g.blank;
    alike = λ a. ap (ltb 0) (counted a) ∙ kept_alike top (omega arith) (count T) a;
  }

  -- a count within the limit is held as it is
  exact : (a : ℕ) → count T a ≤ count_limit → held cs a ≡ count T a
  exact a l = omega (arith, counted a)

  fine_exact : (a : ℕ) → limit_ground count_limit T a ≡ 0 → held cs a ≡ count T a
  fine_exact a e = exact a (ground_fine T a e)

  -- ---- no state is beyond a limit, and nothing is prepared

  pub settled_none : (prepare : Bool) (r : Result (Unit {0}) Refusal) → prepare ≡ false → BeyondFrom states ms 0 r → is_err r ≡ false → Settled prepare states pool accepting words cs cs ss ss (Ok tt)
  settled_none prepare r low b e = record {
    cs_long = refl;
    sums_long = refl;
    fault = λ f h. let z : ◌≡◌ {A = ℕ} 0 1 = cc in absurd (omega arith);
    fine = λ e a l. ground_clear count_limit T a (all a l);
    listed = λ e i l. let s = g.listed.placed i l in fine_exact (get_or accepting i 0) (all (get_or accepting i 0) s);
    left = λ e. whole (record {
      counted = every;
      summed = λ k l. row_exact k l (g.ordered.known k l);
      fine = all;
    });
    prepared = λ y e. absurd (not_both prepare y low);
  }
    where
      none : (r : Result (Unit {0}) Refusal) → is_err r ≡ false → r ≡ Ok tt
      none (Ok u) e = refl
      none (Err f) e = cc

      all : (a : ℕ) → a < states → limit_ground count_limit T a ≡ 0
      all a l = b.none T refl measures (none r e) a (omega arith) l

      every : (a : ℕ) → held cs a ≡ count T a
      every a = go (dec_le states a)
        where
          go : Dec (states ≤ a) → held cs a ≡ count T a
          go (yes l) = exact a (omega (arith, count_beyond T a l))
          go (no l) = fine_exact a (all a (omega arith))

      row_exact : (k : ℕ) → k < length rows → target rows k < states → get_or ss k 0 ≡ earlier_rows rows (count T) (target rows k) k
      row_exact k l t =
          let a = g.kept.sums k l in
          let s = earlier_same states rows accepting (target rows k) k in
          let e = earlier_le T g.ordered.lower (target rows k) k t in
          let m = ground_fine T (target rows k) (all (target rows k) t) in
          omega (arith, a, s, e, m)

  -- ---- the used states are found

  module _ {used : List ℕ} (u : FoundUsed states pool accepting words used₀ used) where
    pub clear_ready : Chained (rows_in pool words) first (afters words) → ClearReady states words first used cs ss
    clear_ready ch = record {
      pool = pool;
      ordered = g.ordered;
      chained = ch;
      first_room = g.room.first_room;
      used_room = omega (arith, g.room.used_room, u.long);
      cs_room = g.room.cs_room;
      sums_room = g.room.sums_room;
    }

    module _ {r : Result (Unit {0}) Refusal} (f : FirstUsed states ms used r) where
      found : FaultFound states (state_ground count_limit T) r
      found = f.found T refl measures u.each

      -- one is beyond a limit
      pub settled_fault : (f' : Refusal) → r ≡ Err f' → Settled true states pool accepting words cs cs ss ss (Err f')
      settled_fault f' e = record {
        cs_long = refl;
        sums_long = refl;
        fault = λ f'' h. let y : f'' ≡ f' = cc in rw y (found.fault f' e);
        fine = λ h. let z : ◌≡◌ {A = ℕ} 0 1 = cc in absurd (omega arith);
        listed = λ h. let z : ◌≡◌ {A = ℕ} 0 1 = cc in absurd (omega arith);
        left = λ h. let z : ◌≡◌ {A = ℕ} 0 1 = cc in absurd (omega arith);
        prepared = λ y h. let z : ◌≡◌ {A = ℕ} 0 1 = cc in absurd (omega arith);
      }

      -- none is, and the unused ones are cleared
      module _ (none : r ≡ Ok tt) {cs' ss' : List ℕ} (c : Cleared states words used cs cs' ss ss') where
        used_exact : (a : ℕ) → a < states → is_used T a ≡ true → (count T a ≤ count_limit) × (held cs a ≡ count T a)
        used_exact a l e =
            let z : limit_ground count_limit T a ≡ 0 = sym (ground_used count_limit T a e) ∙ found.fine none a l in
            (ground_fine T a z, fine_exact a z)

        kept : (a : ℕ) → a < states → held cs' a ≡ (if is_used T a then held cs a else 0)
        kept a l = c.counts a l ∙ ap (λ (b : Bool). if b then held cs a else 0) (u.each a)

        state_count : (a : ℕ) → a < states → held cs' a ≡ used_count T a
        unfolding used_count
        state_count a l = kept a l ∙ go (is_used T a) (used_exact a l)
          where
            go : (b : Bool) → (b ≡ true → (count T a ≤ count_limit) × (held cs a ≡ count T a)) → (if b then held cs a else 0) ≡ (if b then count T a else 0)
            go true y = (y refl).1
            go false y = refl

        other_count : (a : ℕ) → states ≤ a → held cs' a ≡ used_count T a
        unfolding used_count
        other_count a l =
            let z = count_beyond T a l in
            let e : held cs a ≡ 0 = omega (arith, counted a, z) in
            c.beyond a l ∙ e ∙ sym (if_no (is_used T a) (count T a) 0 (used_beyond T a l))

        counts : (a : ℕ) → held cs' a ≡ used_count T a
        counts a = go (dec_le states a)
          where
            go : Dec (states ≤ a) → held cs' a ≡ used_count T a
            go (yes l) = other_count a l
            go (no l) = state_count a (omega arith)

        sums : (k : ℕ) → k < length rows → get_or ss' k 0 ≡ used_sum T k
        unfolding used_sum
        sums k l =
            let i : k < length words = rw (rows_long pool words) at l in
            c.sums k i ∙ ap (λ (q : ℕ). if is_set used q then get_or ss k 0 else 0) (sym (target_word pool words k i))
            ∙ ap (λ (b : Bool). if b then get_or ss k 0 else 0) (u.each (target rows k))
            ∙ go (is_used T (target rows k)) (used_exact (target rows k) (g.ordered.known k l))
          where
            go : (b : Bool) → (b ≡ true → (count T (target rows k) ≤ count_limit) × (held cs (target rows k) ≡ count T (target rows k)))
                → (if b then get_or ss k 0 else 0) ≡ (if b then earlier_rows rows (count T) (target rows k) k else 0)
            go true y =
                let a = g.kept.sums k l in
                let s = earlier_same states rows accepting (target rows k) k in
                let e = earlier_le T g.ordered.lower (target rows k) k (g.ordered.known k l) in
                let m = (y refl).0 in
                omega (arith, a, s, e, m)
            go false y = refl

        listed : (i : ℕ) → i < length accepting → held cs' (get_or accepting i 0) ≡ count T (get_or accepting i 0)
        listed i l =
            let q = get_or accepting i 0 in
            let s = g.listed.placed i l in
            kept q s ∙ go (is_used T q) refl (eq-zero-or-pos (count T q)) (used_exact q s) (listed_marked T (count T) (is_used T) (used_marks T g.ordered.lower) i l s)
          where
            go : (b : Bool) → is_used T (get_or accepting i 0) ≡ b → (count T (get_or accepting i 0) ≡ 0) ⊎ (0 < count T (get_or accepting i 0))
                → (is_used T (get_or accepting i 0) ≡ true → (count T (get_or accepting i 0) ≤ count_limit) × (held cs (get_or accepting i 0) ≡ count T (get_or accepting i 0)))
                → (0 < count T (get_or accepting i 0) → is_used T (get_or accepting i 0) ≡ true)
                → (if b then held cs (get_or accepting i 0) else 0) ≡ count T (get_or accepting i 0)
            go true e n x y = (x e).1
            go false e (inl z) x y = sym z
            go false e (inr p) x y = absurd (not_both (is_used T (get_or accepting i 0)) (y p) e)

        pub settled_clear : Settled true states pool accepting words cs cs' ss ss' (Ok tt)
        settled_clear = record {
          cs_long = c.cs_long;
          sums_long = c.sums_long;
          fault = λ r e. let z : ◌≡◌ {A = ℕ} 0 1 = cc in absurd (omega arith);
          fine = λ e. found.fine none;
          listed = λ e. listed;
          left = λ e. used_left (record { counted = counts; summed = sums });
          prepared = λ y e. record { counted = counts; summed = sums };
        }
