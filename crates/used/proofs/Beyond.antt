-- The first state, and the first used one, that is beyond a limit. Assumes nothing.
use Rattle.std.specs.Prelude.{if◌then◌else◌, Result, Ok, Err}
use Prim.Native.Nat.{ℕ, ◌+◌, ◌<◌, ◌≤◌}
use mathlib.Core.Path.{◌≡◌, refl, sym, ap, ◌∙◌}
use mathlib.Core.Bool.{Bool, true, false}
use mathlib.Core.List.{List}
use native.Mathlib.Decide.{dec_le}
use native.Mathlib.Omega.{arith}
use lib.Dec.{ltb}
use borrow.Author.Tests.{lt-ltb, le-ltb, ltb-false}
use Rattle.model.specs.declared.Kind.{Kind}
use Rattle.model.specs.declared.Kind.TheVariants.{CountAboveLimit, LongestTreeAboveLimit}
use Rattle.model.specs.declared.Refusal.{Refusal}
use Rattle.model.specs.Answers.{kind_number}
use Rattle.model.specs.Table.{Table}
use Rattle.model.specs.Count.{count, longest}
use Rattle.model.specs.Check.{count_limit, limit_ground, state_ground}
use Rattle.model.specs.Used.{is_used}
use Rattle.model.proofs.Choice.{if_zero}
use Rattle.model.proofs.Checked.{ground_used, ground_unused, ground_clear}
use Rattle.chains.specs.First.{AllFine, FirstAt}
use Rattle.counts.specs.Marks.{long_in, over_in}
use Rattle.counts.specs.States.{held}
use Rattle.used.specs.Marked.{is_set}
use Rattle.used.specs.Limits.{limits_of, Measures, FineFrom, BeyondAt, BeyondFrom, FirstUsed}

-- ---- one state

abbrev ground_by : (a b : Bool) → ℕ
ground_by a b = if a then 9 else if b then 10 else 0

-- the ground by a mark
abbrev mark_ground : ℕ → ℕ
mark_ground mark = ground_by (over_in mark) (ltb 4096 (long_in mark))

abbrev by_tests : (q : ℕ) (a b : Bool) → Result (Unit {0}) Refusal
by_tests q a b = if a then Err (record { place = q; kind = CountAboveLimit }) else if b then Err (record { place = q; kind = LongestTreeAboveLimit }) else Ok tt

limits_are : (q mark : ℕ) (f : Refusal) → limits_of q mark ≡ Err f → (f.place ≡ q) × (mark_ground mark ≡ kind_number f.kind)
limits_are q mark f = go (over_in mark) (ltb 4096 (long_in mark))
  where
    told : (k : Kind) → ◌≡◌ {A = Result (Unit {0}) Refusal} (Err (record { place = q; kind = k })) (Err f) → (f.place ≡ q) × (kind_number k ≡ kind_number f.kind)
    told k e = let y : f ≡ record { place = q; kind = k } = cc in (ap (λ (r : Refusal). r.place) y, sym (ap (λ (r : Refusal). kind_number r.kind) y))

    go : (a b : Bool) → by_tests q a b ≡ Err f → (f.place ≡ q) × (ground_by a b ≡ kind_number f.kind)
    go true b e = told CountAboveLimit e
    go false true e = told LongestTreeAboveLimit e
    go false false e = let z : ◌≡◌ {A = ℕ} 0 1 = cc in absurd (omega arith)

limits_none : (q mark : ℕ) → limits_of q mark ≡ Ok tt → mark_ground mark ≡ 0
limits_none q mark = go (over_in mark) (ltb 4096 (long_in mark))
  where
    go : (a b : Bool) → by_tests q a b ≡ Ok tt → ground_by a b ≡ 0
    go true b e = let z : ◌≡◌ {A = ℕ} 0 1 = cc in absurd (omega arith)
    go false true e = let z : ◌≡◌ {A = ℕ} 0 1 = cc in absurd (omega arith)
    go false false e = refl

-- is the state's ground: the limit is the largest count that is held as it is
module _ (T : Table) (ms : List ℕ) (m : Measures T ms) (a : ℕ) (l : a < T.states) where
  above_same : ltb count_limit (count T a) ≡ over_in (held ms a)
  above_same = sym (m.overs a l)

  long_same : ltb 4096 (longest T a) ≡ ltb 4096 (long_in (held ms a))
  long_same = go (dec_le (longest T a) 4096)
    where
      go : Dec (longest T a ≤ 4096) → ltb 4096 (longest T a) ≡ ltb 4096 (long_in (held ms a))
      go (yes h) = le-ltb 4096 (longest T a) h ∙ sym (le-ltb 4096 (long_in (held ms a)) (rw (m.longs a l) (omega arith)))
      go (no h) = let k : 4096 < longest T a = omega arith in lt-ltb 4096 (longest T a) k ∙ sym (lt-ltb 4096 (long_in (held ms a)) (rw (m.longs a l) (omega arith)))

  ground_held : limit_ground count_limit T a ≡ mark_ground (held ms a)
  unfolding limit_ground
  ground_held = rw (above_same, long_same)

-- within the limits the count is
pub ground_fine : (T : Table) (a : ℕ) → limit_ground count_limit T a ≡ 0 → count T a ≤ count_limit
unfolding limit_ground
ground_fine T a e = ltb-false count_limit (count T a) (if_zero (ltb count_limit (count T a)) 8 _ e).0

-- ---- the states in turn

-- the states from one on and before q are within the limits
pub record Looking (ms : List ℕ) (from q : ℕ) : Type 0 where
  pub after : from ≤ q
  pub fine : (a : ℕ) → from ≤ a → a < q → mark_ground (held ms a) ≡ 0

module _ (states : ℕ) (ms : List ℕ) (from : ℕ) where
  module _ {q : ℕ} (x : Looking ms from q) where
    fine_there : (T : Table) → T.states ≡ states → Measures T ms → (n : ℕ) → n ≤ q → n ≤ states → FineFrom T from n
    fine_there T e m n le i a h l = ground_held T ms m a (omega arith) ∙ x.fine a h (omega arith)

    module _ (l : q < states) where
      pub looking_stops : (f : Refusal) → limits_of q (held ms q) ≡ Err f → BeyondFrom states ms from (Err f)
      looking_stops f e = record {
        inside = λ f' h. let y : f ≡ f' = cc in rw (← y, here.0) (x.after, l);
        at = λ T s m f' h. let y : f ≡ f' = cc in rw (← y) (there T s m);
        none = λ T s m h. let z : ◌≡◌ {A = ℕ} 0 1 = cc in absurd (omega arith);
      }
        where
          here : (f.place ≡ q) × (mark_ground (held ms q) ≡ kind_number f.kind)
          here = limits_are q (held ms q) f e

          there : (T : Table) → T.states ≡ states → Measures T ms → BeyondAt T from f.place (kind_number f.kind)
          there T s m = rw here.0 (record { after = x.after; inside = omega arith; before = fine_there T s m q (omega arith) (omega arith); here = ground_held T ms m q (omega arith) ∙ here.1 })

      pub looking_goes : limits_of q (held ms q) ≡ Ok tt → Looking ms from (q + 1)
      looking_goes e = record { after = omega (arith, x.after); fine = λ a h l. go a h l (dec_le q a) }
        where
          go : (a : ℕ) → from ≤ a → a < q + 1 → Dec (q ≤ a) → mark_ground (held ms a) ≡ 0
          go a h l (yes y) = let i : a ≡ q = omega arith in rw i (limits_none q (held ms q) e)
          go a h l (no y) = x.fine a h (omega arith)

    pub looking_ends : states ≤ q → BeyondFrom states ms from (Ok tt)
    looking_ends le = record {
      inside = λ f h. let z : ◌≡◌ {A = ℕ} 0 1 = cc in absurd (omega arith);
      at = λ T s m f h. let z : ◌≡◌ {A = ℕ} 0 1 = cc in absurd (omega arith);
      none = λ T s m h. fine_there T s m states le (omega arith);
    }

-- ---- the used states in turn

-- no used state before q is beyond a limit
pub record NoneBefore (states : ℕ) (ms : List ℕ) (used : List ℕ) (q : ℕ) : Type 0 where
  pub fine : (T : Table) → T.states ≡ states → Measures T ms → ((a : ℕ) → is_set used a ≡ is_used T a) → AllFine q (state_ground count_limit T)

module _ (states : ℕ) (ms : List ℕ) (used : List ℕ) where
  pub none_begins : NoneBefore states ms used 0
  none_begins = record { fine = λ T s m u a l. absurd (omega arith) }

  module _ {q : ℕ} (x : NoneBefore states ms used q) where
    -- a state that is unused, or within the limits
    more : ((T : Table) → T.states ≡ states → Measures T ms → is_set used q ≡ is_used T q → state_ground count_limit T q ≡ 0) → NoneBefore states ms used (q + 1)
    more here = record { fine = λ T s m u a l. go T s m u a l (dec_le q a) }
      where
        go : (T : Table) → T.states ≡ states → Measures T ms → ((a : ℕ) → is_set used a ≡ is_used T a) → (a : ℕ) → a < q + 1 → Dec (q ≤ a) → state_ground count_limit T a ≡ 0
        go T s m u a l (yes y) = let i : a ≡ q = omega arith in rw i (here T s m (u q))
        go T s m u a l (no y) = x.fine T s m u a (omega arith)

    pub none_skips : is_set used q ≡ false → NoneBefore states ms used (q + 1)
    none_skips n = more (λ T s m u. ground_unused count_limit T q (sym u ∙ n))

    module _ (l : q < states) where
      pub none_goes : limits_of q (held ms q) ≡ Ok tt → NoneBefore states ms used (q + 1)
      none_goes e = more (λ T s m u. ground_clear count_limit T q (ground_held T ms m q (omega arith) ∙ limits_none q (held ms q) e))

      pub fault_there : is_set used q ≡ true → (f : Refusal) → limits_of q (held ms q) ≡ Err f → FirstUsed states ms used (Err f)
      fault_there y f e = record {
        found = λ T s m u. record {
          fault = λ f' h. let z : f ≡ f' = cc in rw (← z) (there T s m u);
          fine = λ h. let z : ◌≡◌ {A = ℕ} 0 1 = cc in absurd (omega arith);
        };
      }
        where
          here : (f.place ≡ q) × (mark_ground (held ms q) ≡ kind_number f.kind)
          here = limits_are q (held ms q) f e

          there : (T : Table) → T.states ≡ states → Measures T ms → ((a : ℕ) → is_set used a ≡ is_used T a) → FirstAt states (state_ground count_limit T) f.place (kind_number f.kind)
          there T s m u = rw here.0 (record { inside = l; before = x.fine T s m u; here = ground_used count_limit T q (sym (u q) ∙ y) ∙ ground_held T ms m q (omega arith) ∙ here.1 })

    pub fault_none : states ≤ q → FirstUsed states ms used (Ok tt)
    fault_none le = record {
      found = λ T s m u. record {
        fault = λ f h. let z : ◌≡◌ {A = ℕ} 0 1 = cc in absurd (omega arith);
        fine = λ h a l. x.fine T s m u a (omega arith);
      };
    }
