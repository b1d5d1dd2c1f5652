-- The state looked for in the accepting list. Assumes nothing.
use Rattle.std.specs.Prelude.{if◌then◌else◌}
use Prim.Native.Nat.{ℕ, ◌+◌, ◌<◌, ◌≤◌}
use mathlib.Core.Path.{◌≡◌, refl, sym}
use mathlib.Core.List.{List, map}
use native.Mathlib.Omega.{arith}
use native.Mathlib.Decide.{dec_le}
use native.Mathlib.Nat.{lt_of_not-le}
use native.Mathlib.Numerals.{add-one}
use lib.ListN.{length, get_or, take}
use lib.Dec.{ltb}
use borrow.Author.Tests.{lt-ltb, le-ltb}
use borrow.Author.Count.{below_more}
use Rattle.model.specs.Answers.{result, refused}
use Rattle.model.specs.Reach.{entry_of}
use Rattle.model.specs.Count.{sum}
use Rattle.model.specs.Check.{count_limit}
use Rattle.model.proofs.Counting.{sum_take_suc, sum_take_le, get_d_map}
use Rattle.model.proofs.States.{entry_of_is, entry_of_first}
use Rattle.counts.specs.States.{held}
use Rattle.rank.specs.Machine.{numbered}
use Rattle.rank.specs.RankReady.{Summable}

-- the first i entries are not the state q, and their counts are added up
pub record Summing (accepting cs : List ℕ) (q earlier i : ℕ) : Type 0 where
  pub within : i ≤ length accepting
  pub others : (j : ℕ) → j < i → get_or accepting j 0 ≡ q → ⊥
  pub is : earlier ≡ sum (take i (map (held cs) accepting))

pub sum_begins : (accepting cs : List ℕ) (q : ℕ) → Summing accepting cs q 0 0
unfolding sum
sum_begins accepting cs q = record { within = omega arith; others = λ j l. absurd (omega arith); is = refl }

module _ {accepting cs : List ℕ} {q earlier i : ℕ} (s : Summing accepting cs q earlier i) where
  module _ (l : i < length accepting) where
    more_is : (x : ℕ) → x ≡ get_or accepting i 0 → earlier + held cs x ≡ sum (take (i + 1) (map (held cs) accepting))
    more_is x e = rw (add-one i, e) (omega (arith, s.is, sum_take_suc (map (held cs) accepting) i, get_d_map (held cs) accepting i 0 0 l))

    pub sum_goes : (x : ℕ) → x ≡ get_or accepting i 0 → (get_or accepting i 0 ≡ q → ⊥) → Summing accepting cs q (earlier + held cs x) (i + 1)
    sum_goes x e ne = record {
      within = omega arith;
      others = below_more (λ (j : ℕ). get_or accepting j 0 ≡ q → ⊥) i s.others ne;
      is = more_is x e;
    }

    pub sum_fits : {v : ℕ} → Summable accepting cs q v → (x : ℕ) → x ≡ get_or accepting i 0 → earlier + held cs x ≤ count_limit
    sum_fits b x e = omega (arith, more_is x e, sum_take_le (map (held cs) accepting) (i + 1), b.small)

    -- the state is listed here: the value is at most its count, so the number is at most the total
    pub number_fits : {v : ℕ} → Summable accepting cs q v → get_or accepting i 0 ≡ q → v + earlier ≤ count_limit
    number_fits b e = omega (arith, b.below, sum_fits b q (sym e))

    pub listed_here : get_or accepting i 0 ≡ q → (v place : ℕ) → result (v + earlier) ≡ numbered accepting cs q v place
    unfolding numbered
    listed_here e v place =
        let first = entry_of_first accepting q i e in
        let here : entry_of accepting q ≡ i = go first (dec_le i (entry_of accepting q)) in
        rw (here, lt-ltb i (length accepting) l, s.is)
      where
        go : entry_of accepting q ≤ i → Dec (i ≤ entry_of accepting q) → entry_of accepting q ≡ i
        go f (yes m) = omega arith
        go f (no m) = absurd (s.others (entry_of accepting q) (lt_of_not-le m) (entry_of_is accepting q (omega (arith, lt_of_not-le m))))

  -- the state is not listed
  pub not_listed : length accepting ≤ i → (v place : ℕ) → refused 14 place ≡ numbered accepting cs q v place
  unfolding numbered
  not_listed g v place = go (dec_le (length accepting) (entry_of accepting q))
    where
      go : Dec (length accepting ≤ entry_of accepting q)
          → refused 14 place ≡ (if ltb (entry_of accepting q) (length accepting) then result (v + sum (take (entry_of accepting q) (map (held cs) accepting))) else refused 14 place)
      go (yes m) = rw (le-ltb (entry_of accepting q) (length accepting) m)
      go (no m) = let l = lt_of_not-le m in absurd (s.others (entry_of accepting q) (omega arith) (entry_of_is accepting q l))
