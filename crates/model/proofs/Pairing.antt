-- The pairing of accepted trees and numbers: a tree's number is below the total, it is how many accepted trees come before it, and the tree of a
-- number has that number.
use Prim.Native.Nat.{ℕ, ◌+◌, ◌<◌}
use mathlib.Core.Path.{◌≡◌, refl, ap, sym, ◌∙◌, subst}
use mathlib.Core.List.{List, map}
use native.Mathlib.Omega.{arith}
use lib.ListN.{length, get_or, take, length-map}
use Rattle.model.specs.Table.{Table}
use Rattle.model.specs.Tree.{Tree, only}
use Rattle.model.specs.Reach.{Reaches, Accepted, state_of, entry_of}
use Rattle.model.specs.Count.{sum, Counts}
use Rattle.model.specs.Value.{value_of, number_of, Picked, find_by, tree_in, tree_of}
use Rattle.model.specs.Order.{Earlier, listed_at, ComesFirst, Before, Exactly, ComeBefore}
use Rattle.model.specs.Order.ComesFirst.{state as by_state, within as by_tree}
use Rattle.model.proofs.Good.{Ordered, Sound}
use Rattle.model.proofs.Counting.{get_d_any, get_d_map, sum_place}
use Rattle.model.proofs.Exactly.{exactly}
use Rattle.model.proofs.States.{state_reaches, entry_of_is, entry_of_first}
use Rattle.model.proofs.Serial.{only_same}
use Rattle.model.proofs.Values.{Three, lt, eq, gt, three, sum_step, FindsAt, found, compare, value_below, value_rises, tree_valued}

-- ---- accepted trees and numbers, with any counts

-- the tree is accepted and has the number
pub record Numbers (T : Table) (c : ℕ → ℕ) (n : ℕ) (t : Tree) : Type 0 where
  pub accepted : Accepted T t
  pub number : number_of T c t ≡ n

module _ (T : Table) (sound : Sound T) where
  -- a listed state stands at one place
  pub entry_at : (i : ℕ) → i < length T.accepting → entry_of T.accepting (get_or T.accepting i 0) ≡ i
  entry_at i l =
      let m : entry_of T.accepting (get_or T.accepting i 0) < length T.accepting = omega (arith, entry_of_first T.accepting (get_or T.accepting i 0) i refl) in
      sound.once (entry_of T.accepting (get_or T.accepting i 0)) i m l (entry_of_is T.accepting (get_or T.accepting i 0) m)

  -- an accepted tree's state is listed at the entry that it is accepted by
  pub listed_at_lem : {t : Tree} (a : Accepted T t) → listed_at T t ≡ a.entry
  listed_at_lem a = ap (entry_of T.accepting) (state_reaches sound a.reaches) ∙ entry_at a.entry a.listed

  -- of two accepted trees one comes before the other, or they are the same
  pub trichotomy : {t u : Tree} → Accepted T t → Accepted T u → Three (ComesFirst T t u) (t ≡ u) (ComesFirst T u t)
  trichotomy {t} {u} a b = go (three a.entry b.entry)
    where
      reached : a.entry ≡ b.entry → Reaches T.rows t (get_or T.accepting b.entry 0)
      reached e = subst (λ (i : ℕ). Reaches T.rows t (get_or T.accepting i 0)) e a.reaches

      deep : state_of T t ≡ state_of T u → Three (Earlier T (only t) (only u)) (only t ≡ only u) (Earlier T (only u) (only t))
          → Three (ComesFirst T t u) (t ≡ u) (ComesFirst T u t)
      deep e (lt l) = lt (by_tree e l)
      deep e (gt l) = gt (by_tree (sym e) l)
      deep e (eq z) = eq (only_same z)

      go : Three (a.entry < b.entry) (a.entry ≡ b.entry) (b.entry < a.entry) → Three (ComesFirst T t u) (t ≡ u) (ComesFirst T u t)
      go (lt l) = let m : listed_at T t < listed_at T u = rw (listed_at_lem a, listed_at_lem b) l in lt (by_state m)
      go (gt l) = let m : listed_at T u < listed_at T t = rw (listed_at_lem a, listed_at_lem b) l in gt (by_state m)
      go (eq e) = deep (state_reaches sound (reached e) ∙ sym (state_reaches sound b.reaches)) (compare T sound (reached e) b.reaches)

  module _ (c : ℕ → ℕ) (counts : Counts T c) where
    -- the counts of the accepting states, in their order
    abbrev listed_counts : List ℕ
    listed_counts = map c T.accepting

    count_at : (i : ℕ) → i < length T.accepting → get_or listed_counts i 0 ≡ c (get_or T.accepting i 0)
    count_at i l = get_d_map c T.accepting i 0 0 l

    -- a tree's number, by the entry that it is accepted by
    pub number_is : {t : Tree} (a : Accepted T t) → number_of T c t ≡ value_of T c t + sum (take a.entry (map c T.accepting))
    unfolding number_of
    number_is {t} a = ap (λ (i : ℕ). value_of T c t + sum (take i listed_counts)) (listed_at_lem a)

    -- numbers are below the total
    pub number_below : {t : Tree} → Accepted T t → number_of T c t < sum (map c T.accepting)
    number_below a = omega (arith, number_is a, sum_place listed_counts a.entry, count_at a.entry a.listed, value_below T sound c counts a.reaches)

    -- the order implies a smaller number
    pub number_rises : {t u : Tree} → Accepted T t → Accepted T u → ComesFirst T t u → number_of T c t < number_of T c u
    number_rises a b (by_state l) =
        omega (
          arith,
          number_is a,
          number_is b,
          sum_step listed_counts a.entry b.entry (rw (listed_at_lem a, listed_at_lem b) at l),
          count_at a.entry a.listed,
          value_below T sound c counts a.reaches,
        )
    number_rises {t} {u} a b (by_tree e l) =
        let d : a.entry ≡ b.entry = sym (listed_at_lem a) ∙ ap (entry_of T.accepting) e ∙ listed_at_lem b in
        let m = value_rises T sound c counts l (subst (λ (i : ℕ). Reaches T.rows t (get_or T.accepting i 0)) d a.reaches) b.reaches in
        rw (number_is a, number_is b, d) (omega (arith, m))

    -- and a smaller number the order
    pub number_orders : {t u : Tree} → Accepted T t → Accepted T u → number_of T c t < number_of T c u → ComesFirst T t u
    number_orders {t} {u} a b l = go (trichotomy a b)
      where
        go : Three (ComesFirst T t u) (t ≡ u) (ComesFirst T u t) → ComesFirst T t u
        go (lt m) = m
        go (eq e) = absurd (omega (arith, ap (number_of T c) e))
        go (gt m) = let h = number_rises b a m in absurd (omega arith)

    -- different trees have different numbers
    pub number_same : {t u : Tree} → Accepted T t → Accepted T u → number_of T c t ≡ number_of T c u → t ≡ u
    number_same {t} {u} a b e = go (trichotomy a b)
      where
        go : Three (ComesFirst T t u) (t ≡ u) (ComesFirst T u t) → t ≡ u
        go (lt m) = let h = number_rises a b m in absurd (omega arith)
        go (eq p) = p
        go (gt m) = let h = number_rises b a m in absurd (omega arith)

    module _ (ordered : Ordered T.rows) where
      -- the tree of a number below the total
      pub tree_numbers : (n : ℕ) → n < sum (map c T.accepting) → Numbers T c n (tree_of T c n)
      unfolding tree_of
      tree_numbers n l = go (find_by listed_counts n) (found listed_counts n l)
        where
          go : (p : Picked) → FindsAt listed_counts n p → Numbers T c n (tree_in T.rows c T.states (get_or T.accepting p.which T.states) p.rest)
          go p f =
              let i : p.which < length T.accepting = rw (length-map T.accepting c) at f.inside in
              let q = sound.listed p.which i in
              let v = tree_valued T sound c counts ordered T.states (get_or T.accepting p.which 0) p.rest q q (rw (count_at p.which i) at f.less) in
              let a : Accepted T (tree_in T.rows c T.states (get_or T.accepting p.which 0) p.rest) = record { entry = p.which; listed = i; reaches = v.reaches } in
              rw (get_d_any T.accepting p.which T.states 0 i) (record { accepted = a; number = number_is a ∙ omega (arith, v.value, f.is) })

      -- the tree of an accepted tree's number is the tree
      pub tree_of_number : {t : Tree} → Accepted T t → tree_of T c (number_of T c t) ≡ t
      tree_of_number {t} a = let r = tree_numbers (number_of T c t) (number_below a) in number_same r.accepted a r.number

      -- exactly as many trees are accepted as the accepting states count together
      pub all_counted : Exactly (Accepted T) (sum (map c T.accepting))
      all_counted =
          exactly (tree_of T c) (number_of T c) (Accepted T) (sum (map c T.accepting))
          (λ i l. (tree_numbers i l).number) (λ i l. (tree_numbers i l).accepted) (λ t a. (number_below a, tree_of_number a))

      -- exactly as many accepted trees come before a tree as its number says
      pub before_counted : {t : Tree} → Accepted T t → ComeBefore T t (number_of T c t)
      before_counted {t} a =
          exactly (tree_of T c) (number_of T c) (λ u. Before T u t) (number_of T c t)
          (λ i l. (tree_numbers i (up i l)).number)
          (λ i l. let r = tree_numbers i (up i l) in record { first = r.accepted; second = a; comes = number_orders r.accepted a (rw r.number l) })
          (λ u b. (number_rises b.first a b.comes, tree_of_number b.first))
        where
          up : (i : ℕ) → i < number_of T c t → i < sum (map c T.accepting)
          up i l = omega (arith, number_below a)
