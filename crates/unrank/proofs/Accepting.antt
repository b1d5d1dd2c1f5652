-- The accepting state in which a number falls, by the sums. Assumes nothing.
use Prim.Native.Nat.{ℕ, ◌+◌, ◌-◌, ◌<◌, ◌≤◌}
use mathlib.Core.Path.{◌≡◌, sym, ap, ◌∙◌}
use mathlib.Core.List.{List, map}
use native.Mathlib.Omega.{arith}
use native.Mathlib.Numerals.{add-one}
use lib.ListN.{length, get_or, take, length-map}
use Rattle.model.specs.Count.{sum}
use Rattle.model.specs.Value.{Picked, find_by}
use Rattle.model.proofs.Counting.{get_d_map, sum_take_suc}
use Rattle.model.proofs.Values.{find_at, found}
use Rattle.counts.specs.States.{held}
use Rattle.unrank.specs.declared.Spot.{Spot}
use Rattle.unrank.specs.Trees.{ListReady, spot_of}

-- the entries before i are passed
pub record Seeking (accepting counts : List ℕ) (number i value : ℕ) : Type 0 where
  pub passed : sum (take i (map (held counts) accepting)) + value ≡ number

module _ {accepting counts : List ℕ} {number : ℕ} (x : ListReady accepting counts number) where
  abbrev ws : List ℕ
  ws = map (held counts) accepting

  -- the value that is left in the accepting state is below what the state counts
  pub spot_valued : (s : Spot) → s ≡ spot_of accepting counts number → s.value < held counts s.state
  spot_valued s e =
      let f = found ws number x.less in
      rw e (rw (get_d_map (held counts) accepting (find_by ws number).which 0 0 (rw (length-map accepting (held counts)) at f.inside)) at f.less)

  pub seek_begins : Seeking accepting counts number 0 number
  unfolding sum
  seek_begins = record { passed = omega arith }

  module _ {i value : ℕ} (s : Seeking accepting counts number i value) where
    module _ (l : i < length accepting) where
      abbrev q : ℕ
      q = get_or accepting i 0

      counts_here : get_or ws i 0 ≡ held counts q
      counts_here = get_d_map (held counts) accepting i 0 0 l

      pub seek_next : held counts q ≤ value → Seeking accepting counts number (i + 1) (value - held counts q)
      seek_next ge = record { passed = rw (add-one i) (omega (arith, s.passed, sum_take_suc ws i, counts_here)) }

      pub seek_ends : value < held counts q → ◌≡◌ {A = Spot} (record { state = q; value = value }) (spot_of accepting counts number)
      seek_ends less =
          let f = find_at ws number i (omega (arith, s.passed)) (omega (arith, s.passed, counts_here)) in
          let r : number - sum (take i ws) ≡ value = omega (arith, s.passed) in
          let p : find_by ws number ≡ record { which = i; rest = value } = f ∙ (λ j. record { which = i; rest = r j }) in
          sym (ap at p)
        where
          at : Picked → Spot
          at p = record { state = get_or accepting p.which 0; value = p.rest }
