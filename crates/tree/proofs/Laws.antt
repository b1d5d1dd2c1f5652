-- The entries read so far, and what the entry at hand does. Assumes nothing.
use Rattle.std.specs.Prelude.{Result, Ok, Err, if◌then◌else◌}
use Prim.Native.Nat.{ℕ, suc, ◌+◌, ◌-◌, ◌<◌, ◌≤◌}
use mathlib.Core.Path.{◌≡◌, refl, sym, ap, ◌∙◌}
use mathlib.Core.Bool.{Bool, true, false, ◌&&◌, ◌||◌}
use mathlib.Core.List.{List, [], ◌∷◌}
use native.Mathlib.Omega.{arith}
use native.Mathlib.Numerals.{add-one}
use lib.ListN.{length, get_or, take}
use lib.Seq.{take-suc, take_all}
use lib.Dec.{eqb, ltb}
use borrow.Author.Tests.{lt-ltb, le-ltb}
use Rattle.model.specs.Answers.{Outcome, result, refused, refused_by}
use Rattle.model.specs.Tree.{WellFormed}
use Rattle.model.specs.Entries.{open_after, open_at, entry_ground, ends_too_soon, form_then, tree_then}
use Rattle.model.proofs.Choice.{no_fault, fault_refused, none_more}
use Rattle.model.proofs.Entries.{open_append, tree_then_back}
use Rattle.model.specs.declared.Refusal.{Refusal}
use Rattle.model.specs.declared.Kind.TheVariants.{TreeTooLong}
use Rattle.tree.specs.Reading.{fresh, not_a_tree, step_of, read_on, end_of, form_check_then, Decides}
use Rattle.tree.specs.declared.Reading.{Reading}
use Rattle.tree.specs.declared.Step.TheVariants.{Opens, Closes}

-- the state after i entries, none of which was refused
pub record Read (tree : List ℕ) (s : Reading) (i : ℕ) : Type 0 where
  pub few : length tree ≤ 4096
  pub within : i ≤ length tree
  pub depth_is : s.depth ≡ open_at tree i
  pub shallow : s.depth ≤ i
  pub place_is : s.place ≡ i
  pub sound : (j : ℕ) → j < i → entry_ground tree j ≡ 0

-- the three grounds of 13, together
abbrev pub refusing : Reading → ℕ → Bool
refusing s e = ltb 255 e || (eqb e 0 && eqb s.depth 0) || (ltb 0 s.place && eqb s.depth 0)

-- how a step comes about
taken : (t : Bool) (f : Refusal) (x y : Reading) → (if t then Err f else Ok y) ≡ Ok x → (t ≡ false) × (x ≡ y)
taken true f x y e = cc
taken false f x y e = (refl, cc)

refuses_by : (t : Bool) (f g : Refusal) (y : Reading) → (if t then Err f else Ok y) ≡ Err g → (t ≡ true) × (g ≡ f)
refuses_by true f g y e = (refl, cc)
refuses_by false f g y e = cc

pub opens_so : (z : Bool) → Opens ≡ (if z then Closes else Opens) → z ≡ false
opens_so true e = cc
opens_so false e = refl

pub closes_so : (z : Bool) → Closes ≡ (if z then Closes else Opens) → z ≡ true
closes_so true e = refl
closes_so false e = cc

-- nodes open after one entry more
pub open_next : (tree : List ℕ) (i : ℕ) → i < length tree → open_at tree (i + 1) ≡ (if eqb (get_or tree i 0) 0 then open_at tree i - 1 else suc (open_at tree i))
unfolding open_after
open_next tree i l = rw (add-one i, take-suc tree i 0 l) (open_append 0 (take i tree) (get_or tree i 0 ∷ []))

module _ {tree : List ℕ} {s : Reading} {i : ℕ} (r : Read tree s i) (l : i < length tree) where
  -- 13 holds of the entry just where it is refused
  ground_is : entry_ground tree i ≡ (if refusing s (get_or tree i 0) then 13 else 0)
  unfolding entry_ground
  ground_is = rw (r.depth_is, r.place_is)

  -- an entry that is not refused is read
  went : (n : Reading) (z : Bool) → refusing s (get_or tree i 0) ≡ false → eqb (get_or tree i 0) 0 ≡ z
      → n.depth ≡ (if z then s.depth - 1 else s.depth + 1) → n.place ≡ s.place + 1 → Read tree n (i + 1)
  went n z t e d b = record {
    few = r.few;
    within = omega arith;
    depth_is = d ∙ deep z r.depth_is ∙ sym (rw e at (open_next tree i l));
    shallow = rw d (low z);
    place_is = b ∙ ap (λ (x : ℕ). x + 1) r.place_is;
    sound = none_more i (entry_ground tree) r.sound (rw t at ground_is);
  }
    where
      deep : (z : Bool) → s.depth ≡ open_at tree i → (if z then s.depth - 1 else s.depth + 1) ≡ (if z then open_at tree i - 1 else suc (open_at tree i))
      deep true e = ap (λ (x : ℕ). x - 1) e
      deep false e = rw e (add-one (open_at tree i))

      low : (z : Bool) → (if z then s.depth - 1 else s.depth + 1) ≤ i + 1
      low true = omega (arith, r.shallow)
      low false = omega (arith, r.shallow)

  pub went_on : (n : Reading) → step_of s (get_or tree i 0) ≡ Ok n → Read tree n (i + 1)
  unfolding step_of
  went_on n e = let t = taken (refusing s (get_or tree i 0)) _ n _ e in rw t.1 (by (eqb (get_or tree i 0) 0) t.0 refl)
    where
      by : (z : Bool) → refusing s (get_or tree i 0) ≡ false → eqb (get_or tree i 0) 0 ≡ z → Read tree (read_on s (if z then Closes else Opens)) (i + 1)
      by true t z = went _ true t z refl refl
      by false t z = went _ false t z refl refl

  -- the entry is refused: it is the place of 13
  pub refused_here : (f : Refusal) → step_of s (get_or tree i 0) ≡ Err f → (o : Outcome) → refused_by f ≡ tree_then tree o
  unfolding step_of tree_then form_then
  refused_here f e o =
      let t = refuses_by (refusing s (get_or tree i 0)) _ f _ e in
      let g : entry_ground tree i ≡ 13 = rw t.0 at ground_is in
      let long : ltb 4096 (length tree) ≡ false = le-ltb 4096 (length tree) r.few in
      ap refused_by t.1 ∙ ap (refused 13) r.place_is ∙ rw long (fault_refused (length tree) i 13 (entry_ground tree) _ l r.sound g (omega arith))

-- before the first entry
pub begins : (tree : List ℕ) (s : Reading) → length tree ≤ 4096 → s ≡ fresh → Read tree s 0
unfolding open_after
begins tree s l e = rw e (record { few = l; within = omega arith; depth_is = refl; shallow = omega arith; place_is = refl; sound = λ j m. absurd (omega arith) })

-- all entries are read: the root is closed, or the list ends too soon
module _ {tree : List ℕ} {s : Reading} {i : ℕ} (r : Read tree s i) (ge : length tree ≤ i) where
  full : i ≡ length tree
  full = omega (arith, r.within)

  depth_end : s.depth ≡ open_after 0 tree
  depth_end = r.depth_is ∙ ap (λ (xs : List ℕ). open_after 0 xs) (take_all i tree ge)

  after : (o : Outcome) → tree_then tree o ≡ (if ends_too_soon tree then refused 13 (length tree) else o)
  unfolding tree_then form_then
  after o =
      let long : ltb 4096 (length tree) ≡ false = le-ltb 4096 (length tree) r.few in
      let all : (j : ℕ) → j < length tree → entry_ground tree j ≡ 0 = λ j m. r.sound j (omega (arith, full)) in
      rw long (no_fault (length tree) (entry_ground tree) (if ends_too_soon tree then refused 13 (length tree) else o) all)

  place_end : s.place ≡ length tree
  place_end = r.place_is ∙ full

  -- so the answer after the last entry decides 12 and 13
  pub ended : (f : Result (Unit {0}) Refusal) → f ≡ end_of s → Decides tree f
  unfolding end_of ends_too_soon
  ended f e = record {
    decided = λ o. ap (λ (g : Result (Unit {0}) Refusal). form_check_then g o) e ∙ told (eqb s.place 0 || ltb 0 s.depth) o ∙ rw (place_end, depth_end) (sym (after o));
  }
    where
      told : (b : Bool) (o : Outcome) → form_check_then (if b then Err (not_a_tree s.place) else Ok tt) o ≡ (if b then refused 13 s.place else o)
      told true o = refl
      told false o = refl

-- more than 4,096 entries
pub too_long : (tree : List ℕ) (f : Refusal) → 4096 < length tree → f ≡ record { place = 0; kind = TreeTooLong } → Decides tree (Err f)
unfolding tree_then
too_long tree f l e = record { decided = λ o. rw (lt-ltb 4096 (length tree) l) (ap refused_by e) }

-- what the answer says: 12 or 13, or a tree of at most 4,096 entries
module _ {tree : List ℕ} {f : Result (Unit {0}) Refusal} (d : Decides tree f) where
  pub list_refused : (r : Refusal) → f ≡ Err r → (o : Outcome) → refused_by r ≡ tree_then tree o
  list_refused r e o = rw e at (d.decided o)

  pub list_taken : f ≡ Ok tt → (o : Outcome) → o ≡ tree_then tree o
  list_taken e o = rw e at (d.decided o)

  pub list_well : f ≡ Ok tt → WellFormed tree × (length tree ≤ 4096)
  list_well e = let b = tree_then_back tree 0 (result 0) (sym (list_taken e (result 0))) in (b.0, b.1)
