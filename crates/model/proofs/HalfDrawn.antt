-- Request (c) changes the check only where it refused by 9 or 10 at an unused state, and values are formed in used states only.
use Rattle.std.specs.Prelude.{if◌then◌else◌}
use Prim.Native.Nat.{ℕ, ◌<◌}
use mathlib.Core.Path.{◌≡◌, refl, sym, ap, ◌∙◌}
use mathlib.Core.Bool.{Bool, true, false}
use mathlib.Core.Logic.{◌⊎◌, inl, inr}
use mathlib.Core.List.{List}
use native.Mathlib.Omega.{arith}
use native.Mathlib.Nat.{not-suc-le-zero}
use lib.ListN.{get_or}
use lib.Dec.{ltb}
use Rattle.model.specs.Answers.{Outcome, refused}
use Rattle.model.specs.Table.{Table, table_of}
use Rattle.model.specs.Tree.{Tree}
use Rattle.model.specs.Reach.{none, row, Reaches}
use Rattle.model.specs.Count.{count, longest}
use Rattle.model.specs.Value.{value_of}
use Rattle.model.specs.Used.{Used, is_used, formed_of}
use Rattle.model.specs.Check.{limit_ground, state_ground, lists_then, check_within, count_limit}
use Rattle.model.specs.Conserved.{SameAnswers}
use Rattle.model.specs.HalfDrawn.{check_all, Conservative, RefusedUnused, OldPlaces, ValuesInUsed}
use Rattle.model.proofs.Choice.{not_both, is_false, no_fault, first_fault, First, nowhere, first, first_of}
use Rattle.model.proofs.Good.{Good}
use Rattle.model.proofs.Counting.{count_counts}
use Rattle.model.proofs.Values.{value_below}
use Rattle.model.proofs.Checked.{ground_used, ground_clear, sound_good, passes_just, checked_good}
use Rattle.model.proofs.Used.{used_exactly}
use Rattle.model.proofs.Conserved.{Lists, decide, pass, lists, same_answers}
use Rattle.model.proofs.UsedValues.{one, values_formed, formed_row, formed_unused, accepted_formed, tree_used}

-- ---- the check

-- the ground is 9 or 10
ground_number : (limit : ℕ) (T : Table) (q : ℕ) → 0 < limit_ground limit T q → (limit_ground limit T q ≡ 9) ⊎ (limit_ground limit T q ≡ 10)
unfolding limit_ground
ground_number limit T q = go (ltb limit (count T q)) (ltb 4096 (longest T q))
  where
    go : (b d : Bool) → 0 < (if b then 9 else if d then 10 else 0)
        → (◌≡◌ {A = ℕ} (if b then 9 else if d then 10 else 0) 9) ⊎ (◌≡◌ {A = ℕ} (if b then 9 else if d then 10 else 0) 10)
    go true d p = inl refl
    go false true p = inr refl
    go false false p = absurd (not-suc-le-zero p)

pub old_places : OldPlaces
unfolding check_within check_all
old_places limit states rows accepting = go (lists states rows accepting)
  where
    T : Table
    T = table_of states rows accepting

    Either : Type 0
    Either = (check_within limit states rows accepting ≡ check_all limit states rows accepting) ⊎ RefusedUnused limit states rows accepting

    at : Good T → ((o : Outcome) → lists_then states rows accepting o ≡ o) → First states (limit_ground limit T) → Either
    at good h (nowhere c) =
        inl
        (ap (lists_then states rows accepting)
        (no_fault states (state_ground limit T) _ (λ q l. ground_clear limit T q (c q l)) ∙ sym (no_fault states (limit_ground limit T) _ c)))
    at good h (first q l b g) = by (is_used T q) refl
      where
        by : (u : Bool) → is_used T q ≡ u → Either
        by true u =
            let e = ground_used limit T q u in
            inl
            (ap (lists_then states rows accepting)
            (first_fault states q (state_ground limit T) _ l (λ j m. ground_clear limit T j (b j m)) (rw e g)
            ∙ ap (λ (k : ℕ). refused k q) e ∙ sym (first_fault states q (limit_ground limit T) _ l b g)))
        by false u =
            inr
            (record {
              number = limit_ground limit T q;
              place = q;
              refuses = h _ ∙ first_fault states q (limit_ground limit T) _ l b g;
              nine_or_ten = ground_number limit T q g;
              unused = λ x. not_both (is_used T q) ((used_exactly T good q).1 x) u;
            })

    go : Lists states rows accepting → Either
    go (decide h) = inl (h _ _)
    go (pass c d h) = at (sound_good states rows accepting c d) h (first_of states (limit_ground limit T))

pub conservative : Conservative
conservative limit states rows accepting n e = go (old_places limit states rows accepting)
  where
    go : (check_within limit states rows accepting ≡ check_all limit states rows accepting) ⊎ RefusedUnused limit states rows accepting → SameAnswers (check_all limit) (check_within limit) states rows accepting
    go (inl s) = same_answers (check_all limit) (check_within limit) states rows accepting s
    go (inr r) = let f = sym e ∙ r.refuses in let z : ◌≡◌ {A = ℕ} 0 1 = cc in absurd (omega arith)

-- ---- values

module _ (T : Table) (good : Good T) where
  pub formed_value_lem : (t : Tree) (q : ℕ) → Reaches T.rows t q → Used T q → (formed_of T t ≡ value_of T (count T) t) × (formed_of T t < count T q)
  formed_value_lem t q r u =
      let e : formed_of T t ≡ value_of T (count T) t = ap (λ (vs : List ℕ). get_or vs 0 0) (values_formed T good r (one T q ((used_exactly T good q).1 u))) in
      let l : value_of T (count T) t < count T q = value_below T good.sound (count T) (count_counts T good.ordered) {t = t} r in
      (e, omega arith)

  pub formed_none : (t : Tree) (q : ℕ) → Reaches T.rows t q → (Used T q → ⊥) → formed_of T t ≡ 0
  formed_none t q (row {children = k} i w ks none) n =
      let u : is_used T q ≡ false = is_false (is_used T q) (λ e. n ((used_exactly T good q).0 e)) in
      ap (λ (vs : List ℕ). get_or vs 0 0) (formed_row T good _ w ks) ∙ formed_unused T good w u _

pub formed_in_used : ValuesInUsed
formed_in_used states rows accepting n p =
    let T = table_of states rows accepting in
    let good : Good T = checked_good count_limit states rows accepting ((passes_just states rows accepting n).0 p).0 in
    record {
      used = formed_value_lem T good;
      unused = formed_none T good;
      numbers = λ t a. accepted_formed T good a;
      trees = tree_used T good;
    }
