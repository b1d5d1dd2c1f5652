-- Laws of the chains: the walk along one, and one number more. Assumes nothing.
use Prim.Native.Nat.{ℕ, ◌+◌, ◌-◌, ◌<◌, ◌≤◌}
use mathlib.Core.Path.{◌≡◌, refl, sym, ◌∙◌}
use mathlib.Core.Bool.{Bool, true, false}
use mathlib.Core.List.{List}
use native.Mathlib.Omega.{arith}
use lib.ListN.{length, get_or, set, length-set}
use lib.Seq.{get_or-set_same, get_or-set_other}
use lib.Dec.{ltb, eqb}
use borrow.Author.Tests.{ltb-true, ltb-false, eqb-true, eqb-false}
use Rattle.std.specs.Prelude.{Some, None}
use Rattle.chains.specs.First.{first_with}
use Rattle.chains.specs.Chains.{Link, Chains, Clear}
use Rattle.chains.proofs.First.{none_first, first_at}

-- bucket b's chain is walked, to find the first number for which `sought` holds
module _ (bucket : ℕ → ℕ) (sought : ℕ → Bool) (b : ℕ) where
  -- `sought` holds for no number from p on, and p - 1 is in the bucket
  pub record Walk (n p : ℕ) : Type 0 where
    pub within : p ≤ n
    pub mine : 0 < p → bucket (p - 1) ≡ b
    pub past : (k : ℕ) → p ≤ k → k < n → sought k ≡ true → ⊥

  module _ {n : ℕ} (p : ℕ) (w : Walk n p) where
    -- a number for which `sought` holds is the first, where it holds for no earlier one
    pub walk_finds : 0 < p → sought (p - 1) ≡ true → ((k : ℕ) → k < p - 1 → sought k ≡ true → ⊥) → Some (p - 1) ≡ first_with sought n
    walk_finds pos t earlier = sym (first_at sought n (p - 1) (omega (arith, w.within)) t earlier)

    -- at its end there is none
    pub walk_ends : p ≤ 0 → None ≡ first_with sought n
    walk_ends le = sym (none_first sought n (λ k lt t. w.past k (omega arith) lt t))

  module _ (in_bucket : (k : ℕ) → sought k ≡ true → bucket k ≡ b) {size room n : ℕ} {heads next : List ℕ} (x : Chains bucket size room n heads next) where
    -- it begins at the head of the bucket
    pub walk_begins : b < size → Walk n (get_or heads b 0)
    walk_begins lt =
        let l = x.heads_link b lt in
        record {
          within = l.within;
          mine = l.mine;
          past = λ k le kn t. l.gap k le kn (in_bucket k t);
        }

    -- the walk goes on where `sought` does not hold for p - 1
    pub walk_goes : (p : ℕ) → Walk n p → 0 < p → sought (p - 1) ≡ false → Walk n (get_or next (p - 1) 0)
    walk_goes p w pos f =
        let l = x.next_link (p - 1) (omega (arith, w.within)) in
        record {
          within = omega (arith, l.within, w.within);
          mine = λ h. l.mine h ∙ w.mine pos;
          past = λ k le kn t. go k le kn t (ltb k (p - 1)) refl (ltb (p - 1) k) refl;
        }
      where
        go : (k : ℕ) → get_or next (p - 1) 0 ≤ k → k < n → sought k ≡ true → (u : Bool) → ltb k (p - 1) ≡ u → (v : Bool) → ltb (p - 1) k ≡ v → ⊥
        go k le kn t true q v r =
            (x.next_link (p - 1) (omega (arith, w.within))).gap k le (ltb-true k (p - 1) q) (in_bucket k t ∙ sym (w.mine pos))
        go k le kn t false q true r = w.past k (omega (arith, ltb-true (p - 1) k r)) kn t
        go k le kn t false q false r =
            let same : k ≡ p - 1 = omega (arith, ltb-false k (p - 1) q, ltb-false (p - 1) k r) in
            let y = rw same at t in
            let z : ◌≡◌ {A = ℕ} 0 1 = cc in
            omega arith

-- one number more
module _ {bucket : ℕ → ℕ} {size room n : ℕ} {heads next : List ℕ} (x : Chains bucket size room n heads next) (b : ℕ) (e : b ≡ bucket n) (lt : b < size) (fits : n < room) where
  head_more : (j : ℕ) → j < size → (t : Bool) → eqb j b ≡ t → Link bucket j (n + 1) (get_or (set heads b (n + 1)) j 0)
  head_more j jl true q =
      let same : j ≡ b = eqb-true j b q in
      let here : b < length heads = omega (arith, x.heads_long) in
      let one : n + 1 - 1 ≡ n = omega arith in
      rw (same, get_or-set_same heads b (n + 1) 0 here) (record {
        within = omega arith;
        mine = λ h. rw one (sym e);
        gap = λ k le kn y. omega arith;
      })
  head_more j jl false q =
      let l = x.heads_link j jl in
      rw (get_or-set_other heads b j (n + 1) 0 (eqb-false j b q)) (record {
        within = omega (arith, l.within);
        mine = l.mine;
        gap = λ k le kn y. go k le kn y (ltb k n) refl;
      })
    where
      go : (k : ℕ) → get_or heads j 0 ≤ k → k < n + 1 → bucket k ≡ j → (u : Bool) → ltb k n ≡ u → ⊥
      go k le kn y true r = (x.heads_link j jl).gap k le (ltb-true k n r) y
      go k le kn y false r =
          let same : k ≡ n = omega (arith, ltb-false k n r) in
          eqb-false j b q (sym (rw same at y) ∙ sym e)

  next_more : (r : ℕ) → r < n + 1 → (t : Bool) → ltb r n ≡ t → Link bucket (bucket r) r (get_or (set next n (get_or heads b 0)) r 0)
  next_more r rl true q =
      let below = ltb-true r n q in
      let ne : r ≡ n → ⊥ = λ h. omega arith in
      rw (get_or-set_other next n r (get_or heads b 0) 0 ne) (x.next_link r below)
  next_more r rl false q =
      let same : r ≡ n = omega (arith, ltb-false r n q) in
      let here : n < length next = omega (arith, x.next_long) in
      rw (same, get_or-set_same next n (get_or heads b 0) 0 here, ← e) (x.heads_link b lt)

  pub chained : Chains bucket size room (n + 1) (set heads b (n + 1)) (set next n (get_or heads b 0))
  chained = record {
    heads_long = length-set heads b (n + 1) ∙ x.heads_long;
    next_long = length-set next n (get_or heads b 0) ∙ x.next_long;
    heads_link = λ j jl. head_more j jl (eqb j b) refl;
    next_link = λ r rl. next_more r rl (ltb r n) refl;
  }

-- before the first number
pub chains_begin : (bucket : ℕ → ℕ) {size room : ℕ} {heads next : List ℕ} → Clear size room heads next → Chains bucket size room 0 heads next
chains_begin bucket z = record {
  heads_long = z.heads_long;
  next_long = z.next_long;
  heads_link = λ j jl. rw (z.none j jl) (record { within = omega arith; mine = λ h. omega arith; gap = λ k le kn y. omega arith });
  next_link = λ r rl. omega arith;
}
