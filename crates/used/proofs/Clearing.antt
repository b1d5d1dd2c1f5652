-- Counts and sums of unused states set to 0. Assumes nothing.
use Rattle.std.specs.Prelude.{if◌then◌else◌}
use Prim.Native.Nat.{ℕ, suc, ◌-◌, ◌<◌, ◌≤◌}
use mathlib.Core.Path.{◌≡◌, refl, sym, ap, ◌∙◌}
use mathlib.Core.Bool.{Bool, true, false}
use mathlib.Core.List.{List}
use native.Mathlib.Decide.{dec_le}
use native.Mathlib.Omega.{arith}
use lib.ListN.{length, get_or, set, length-set}
use lib.Seq.{get_or-set_same, get_or-set_other}
use lib.Dec.{eqb}
use borrow.Author.Tests.{eqb-true, eqb-false}
use Rattle.model.specs.Table.{Row}
use Rattle.rows.specs.Words.{rows_in}
use Rattle.rows.proofs.Words.{rows_long}
use Rattle.counts.specs.Chain.{leads, TargetLink, Comes}
use Rattle.counts.specs.States.{held}
use Rattle.counts.proofs.Chain.{leads_row, leads_end}
use Rattle.used.specs.Marked.{is_set}
use Rattle.used.specs.Settled.{target_at, RowsChained, RowsCleared, ClearReady, Cleared}
use Rattle.used.proofs.Walk.{AtRow, at_link, target_word, link_next}

-- ---- the rows of one state

-- the link leads to a row of the state, or to none
pub record AtWord (words : List ℕ) (q p : ℕ) : Type 0 where
  pub inside : 0 < p → p - 1 < length words
  pub mine : 0 < p → target_at words (p - 1) ≡ q

-- the rows before the one that the link leads to are cleared
pub record Emptying (words : List ℕ) (q : ℕ) (sums₀ sums : List ℕ) (p : ℕ) : Type 0 where
  pub at_word : AtWord words q p
  pub long : length sums ≡ length sums₀
  pub own : (k : ℕ) → k < leads p (length words) → target_at words k ≡ q → get_or sums k 0 ≡ 0
  pub others : (k : ℕ) → (target_at words k ≡ q → ⊥) → get_or sums k 0 ≡ get_or sums₀ k 0

module _ (pool words : List ℕ) (q : ℕ) where
  abbrev rows : List Row
  rows = rows_in pool words

  to_word : (p : ℕ) → AtRow rows q p → AtWord words q p
  to_word p a = record {
    inside = λ l. rw (rows_long pool words) at (a.inside l);
    mine = λ l. sym (target_word pool words (p - 1) (rw (rows_long pool words) at (a.inside l))) ∙ a.mine l;
  }

  from_word : (p : ℕ) → AtWord words q p → AtRow rows q p
  from_word p a = record {
    inside = λ l. rw (rows_long pool words) (a.inside l);
    mine = λ l. target_word pool words (p - 1) (a.inside l) ∙ a.mine l;
  }

  no_row : (i p k : ℕ) → TargetLink rows q i (length rows) p → i ≤ k → k < leads p (length words) → target_at words k ≡ q → ⊥
  no_row i p k t a b e =
      let l : k < leads p (length rows) = rw (rows_long pool words) b in
      t.gap k a l (target_word pool words k (omega (arith, l, t.within, rows_long pool words)) ∙ e)

module _ {words first sums₀ : List ℕ} {q : ℕ} (g : RowsChained words first sums₀ q) where
  pub emptying_begins : (p : ℕ) → p ≡ get_or first q 0 → Emptying words q sums₀ sums₀ p
  emptying_begins p e = record {
    at_word = to_word g.pool words q p (at_link p link);
    long = refl;
    own = λ k l h. absurd (no_row g.pool words q 0 p k link (omega arith) l h);
    others = λ k ne. refl;
  }
    where
      link : TargetLink (rows_in g.pool words) q 0 (length (rows_in g.pool words)) p
      link = rw e (g.chained.firsts q g.state)

  module _ {sums : List ℕ} {p r word p' : ℕ} (x : Emptying words q sums₀ sums p) (c : Comes words p r word p') where
    sum_here : r < length sums
    sum_here = omega (arith, c.inside, x.long, g.sums_room)

    link : TargetLink (rows_in g.pool words) q (suc r) (length (rows_in g.pool words)) p'
    link = link_next g.pool words g.chained (from_word g.pool words q p x.at_word) c

    pub emptying_goes : Emptying words q sums₀ (set sums r 0) p'
    emptying_goes = record {
      at_word = to_word g.pool words q p' (at_link p' link);
      long = length-set sums r 0 ∙ x.long;
      own = λ k l h. own k l h (eqb k r) (eqb-true k r) (eqb-false k r);
      others = λ k ne. get_or-set_other sums r k 0 0 (λ z. ne (ap (target_at words) (z ∙ c.here.1) ∙ x.at_word.mine c.here.0)) ∙ x.others k ne;
    }
      where
        own : (k : ℕ) → k < leads p' (length words) → target_at words k ≡ q → (b : Bool) → (b ≡ true → k ≡ r) → (b ≡ false → k ≡ r → ⊥) → get_or (set sums r 0) k 0 ≡ 0
        own k l h true y n = let z : k ≡ r = y refl in rw z (get_or-set_same sums r 0 0 sum_here)
        own k l h false y n = get_or-set_other sums r k 0 0 (n refl) ∙ x.own k (rw (leads_row p (length words) c.here.0 ∙ sym c.here.1) (before (dec_le k r))) h
          where
            before : Dec (k ≤ r) → k < r
            before (yes le) = omega (arith, n refl)
            before (no gt) = absurd (no_row g.pool words q (suc r) p' k link (omega arith) l h)

pub emptying_ends : {words sums₀ sums : List ℕ} {q p : ℕ} → Emptying words q sums₀ sums p → p ≡ 0 → RowsCleared words q sums₀ sums
emptying_ends {words} {p = p} x z =
    let e : leads p (length words) ≡ length words = ap (λ (v : ℕ). leads v (length words)) z ∙ leads_end (length words) in
    record { long = x.long; own = λ k l h. x.own k (rw e l) h; others = x.others }

-- ---- the states in turn

-- the states before q are cleared where they have no mark
pub record Clearing (states : ℕ) (words : List ℕ) (used : List ℕ) (cs₀ cs ss₀ ss : List ℕ) (q : ℕ) : Type 0 where
  pub within : q ≤ states
  pub cs_long : length cs ≡ length cs₀
  pub sums_long : length ss ≡ length ss₀
  pub counts : (a : ℕ) → a < q → held cs a ≡ (if is_set used a then held cs₀ a else 0)
  pub later : (a : ℕ) → q ≤ a → held cs a ≡ held cs₀ a
  pub sums : (k : ℕ) → k < length words → target_at words k < q → get_or ss k 0 ≡ (if is_set used (target_at words k) then get_or ss₀ k 0 else 0)
  pub later_sums : (k : ℕ) → k < length words → q ≤ target_at words k → get_or ss k 0 ≡ get_or ss₀ k 0

module _ {states : ℕ} {words first : List ℕ} {used : List ℕ} {cs₀ ss₀ : List ℕ} (g : ClearReady states words first used cs₀ ss₀) where
  module _ {cs ss : List ℕ} {q : ℕ} (x : Clearing states words used cs₀ cs ss₀ ss q) where
    pub clearing_ends : states ≤ q → Cleared states words used cs₀ cs ss₀ ss
    clearing_ends le = record {
      cs_long = x.cs_long;
      sums_long = x.sums_long;
      counts = λ a i. x.counts a (omega arith);
      beyond = λ a i. x.later a (omega (arith, x.within));
      sums = λ k i. x.sums k i (omega (arith, g.ordered.known k (rw (rows_long g.pool words) i), target_word g.pool words k i));
    }
