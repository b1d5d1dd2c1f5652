-- Laws of the chains of rows by target. Assumes nothing.
use Prim.Native.Nat.{ℕ, zero, suc, ◌+◌, ◌-◌, ◌^◌, ◌<◌, ◌≤◌}
use mathlib.Core.Path.{◌≡◌, refl, sym, ap, ◌∙◌}
use mathlib.Core.Bool.{Bool, true, false}
use mathlib.Core.List.{List}
use native.Mathlib.Omega.{arith}
use lib.ListN.{length, get_or, set, length-set, length-map}
use lib.Seq.{get_or-set_same, get_or-set_other, map-set_same}
use lib.Dec.{eqb, ltb}
use borrow.Author.Tests.{eqb-true, eqb-false, ltb-true, ltb-false}
use Rattle.model.specs.Table.{Row}
use Rattle.model.proofs.Counting.{get_d_map}
use Rattle.rows.specs.Words.{with_after, target_in, next_in, after_in, row_in, rows_in, nexts, afters, Inside, Held}
use Rattle.rows.proofs.Words.{map_set, next_kept, after_put, row_kept, inside_kept, rows_long, row_held_lem}
use Rattle.counts.specs.Chain.{target, leads, TargetLink, ChainedFrom, Chained, Onward, Comes, Unchained, Chainable}

-- a link that leads to a row is 1 more than its number
pub leads_row : (p n : ℕ) → 0 < p → leads p n ≡ p - 1
unfolding leads
leads_row zero n lt = absurd (omega arith)
leads_row (suc p) n lt = omega arith

pub leads_end : (n : ℕ) → leads 0 n ≡ n
unfolding leads
leads_end n = refl

leads_more : (r n : ℕ) → leads (r + 1) n ≡ r
leads_more r n = leads_row (r + 1) n (omega arith) ∙ (let e : r + 1 - 1 ≡ r = omega arith in e)

-- a link is at most the number of rows
link_small : {rows : List Row} {q m n : ℕ} (p : ℕ) → TargetLink rows q m n p → p ≤ n
link_small zero l = omega arith
link_small {n = n} (suc p) l = omega (arith, l.inside (omega arith), leads_row (suc p) n (omega arith))

-- the rows of a chain lie one behind the other: a walk along the links ends
pub onward_shorter : {words : List ℕ} {p : ℕ} → Onward words p → (r p' : ℕ) → (1 ≤ p) × (r ≡ p - 1) → p' ≡ after_in (get_or words r 0)
    → length words - leads p' (length words) < length words - leads p (length words)
onward_shorter {words} {p} o r p' e f = rw f (omega (arith, e.0, e.1, o.inside, o.further r (omega (arith, e.0, e.1, o.inside)), leads_row p (length words) e.0))

module _ (pool words : List ℕ) {first : List ℕ} (chained : Chained (rows_in pool words) first (afters words)) where
  after_link : (r : ℕ) → r < length words → TargetLink (rows_in pool words) (target (rows_in pool words) r) (suc r) (length (rows_in pool words)) (after_in (get_or words r 0))
  after_link r l = rw (get_d_map after_in words r 0 0 l) at (chained.afters r (omega arith) (rw (rows_long pool words) l))

  pub chained_onward : (q p : ℕ) → q < length first → p ≡ get_or first q 0 → Onward words p
  chained_onward q p l e = record {
    inside = rw (e, ← rows_long pool words) (link_small (get_or first q 0) (chained.firsts q l));
    further = λ r i. omega (arith, (after_link r i).from, rows_long pool words, ap (leads (after_in (get_or words r 0))) (rows_long pool words));
    within = λ r i. omega (arith, link_small (after_in (get_or words r 0)) (after_link r i), rows_long pool words);
  }

pub comes_of : {ws words : List ℕ} {p r w p' : ℕ} {B : Type 0} → ws ≡ words → Comes ws p r w p' × B → Comes words p r w p'
comes_of e g = rw e at g.0

-- ---- one row more in front

-- before the first row is chained
unchained : (rows : List Row) (first after : List ℕ) → Unchained first after → ChainedFrom rows (length rows) first after
unchained rows first after u = record {
  firsts = λ q lt. rw (u.firsts q lt) (empty_link q);
  afters = λ r ge lt. absurd (omega arith);
}
  where
    empty_link : (q : ℕ) → TargetLink rows q (length rows) (length rows) 0
    empty_link q = record {
      within = rw (leads_end (length rows)) (omega arith);
      from = rw (leads_end (length rows)) (omega arith);
      inside = λ h. absurd (omega arith);
      mine = λ h. absurd (omega arith);
      gap = λ k ge lt e. absurd (omega (arith, leads_end (length rows)));
    }

module _ {rows : List Row} {first after : List ℕ} {m : ℕ} (x : ChainedFrom rows m first after) (r t : ℕ) (next : m ≡ suc r) (below : r < length rows)
    (room : r < length after) (same : t ≡ target rows r) (state : t < length first) where
  first_more : (q : ℕ) → q < length first → (b : Bool) → eqb q t ≡ b → TargetLink rows q r (length rows) (get_or (set first t (r + 1)) q 0)
  first_more q ql true e =
      let h : q ≡ t = eqb-true q t e in
      rw (h, get_or-set_same first t (r + 1) 0 state) (record {
        within = rw (leads_more r (length rows)) (omega arith);
        from = rw (leads_more r (length rows)) (omega arith);
        inside = λ p. rw (leads_more r (length rows)) below;
        mine = λ p. rw (leads_more r (length rows)) (sym same);
        gap = λ k ge lt y. absurd (omega (arith, leads_more r (length rows)));
      })
  first_more q ql false e =
      let ne = eqb-false q t e in
      let l = x.firsts q ql in
      rw (get_or-set_other first t q (r + 1) 0 ne) (record {
        within = l.within;
        from = omega (arith, l.from);
        inside = l.inside;
        mine = l.mine;
        gap = λ k ge lt y. go k ge lt y (ltb r k) refl;
      })
    where
      go : (k : ℕ) → r ≤ k → k < leads (get_or first q 0) (length rows) → target rows k ≡ q → (b : Bool) → ltb r k ≡ b → ⊥
      go k ge lt y true z = (x.firsts q ql).gap k (omega (arith, ltb-true r k z)) lt y
      go k ge lt y false z =
          let h : k ≡ r = omega (arith, ltb-false r k z) in
          eqb-false q t e (sym (rw h at y) ∙ sym same)

  after_more : (k : ℕ) → r ≤ k → k < length rows → (b : Bool) → ltb r k ≡ b → TargetLink rows (target rows k) (suc k) (length rows) (get_or (set after r (get_or first t 0)) k 0)
  after_more k ge lt true e =
      let gt = ltb-true r k e in
      let ne : k ≡ r → ⊥ = λ h. omega arith in
      rw (get_or-set_other after r k (get_or first t 0) 0 ne) (x.afters k (omega arith) lt)
  after_more k ge lt false e =
      let h : k ≡ r = omega (arith, ltb-false r k e) in
      rw (h, get_or-set_same after r (get_or first t 0) 0 room, ← same, ← next) (x.firsts t state)

  chain_more : ChainedFrom rows r (set first t (r + 1)) (set after r (get_or first t 0))
  chain_more = record {
    firsts = λ q ql. first_more q (rw (length-set first t (r + 1)) at ql) (eqb q t) refl;
    afters = λ k ge lt. after_more k ge lt (ltb r k) refl;
  }

-- ---- the links in the words

-- the rows from m on are chained by links in their words; the words of the rows before have none
pub record Chaining (pool words₀ first₀ words first : List ℕ) (m : ℕ) : Type 0 where
  pub within : m ≤ length words₀
  pub long : length words ≡ length words₀
  pub first_long : length first ≡ length first₀
  pub same : rows_in pool words ≡ rows_in pool words₀
  pub links : nexts words ≡ nexts words₀
  pub held : Held pool words (length words)
  pub chained : ChainedFrom (rows_in pool words₀) m first (afters words)
  pub bare : (r : ℕ) → r < m → after_in (get_or words r 0) ≡ 0

pub chaining_begins : {pool words first : List ℕ} → Chainable pool words first → Chaining pool words first words first (length words)
chaining_begins {pool} {words} {first} c = record {
  within = omega arith;
  long = refl;
  first_long = refl;
  same = refl;
  links = refl;
  held = c.rows_held;
  chained = rw (rows_long pool words) at (unchained (rows_in pool words) first (afters words) c.unchained);
  bare = λ r l. sym (get_d_map after_in words r 0 0 l) ∙ c.unchained.afters r (rw (length-map words after_in) l);
}

-- the row before them, whose word is to get the link of its target
module _ {pool words₀ first₀ words first : List ℕ} {m : ℕ} (x : Chaining pool words₀ first₀ words first m) (pos : 0 < m) where
  abbrev word : ℕ
  word = get_or words (m - 1) 0

  pub row_room : m - 1 < length words
  row_room = omega (arith, x.within, x.long)

  module _ (c : Chainable pool words₀ first₀) (t : ℕ) (is : t ≡ target_in word) where
    target_is : t ≡ target (rows_in pool words₀) (m - 1)
    target_is = is ∙ sym (ap (λ (r : Row). r.target) (row_held_lem pool words (m - 1) row_room)) ∙ ap (λ (rs : List Row). target rs (m - 1)) x.same

    pub target_room : t < length first
    target_room = rw (target_is, x.first_long) (c.targets (m - 1) (omega (arith, x.within)))

    module _ (link : ℕ) (of : link ≡ get_or first t 0) where
      -- the link is at most 1,024, so the word with it fits
      pub word_fits : with_after word link < 2 ^ 64
      word_fits =
          omega (arith, of, x.bare (m - 1) (omega arith), link_small (get_or first t 0) (x.chained.firsts t target_room), rows_long pool words₀, c.rows_held.many)

      inside_more : (r : ℕ) → r < length words → (b : Bool) → eqb r (m - 1) ≡ b → Inside pool (get_or (set words (m - 1) (with_after word link)) r 0)
      inside_more r l true e =
          let h : r ≡ m - 1 = eqb-true r (m - 1) e in
          rw (h, get_or-set_same words (m - 1) (with_after word link) 0 row_room) (inside_kept word link pool (x.held.inside (m - 1) row_room))
      inside_more r l false e = rw (get_or-set_other words (m - 1) r (with_after word link) 0 (eqb-false r (m - 1) e)) (x.held.inside r l)

      afters_more : afters (set words (m - 1) (with_after word link)) ≡ set (afters words) (m - 1) (get_or first t 0)
      afters_more =
          let e : after_in word + link ≡ get_or first t 0 = omega (arith, of, x.bare (m - 1) (omega arith)) in
          map_set after_in words (m - 1) (with_after word link) ∙ ap (λ (v : ℕ). set (afters words) (m - 1) v) (after_put word link ∙ e)

      pub chaining_goes : Chaining pool words₀ first₀ (set words (m - 1) (with_after word link)) (set first t (m - 1 + 1)) (m - 1)
      chaining_goes = record {
        within = omega (arith, x.within);
        long = length-set words (m - 1) (with_after word link) ∙ x.long;
        first_long = length-set first t (m - 1 + 1) ∙ x.first_long;
        same = map-set_same (row_in pool) words (m - 1) (with_after word link) 0 (row_kept word link pool) ∙ x.same;
        links = map-set_same next_in words (m - 1) (with_after word link) 0 (next_kept word link) ∙ x.links;
        held = rw (length-set words (m - 1) (with_after word link)) (record {
          many = x.held.many;
          long = rw (length-set words (m - 1) (with_after word link)) (omega arith);
          inside = λ r l. inside_more r l (eqb r (m - 1)) refl;
        });
        chained = rw afters_more (chain_more x.chained (m - 1) t (omega arith) (rw (rows_long pool words₀) (omega (arith, x.within))) (rw (length-map words after_in) row_room) target_is target_room);
        bare = λ r l. rw (get_or-set_other words (m - 1) r (with_after word link) 0 (λ e. omega arith)) (x.bare r (omega arith));
      }
