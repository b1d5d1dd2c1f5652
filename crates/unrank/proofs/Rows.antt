-- The row in which a value falls, by the sums along the chain of its state's rows. Assumes nothing.
use Prim.Native.Nat.{ℕ, zero, suc, ◌-◌, ◌<◌, ◌≤◌}
use mathlib.Core.Path.{◌≡◌, refl, sym, ◌∙◌}
use mathlib.Core.List.{List, map}
use native.Mathlib.Omega.{arith}
use lib.ListN.{length, get_or}
use Rattle.model.specs.Table.{Row}
use Rattle.model.specs.Count.{sum, weight}
use Rattle.model.specs.Value.{earlier_rows, find_by}
use Rattle.model.proofs.Counting.{get_d_map, sum_take_suc}
use Rattle.model.proofs.Values.{find_at}
use Rattle.rows.specs.Words.{after_in, rows_in}
use Rattle.rows.proofs.Words.{rows_long}
use Rattle.counts.specs.Chain.{target, leads, TargetLink, Comes}
use Rattle.counts.specs.States.{held}
use Rattle.counts.proofs.Chain.{leads_row, leads_end}
use Rattle.counts.proofs.States.{earlier_skip, earlier_more, all_earlier}
use Rattle.unrank.specs.Trees.{Enters}
use Rattle.unrank.proofs.ValueReady.{ValueReady}

-- what the rows of q before row i count together
abbrev before : (rows : List Row) (counts : List ℕ) (q i : ℕ) → ℕ
before rows counts q i = earlier_rows rows (held counts) q i

-- the word is that of a row of state q, which begins at the sum and not above the value, and p leads to the next row of q
pub record Walking (pool words counts : List ℕ) (q value word begin p : ℕ) : Type 0 where
  pub row : ℕ
  pub inside : row < length words
  pub mine : target (rows_in pool words) row ≡ q
  pub holds : word ≡ get_or words row 0
  pub summed : begin ≡ before (rows_in pool words) counts q row
  pub begins : begin ≤ value
  pub link : TargetLink (rows_in pool words) q (suc row) (length (rows_in pool words)) p

before_none : (rows : List Row) (counts : List ℕ) (q : ℕ) → before rows counts q 0 ≡ 0
unfolding earlier_rows sum
before_none rows counts q = refl

-- the row where the sums pass the value is the one that is found
find_row : (rows : List Row) (counts : List ℕ) (q value i : ℕ) → before rows counts q i ≤ value → value < before rows counts q (suc i)
    → find_by (map (weight (held counts) q) rows) value ≡ record { which = i; rest = value - before rows counts q i }
unfolding earlier_rows
find_row rows counts q value i l m =
    find_at (map (weight (held counts) q) rows) value i l (omega (arith, sum_take_suc (map (weight (held counts) q) rows) i))

module _ {pool words first counts sums : List ℕ} {q value : ℕ} (x : ValueReady pool words first counts sums q value) where
  abbrev rows : List Row
  rows = rows_in pool words

  abbrev n : ℕ
  n = length rows

  many : n ≡ length words
  many = rows_long pool words

  -- all rows of the state together count more than the value
  all_above : value < before rows counts q n
  all_above = omega (arith, all_earlier rows (held counts) q, x.together, x.less)

  -- the sum before a row of the state
  sum_is : (r : ℕ) → r < n → target rows r ≡ q → get_or sums r 0 ≡ before rows counts q r
  sum_is r l e = x.summed r l e

  -- a link of the state that leads to a row
  module _ {m p : ℕ} (l : TargetLink rows q m n p) where
    passed : before rows counts q (leads p n) ≡ before rows counts q m
    passed = earlier_skip rows (held counts) q m (leads p n) l.from l.within l.gap

    module _ (pos : 0 < p) where
      link_inside : p - 1 < n
      link_inside = rw (leads_row p n pos) at (l.inside pos)

      link_mine : target rows (p - 1) ≡ q
      link_mine = rw (leads_row p n pos) at (l.mine pos)

      link_passed : before rows counts q (p - 1) ≡ before rows counts q m
      link_passed = rw (leads_row p n pos) at passed

    none_left : p ≡ 0 → before rows counts q n ≡ before rows counts q m
    none_left z = rw (z, leads_end n) at passed

  first_link : TargetLink rows q 0 n (get_or first q 0)
  first_link = x.chained.firsts q x.first_place

  -- the state has a row
  pub some_row : 0 < get_or first q 0
  some_row = go (get_or first q 0) first_link
    where
      go : (p : ℕ) → TargetLink rows q 0 n p → 0 < p
      go zero l = absurd (omega (arith, none_left l refl, before_none rows counts q, all_above))
      go (suc p) l = omega arith

  abbrev first_row : ℕ
  first_row = get_or first q 0 - 1

  after_link : (r : ℕ) → r < n → target rows r ≡ q → TargetLink rows q (suc r) n (after_in (get_or words r 0))
  after_link r l e = rw (get_d_map after_in words r 0 0 (rw many at l), e) at (x.chained.afters r (omega arith) l)

  -- the first row comes
  pub walk_begins : {p r w p' : ℕ} → p ≡ get_or first q 0 → Comes words p r w p' → Walking pool words counts q value w 0 p'
  walk_begins {p} {r} e g =
      let k : r ≡ first_row = omega (arith, g.here.1, e) in
      let i : r < n = rw k (link_inside first_link some_row) in
      let m : target rows r ≡ q = rw k (link_mine first_link some_row) in
      let z : before rows counts q r ≡ 0 = rw k (link_passed first_link some_row ∙ before_none rows counts q) in
      record { row = r; inside = g.inside; mine = m; holds = g.held; summed = sym z; begins = omega arith; link = rw (g.next, g.held) (after_link r i m) }

  module _ {word begin p : ℕ} (w : Walking pool words counts q value word begin p) where
    abbrev after : ℕ
    after = before rows counts q (suc w.row)

    -- the value falls in the row that begins there
    enters : (end : ℕ) → value < end → end ≡ after → Enters pool words counts q value (record { word = word; weight = end - begin; rest = value - begin })
    enters end less ends = record {
      row = w.row;
      inside = w.inside;
      mine = w.mine;
      found =
          find_row rows counts q value w.row (omega (arith, w.summed, w.begins)) (omega (arith, ends))
          ∙ (λ i. record { which = w.row; rest = value - sym w.summed i });
      is = w.holds;
      weighs = omega (arith, ends, w.summed, earlier_more rows (held counts) q w.row (rw many w.inside) w.mine);
      falls = omega (arith, w.begins);
    }

    -- the next row
    module _ {k v p' : ℕ} (g : Comes words p k v p') where
      pub next_summed : k < length sums
      next_summed = omega (arith, g.inside, x.sums_room)

      next_inside : k < n
      next_inside = rw many g.inside

      next_mine : target rows k ≡ q
      next_mine = rw g.here.1 (link_mine w.link g.here.0)

      next_sum : get_or sums k 0 ≡ before rows counts q k
      next_sum = sum_is k next_inside next_mine

      ends : get_or sums k 0 ≡ after
      ends = next_sum ∙ rw g.here.1 (link_passed w.link g.here.0)

      -- it is beyond the value
      pub enters_here : value < get_or sums k 0 → Enters pool words counts q value (record { word = word; weight = get_or sums k 0 - begin; rest = value - begin })
      enters_here l = enters (get_or sums k 0) l ends

      -- it is not
      pub walk_next : get_or sums k 0 ≤ value → Walking pool words counts q value v (get_or sums k 0) p'
      walk_next l = record { row = k; inside = g.inside; mine = next_mine; holds = g.held; summed = next_sum; begins = l; link = rw (g.next, g.held) (after_link k next_inside next_mine) }

    -- there is no next row
    pub enters_last : p ≡ 0 → Enters pool words counts q value (record { word = word; weight = held counts q - begin; rest = value - begin })
    enters_last none = enters (held counts q) x.less (x.together ∙ sym (all_earlier rows (held counts) q) ∙ none_left w.link none)
