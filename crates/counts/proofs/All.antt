-- Counting the states in turn, whatever they count. Assumes nothing.
use Rattle.std.specs.Prelude.{if◌then◌else◌, Option, Some, None}
use Rattle.std.specs.Option.{unwrap_or}
use Prim.Native.Nat.{ℕ, ◌+◌, ◌^◌, ◌<◌, ◌≤◌, min}
use mathlib.Core.Path.{◌≡◌, refl, sym, ap, ◌∙◌}
use mathlib.Core.Bool.{Bool, true, false, ◌&&◌}
use mathlib.Core.List.{List, [], ◌∷◌, map}
use mathlib.Core.Logic.{◌⊎◌, inl, inr}
use native.Mathlib.Nat.{eq-zero-or-pos, lt_of_not-le}
use native.Mathlib.Decide.{dec_le}
use native.Mathlib.Omega.{arith}
use lib.ListN.{length, get_or, take, set, length-set}
use lib.Seq.{get_or-set_same, get_or-set_other}
use lib.Dec.{eqb, ltb}
use borrow.Author.Tests.{lt-ltb, le-ltb, le-leb, lt-leb, ltb-true, ltb-false}
use borrow.Author.Count.{below_more}
use Rattle.model.specs.Table.{Row, Table, no_row}
use Rattle.model.specs.Count.{sum, row_counts, weight, row_longest, largest, state_counts, state_longest, count, longest}
use Rattle.model.specs.Value.{earlier_rows}
use Rattle.model.proofs.Good.{Ordered}
use Rattle.model.proofs.Counting.{map_agree, weight_local, state_counts_local, state_longest_local, count_eqn, longest_eqn, count_beyond}
use Rattle.model.proofs.UsedKept.{cap, kept_alike, state_kept, earlier_kept, longest_kept, longest_alike}
use Rattle.rows.specs.Words.{row_no, rows_in, Held}
use Rattle.rows.proofs.Words.{rows_long, row_held_lem, args_long}
use Rattle.counts.specs.declared.Counted.{Counted}
use Rattle.counts.specs.Chain.{target}
use Rattle.counts.specs.Marks.{top, ceiling, long_ceiling, long_in, bits_in, empty_in, over_in, over_of, Tells}
use Rattle.counts.specs.Kept.{Is}
use Rattle.counts.specs.States.{held, held_whole, held_long, row_table, Countable, Summed, CountReady, CountedStates}
use Rattle.counts.proofs.KeptCounts.{kept_low, kept_whole, is_same}

-- no count depends on the accepting list, so no sum of earlier rows and no longest tree does
module _ (states : ℕ) (rows : List Row) (accepting : List ℕ) where
  pub count_same : (q : ℕ) → count (row_table states rows) q ≡ count (record { states = states; rows = rows; accepting = accepting }) q
  unfolding count
  count_same q = refl

  pub earlier_same : (q k : ℕ) → earlier_rows rows (count (row_table states rows)) q k ≡ earlier_rows rows (count (record { states = states; rows = rows; accepting = accepting })) q k
  unfolding count
  earlier_same q k = refl

  pub longest_same : (q : ℕ) → longest (row_table states rows) q ≡ longest (record { states = states; rows = rows; accepting = accepting }) q
  unfolding longest count
  longest_same q = refl

-- a state without trees has no longest one
none_longest : (rs : List Row) (c l : ℕ → ℕ) (q : ℕ) → state_counts rs c q ≡ 0 → state_longest rs c l q ≡ 0
unfolding state_counts state_longest weight row_longest sum largest
none_longest [] c l q e = refl
none_longest (r ∷ rs) c l q e =
    let a = here (eqb r.target q) (omega arith) in
    let b = none_longest rs c l q (omega arith) in
    omega (arith, a, b)
  where
    here : (b : Bool) → (if b then row_counts c r else 0) ≡ 0 → (if b && ltb 0 (row_counts c r) then 2 + sum (map l r.args) else 0) ≡ 0
    here true z = rw (le-ltb 0 (row_counts c r) (omega arith))
    here false z = refl

-- the sums of earlier rows look only at the states below
earlier_local : (rs : List Row) → Ordered rs → (c d : ℕ → ℕ) (q k : ℕ) → ((a : ℕ) → a < q → c a ≡ d a) → earlier_rows rs c q k ≡ earlier_rows rs d q k
unfolding earlier_rows
earlier_local rs o c d q k e = ap (λ (ws : List ℕ). sum (take k ws)) (map_agree (weight c q) (weight d q) no_row rs (λ i l. weight_local c d q (get_or rs i no_row) e (o i l)))

-- ---- one state

-- count and mark of a state that has n trees, the longest of so many entries
pub record StateIs (count mark n entries : ℕ) : Type 0 where
  pub low : count ≡ min n top
  pub is : count + over_of mark ≡ min n ceiling
  pub long : long_in mark ≡ min entries long_ceiling
  pub tells : Tells mark (count + over_of mark) (long_in mark)

-- a mark tells whether the count is beyond 64 bits: the count that is stored and that are the count, or 2^64
whole_told : (m long : ℕ) (count : Option ℕ) (n : ℕ) → Is count n → Tells m (unwrap_or count ceiling) long → unwrap_or count top + over_of m ≡ unwrap_or count ceiling
whole_told m long (Some x) n i t = go t.bits
  where
    go : ((bits_in m ≤ 64) × (x ≤ 2 ^ bits_in m) × (x ≤ top)) ⊎ ((bits_in m ≡ 4096) × (ceiling ≤ x)) → x + over_of m ≡ x
    go (inl b) = omega (arith, b.0)
    go (inr b) = absurd (omega (arith, b.1, i))
whole_told m long None n i t = go t.bits
  where
    go : ((bits_in m ≤ 64) × (ceiling ≤ 2 ^ bits_in m) × (ceiling ≤ top)) ⊎ ((bits_in m ≡ 4096) × (ceiling ≤ ceiling)) → top + over_of m ≡ ceiling
    go (inl b) = absurd (omega (arith, b.2))
    go (inr b) = omega (arith, b.0)

over_known : {count mark n entries : ℕ} → StateIs count mark n entries → over_in mark ≡ ltb top n
over_known {count} {mark} {n} x = go x.tells.bits
  where
    go : ((bits_in mark ≤ 64) × (count + over_of mark ≤ 2 ^ bits_in mark) × (count + over_of mark ≤ top)) ⊎ ((bits_in mark ≡ 4096) × (ceiling ≤ count + over_of mark)) → over_in mark ≡ ltb top n
    go (inl b) = lt-leb 4096 (bits_in mark) (omega (arith, b.0)) ∙ sym (le-ltb top n (omega (arith, b.2, x.is)))
    go (inr b) = le-leb 4096 (bits_in mark) (omega (arith, b.0)) ∙ sym (lt-ltb top n (omega (arith, b.1, x.is)))

-- ---- the states in turn

-- the states below q are counted, in lists as long as those that were lent; the others count 0
pub record Counting (states : ℕ) (rows : List Row) (counts₀ marks₀ sums₀ counts marks sums : List ℕ) (q : ℕ) : Type 0 where
  pub within : q ≤ states
  pub counts_long : length counts ≡ length counts₀
  pub marks_long : length marks ≡ length marks₀
  pub sums_long : length sums ≡ length sums₀
  pub each : (a : ℕ) → a < q → StateIs (held counts a) (held marks a) (count (row_table states rows) a) (longest (row_table states rows) a)
  pub above : (a : ℕ) → q ≤ a → held counts a ≡ 0
  pub earlier : (k : ℕ) → k < length rows → target rows k < q → get_or sums k 0 ≡ min (earlier_rows rows (count (row_table states rows)) (target rows k) k) top

module _ {states : ℕ} {pool words first counts₀ marks₀ sums₀ counts marks sums : List ℕ} {q : ℕ} (h : Held pool words (length words))
    (g : CountReady states (rows_in pool words) first counts₀ marks₀ sums₀)
    (x : Counting states (rows_in pool words) counts₀ marks₀ sums₀ counts marks sums q) (lt : q < states) where
  abbrev rows : List Row
  rows = rows_in pool words

  abbrev T : Table
  T = row_table states rows

  -- an argument of a row of the state is a lower state
  lower : (r : ℕ) → r < length rows → target rows r ≡ q → (k : ℕ) → k < length (row_no rows r).args → get_or (row_no rows r).args k 0 < q
  lower r l e k m = omega (arith, g.ordered.lower r l k m, e)

  few : (r : ℕ) → r < length rows → length (row_no rows r).args ≤ 16
  few r l =
      let m : r < length words = rw (rows_long pool words) at l in
      let i = h.inside r m in
      rw (row_held_lem pool words r m, args_long pool (get_or words r 0) i) i.few

  -- there is a place for the state in each list
  pub counts_here : q < length counts
  counts_here = omega (arith, g.room.cs_room, x.counts_long)

  pub marks_here : q < length marks
  marks_here = omega (arith, g.room.marks_room, x.marks_long)

  pub countable : Countable rows first counts marks sums q
  countable = record {
    state = omega (arith, g.room.first_room);
    sums_room = omega (arith, g.room.sums_room, x.sums_long);
    marked = λ r l e. record {
      few = few r l;
      counted = λ k m. omega (arith, lower r l e k m, counts_here);
      placed = λ k m. omega (arith, lower r l e k m, marks_here);
      each = λ k m. (x.each (get_or (row_no rows r).args k 0) (lower r l e k m)).tells;
    };
  }

  whole_below : (a : ℕ) → a < q → held_whole counts marks a ≡ cap ceiling (count T) a
  whole_below a l = (x.each a l).is

  long_below : (a : ℕ) → a < q → held_long marks a ≡ cap long_ceiling (longest T) a
  long_below a l = (x.each a l).long

  -- what the state counts by the kept counts below is what document 01 says, kept; so are its longest tree and the sums of earlier rows
  count_kept : min (state_counts rows (held_whole counts marks) q) ceiling ≡ min (count T q) ceiling
  count_kept =
      ap (λ (v : ℕ). min v ceiling) (state_counts_local rows g.ordered.lower (held_whole counts marks) (cap ceiling (count T)) q whole_below)
      ∙ state_kept ceiling rows (count T) q
      ∙ ap (λ (v : ℕ). min v ceiling) (sym (count_eqn T g.ordered.lower q lt))

  length_kept : min (state_longest rows (held_whole counts marks) (held_long marks) q) long_ceiling ≡ min (longest T q) long_ceiling
  length_kept =
      ap (λ (v : ℕ). min v long_ceiling)
      (state_longest_local rows g.ordered.lower (held_whole counts marks) (cap ceiling (count T)) (held_long marks) (cap long_ceiling (longest T)) q whole_below long_below
      ∙ longest_alike rows (cap ceiling (count T)) (count T) (cap long_ceiling (longest T)) (kept_alike ceiling (omega arith) (count T)) q)
      ∙ longest_kept long_ceiling rows (count T) (longest T) q
      ∙ ap (λ (v : ℕ). min v long_ceiling) (sym (longest_eqn T g.ordered.lower q lt))

  sums_kept : (k : ℕ) → min (earlier_rows rows (held_whole counts marks) q k) top ≡ min (earlier_rows rows (count T) q k) top
  sums_kept k =
      let a = earlier_local rows g.ordered.lower (held_whole counts marks) (cap ceiling (count T)) q k whole_below in
      let b = earlier_kept ceiling rows (count T) q k in
      ap (λ (v : ℕ). min v top) a ∙ lower_cap _ _ b
    where
      lower_cap : (m n : ℕ) → min m ceiling ≡ min n ceiling → min m top ≡ min n top
      lower_cap m n e = omega arith

  module _ {sums' : List ℕ} {s : Counted} (y : Summed rows counts marks q sums sums' s) (m : ℕ) (t : Tells m (unwrap_or s.count ceiling) s.longest) where
    -- the mark's entries are the longest tree's, where there is none too
    mark_long : long_in m ≡ s.longest
    mark_long = go (eq-zero-or-pos (empty_in m))
      where
        go : (empty_in m ≡ 0) ⊎ (0 < empty_in m) → long_in m ≡ s.longest
        go (inl e) = (t.some e).1
        go (inr p) =
            let z : state_counts rows (held_whole counts marks) q ≡ 0 = omega (arith, (t.none p).0, kept_whole s.count _ y.count) in
            let n = none_longest rows (held_whole counts marks) (held_long marks) q z in
            omega (arith, (t.none p).1, y.longest, n)

    same_whole : unwrap_or s.count top + over_of m ≡ unwrap_or s.count ceiling
    same_whole = whole_told m s.longest s.count _ y.count t

    state_is : StateIs (unwrap_or s.count top) m (count T q) (longest T q)
    state_is =
        let c : Is s.count (count T q) = is_same s.count _ _ y.count count_kept in
        record {
          low = kept_low s.count _ c;
          is = same_whole ∙ kept_whole s.count _ c;
          long = mark_long ∙ y.longest ∙ length_kept;
          tells = rw (same_whole, mark_long) t;
        }

    earlier_more : (k : ℕ) → k < length rows → target rows k < q + 1 → (b : Bool) → ltb (target rows k) q ≡ b
        → get_or sums' k 0 ≡ min (earlier_rows rows (count T) (target rows k) k) top
    earlier_more k l h true e =
        let m : target rows k < q = ltb-true (target rows k) q e in
        y.others k (λ z. omega arith) ∙ x.earlier k l m
    earlier_more k l h false e =
        let m : target rows k ≡ q = omega (arith, ltb-false (target rows k) q e) in
        rw m (y.mine k l m ∙ sums_kept k)

    pub counting_goes : Counting states rows counts₀ marks₀ sums₀ (set counts q (unwrap_or s.count top)) (set marks q m) sums' (q + 1)
    counting_goes = record {
      within = omega arith;
      counts_long = length-set counts q (unwrap_or s.count top) ∙ x.counts_long;
      marks_long = length-set marks q m ∙ x.marks_long;
      sums_long = y.long ∙ x.sums_long;
      each = below_more (λ a. StateIs (held (set counts q (unwrap_or s.count top)) a) (held (set marks q m) a) (count T a) (longest T a)) q
          (λ a l. rw (get_or-set_other counts q a (unwrap_or s.count top) 0 (λ z. omega arith), get_or-set_other marks q a m 0 (λ z. omega arith)) (x.each a l))
          (rw (get_or-set_same counts q (unwrap_or s.count top) 0 counts_here, get_or-set_same marks q m 0 marks_here) state_is);
      above = λ a l. get_or-set_other counts q a (unwrap_or s.count top) 0 (λ z. omega arith) ∙ x.above a (omega arith);
      earlier = λ k l h. earlier_more k l h (ltb (target rows k) q) refl;
    }

pub counting_ends : {states : ℕ} {rows : List Row} {first counts₀ marks₀ sums₀ counts marks sums : List ℕ} {q : ℕ} → CountReady states rows first counts₀ marks₀ sums₀
    → Counting states rows counts₀ marks₀ sums₀ counts marks sums q → states ≤ q → CountedStates states rows counts₀ marks₀ sums₀ counts marks sums
counting_ends {states} {rows} {counts = counts} {q = q} g x ge = record {
  cs_long = x.counts_long;
  marks_long = x.marks_long;
  sums_long = x.sums_long;
  known = record {
    counts = λ a. side a (dec_le states a);
    overs = λ a l. over_known (x.each a (omega (arith, ge)));
    longs = λ a l. (x.each a (omega (arith, ge))).long;
    sums = λ k l. x.earlier k l (omega (arith, g.ordered.known k l, ge));
  };
}
  where
    side : (a : ℕ) → Dec (states ≤ a) → held counts a ≡ min (count (row_table states rows) a) top
    side a (yes l) =
        let z = count_beyond (row_table states rows) a l in
        x.above a (omega (arith, x.within)) ∙ sym (ap (λ (v : ℕ). min v top) z)
    side a (no h) = (x.each a (omega (arith, lt_of_not-le h, ge))).low
