-- Laws of the index. Assumes nothing.
use Rattle.std.specs.Prelude.{Option, Some, None, is_some, Ok}
use Prim.Native.Nat.{ℕ, zero, suc, ◌+◌, ◌-◌, ◌*◌, ◌/◌, ◌%◌, ◌<◌}
use mathlib.Core.Path.{◌≡◌, refl, sym, ap, ◌∙◌}
use mathlib.Core.Bool.{Bool, true, false, ◌&&◌}
use mathlib.Core.List.{List}
use native.Mathlib.Omega.{arith}
use lib.ListN.{length, get_or, set, length-map}
use lib.Dec.{eqb}
use borrow.Author.Tests.{eqb-true, eq-eqb}
use Rattle.model.specs.Choice.{any_below}
use Rattle.model.specs.Table.{Row, row_is, same_list}
use Rattle.model.proofs.Choice.{any_true}
use Rattle.model.proofs.Rows.{row_is_true}
use Rattle.model.proofs.Lists.{same_length}
use Rattle.chains.specs.First.{first_with}
use Rattle.chains.specs.Chains.{Link, Chains, Clear}
use Rattle.chains.proofs.First.{none_first, first_none, first_more, any_first}
use Rattle.chains.proofs.Chains.{chained, chains_begin}
use Rattle.rows.specs.Words.{symbol_in, next_in, nexts, args_in, row_in, row_no, row_held, rows_in, Inside, Held}
use Rattle.rows.proofs.Words.{args_long, rows_long, row_held_lem}
use Rattle.index.specs.Hash.{hash_of, Multiplier, Sized}
use Rattle.index.specs.Index.{found_by, repeated_by, row_bucket, IndexBy, row_found, Index, SoughtRow}

-- ---- rows that agree

first_same : (p q : ℕ → Bool) (n : ℕ) → ((k : ℕ) → k < n → p k ≡ q k) → first_with p n ≡ first_with q n
unfolding first_with
first_same p q zero h = refl
first_same p q (suc n) h = rw (first_same p q n (λ k l. h k (omega arith)), h n (omega arith))

any_same : (p q : ℕ → Bool) (n : ℕ) → ((k : ℕ) → k < n → p k ≡ q k) → any_below n p ≡ any_below n q
unfolding any_below
any_same p q zero h = refl
any_same p q (suc n) h = rw (any_same p q n (λ k l. h k (omega arith)), h n (omega arith))

link_same : {f g : ℕ → ℕ} {b m p : ℕ} → ((k : ℕ) → k < m → f k ≡ g k) → Link f b m p → Link g b m p
link_same {f} {g} {b} {m} {p} h l = record {
  within = l.within;
  mine = λ pos. sym (h (p - 1) (omega (arith, l.within))) ∙ l.mine pos;
  gap = λ k le lt e. l.gap k le lt (h k lt ∙ e);
}

chains_same : {f g : ℕ → ℕ} {size room n : ℕ} {heads next : List ℕ} → ((k : ℕ) → k < n → f k ≡ g k) → Chains f size room n heads next → Chains g size room n heads next
chains_same {f} {g} {size} {room} {n} {heads} {next} h x = record {
  heads_long = x.heads_long;
  next_long = x.next_long;
  heads_link = λ b l. link_same h (x.heads_link b l);
  next_link = λ r l. rw (← h r l) (link_same {g = g} (λ k m. h k (omega arith)) (x.next_link r l));
}

module _ (row also : ℕ → Row) (n : ℕ) (h : (k : ℕ) → k < n → row k ≡ also k) where
  pub earlier_same : (s : ℕ) (xs : List ℕ) → any_below n (λ j. row_is (row j) s xs) ≡ any_below n (λ j. row_is (also j) s xs)
  earlier_same s xs = any_same _ _ n (λ j l. ap (λ (r : Row). row_is r s xs) (h j l))

  pub repeated_same : (i : ℕ) → i < n → repeated_by row i ≡ repeated_by also i
  unfolding repeated_by
  repeated_same i l = rw (h i l) (any_same _ _ i (λ j m. ap (λ (r : Row). row_is r (also i).symbol (also i).args) (h j (omega arith))))

  repeats_same : first_with (repeated_by row) n ≡ first_with (repeated_by also) n
  repeats_same = first_same _ _ n repeated_same

  pub index_same : {by size room : ℕ} {heads next : List ℕ} → IndexBy by size room row n heads next → IndexBy by size room also n heads next
  index_same {by} {size} x = record {
    chains = chains_same (λ k l. ap (row_bucket by size) (h k l)) x.chains;
    distinct = sym repeats_same ∙ x.distinct;
  }

-- the rows that words hold, by number and as a list
module _ (pool words : List ℕ) where
  held_at : (k : ℕ) → k < length words → row_held pool words k ≡ row_no (rows_in pool words) k
  held_at k l = sym (row_held_lem pool words k l)

  pub listed_index : {by size room : ℕ} {heads next : List ℕ} → IndexBy by size room (row_held pool words) (length words) heads next → IndexBy by size room (row_no (rows_in pool words)) (length (rows_in pool words)) heads next
  listed_index x = rw (rows_long pool words) (index_same _ _ (length words) held_at x)

  pub index_held : {by size room : ℕ} {heads next : List ℕ} → IndexBy by size room (row_no (rows_in pool words)) (length (rows_in pool words)) heads next → IndexBy by size room (row_held pool words) (length words) heads next
  index_held x = index_same _ _ (length words) (λ k l. sym (held_at k l)) (rw (rows_long pool words) at x)

-- ---- the test of a row

-- a key that differs from the word's low bits
pub key_differs : (pool : List ℕ) (w key : ℕ) (xs : List ℕ) → Inside pool w → key / 256 ≡ length xs → (w % 65536 ≡ key → ⊥) → false ≡ row_is (row_in pool w) (key % 256) xs
unfolding row_is
key_differs pool w key xs inside e ne = go (eqb (symbol_in w) (key % 256)) refl
  where
    go : (b : Bool) → eqb (symbol_in w) (key % 256) ≡ b → false ≡ eqb (symbol_in w) (key % 256) && same_list (args_in pool w) xs
    go true q =
        let s = eqb-true (symbol_in w) (key % 256) q in
        rw (q, same_length eqb (args_in pool w) xs (λ h. ne (omega (arith, h, args_long pool w inside, e, s)))) refl
    go false q = rw q refl

pub key_same : (pool : List ℕ) (w key : ℕ) (xs ys : List ℕ) (b : Bool) → w % 65536 ≡ key → ys ≡ args_in pool w → b ≡ same_list ys xs → b ≡ row_is (row_in pool w) (key % 256) xs
unfolding row_is
key_same pool w key xs ys b e f g =
    let s : symbol_in w ≡ key % 256 = omega arith in
    rw (eq-eqb (symbol_in w) (key % 256) s, ← f) g

-- ---- the walk along a chain, and one row more

-- the row that a chain is walked for
module _ (row : ℕ → Row) (by size key : ℕ) (xs : List ℕ) where
  abbrev pub bucket : ℕ → ℕ
  bucket k = row_bucket by size (row k)

  abbrev pub sought : ℕ → Bool
  sought k = row_is (row k) (key % 256) xs

  -- it is in its bucket
  pub row_bucket_lem : (b : ℕ) → b ≡ hash_of by size key xs → key / 256 ≡ length xs → (k : ℕ) → sought k ≡ true → bucket k ≡ b
  row_bucket_lem b e f k t =
      let y = row_is_true (row k) (key % 256) xs t in
      let g : key % 256 + length xs * 256 ≡ key = omega (arith, f) in
      rw (y.0, y.1, g) (sym e)

  -- among rows of which none repeats another no earlier row is sought too
  pub no_earlier : (n : ℕ) → first_with (repeated_by row) n ≡ None → (r : ℕ) → r < n → sought r ≡ true → (k : ℕ) → k < r → sought k ≡ true → ⊥
  unfolding repeated_by
  no_earlier n none r rn t k lt y =
      let a = row_is_true (row r) (key % 256) xs t in
      first_none (repeated_by row) n none r rn
      (any_true r k (λ j. row_is (row j) (row r).symbol (row r).args) lt (rw (a.0, a.1) y))

-- what is found says whether an earlier row has the symbol and the arguments
pub earlier_by : (row : ℕ → Row) (n s : ℕ) (xs : List ℕ) (o : Option ℕ) → o ≡ found_by row n s xs → any_below n (λ j. row_is (row j) s xs) ≡ is_some o
earlier_by row n s xs o h = any_first (λ j. row_is (row j) s xs) n ∙ ap (λ (y : Option ℕ). is_some y) (sym h)

-- before the first row
pub index_begins : (by size room : ℕ) (row : ℕ → Row) {heads next : List ℕ} → Clear size room heads next → IndexBy by size room row 0 heads next
unfolding first_with
index_begins by size room row z = record { chains = chains_begin (λ r. row_bucket by size (row r)) z; distinct = refl }

-- one row more, which repeats none
pub indexed : {by size room : ℕ} {row : ℕ → Row} {n : ℕ} {heads next : List ℕ} → IndexBy by size room row n heads next → (b : ℕ) → b ≡ row_bucket by size (row n) → b < size → n < room
    → repeated_by row n ≡ false → IndexBy by size room row (n + 1) (set heads b (n + 1)) (set next n (get_or heads b 0))
indexed {by} {size} {room} {row} {n} x b e lt fits f = record { chains = chained x.chains b e lt fits; distinct = first_more (repeated_by row) n x.distinct f }

-- a symbol or an argument count that no row has
none_found : (rows : List Row) (s : ℕ) (xs : List ℕ) → ((k : ℕ) → k < length rows → (row_no rows k).symbol ≡ s → (row_no rows k).args ≡ xs → ⊥) → None ≡ row_found rows s xs
none_found rows s xs h = sym (none_first _ (length rows) (λ k l t. let y = row_is_true (row_no rows k) s xs t in h k l y.0 y.1))

-- the rows that words hold have symbols below 256 and at most 16 arguments
module _ (pool words : List ℕ) (h : Held pool words (length words)) (s : ℕ) (xs : List ℕ) where
  pub too_long : 16 < length xs → None ≡ row_found (rows_in pool words) s xs
  too_long many = none_found (rows_in pool words) s xs other
    where
      other : (k : ℕ) → k < length (rows_in pool words) → (row_no (rows_in pool words) k).symbol ≡ s → (row_no (rows_in pool words) k).args ≡ xs → ⊥
      other k l e f =
          let m : k < length words = rw (rows_long pool words) at l in
          let g : args_in pool (get_or words k 0) ≡ xs = ap (λ (r : Row). r.args) (sym (row_held_lem pool words k m)) ∙ f in
          omega (arith, (h.inside k m).few, args_long pool (get_or words k 0) (h.inside k m), ap length g)

  pub too_high : 255 < s → None ≡ row_found (rows_in pool words) s xs
  too_high many = none_found (rows_in pool words) s xs other
    where
      other : (k : ℕ) → k < length (rows_in pool words) → (row_no (rows_in pool words) k).symbol ≡ s → (row_no (rows_in pool words) k).args ≡ xs → ⊥
      other k l e f =
          let m : k < length words = rw (rows_long pool words) at l in
          let g : symbol_in (get_or words k 0) ≡ s = ap (λ (r : Row). r.symbol) (sym (row_held_lem pool words k m)) ∙ e in
          omega (arith, g)

-- ---- what seeking says

module _ (found : Option ℕ) (most n : ℕ) where
  pub sought_there : (k : ℕ) → Some k ≡ found → SoughtRow found most n (Ok (Some k))
  sought_there k e = record { sought = λ f h. let z : Some k ≡ f = cc in rw (← z) e; crowded = λ _ h. cc }

  pub sought_nowhere : None ≡ found → SoughtRow found most n (Ok None)
  sought_nowhere e = record { sought = λ f h. let z : None ≡ f = cc in rw (← z) e; crowded = λ _ h. cc }

-- ---- the index of words by number, and of the list of their rows

module _ {by : ℕ} (pool words : List ℕ) {heads : List ℕ} where
  pub index_words : Index by (rows_in pool words) heads (nexts words) → IndexBy by (length heads) (length words) (row_held pool words) (length words) heads (nexts words)
  index_words x = rw (length-map words next_in) at (index_held pool words x.rows_held)

  pub words_index : Multiplier by → Sized (length heads) → IndexBy by (length heads) (length words) (row_held pool words) (length words) heads (nexts words) → Index by (rows_in pool words) heads (nexts words)
  words_index m s x = record { multiplier = m; sized = s; rows_held = rw (length-map words next_in) (listed_index pool words x) }
