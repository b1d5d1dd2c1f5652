-- Laws of the one pass: the grounds 2 to 5 row by row, and 6 by the index of the rows before. Assumes nothing.
use Rattle.std.specs.Prelude.{Result, Ok, Err, MatchResult, if◌then◌else◌}
use Rattle.std.specs.Result.{IsErrAnd}
use Prim.Native.Nat.{ℕ, zero, suc, ◌+◌, ◌*◌, ◌<◌, ◌≤◌}
use mathlib.Core.Path.{◌≡◌, refl, sym, ap, subst, ◌∙◌}
use mathlib.Core.Bool.{Bool, true, false}
use mathlib.Core.List.{List, [], ◌∷◌, map-append}
use native.Mathlib.Omega.{arith}
use native.Mathlib.Numerals.{add-one}
use lib.ListN.{length, get_or, take, drop, length-set, length-map}
use lib.Seq.{get_or-set_same, get_or-set_other, take-suc, length-take-le, get_or-take}
use lib.Dec.{ltb}
use borrow.Author.Tests.{ltb-true, ltb-false}
use borrow.Author.Count.{below_more}
use Rattle.model.specs.declared.Kind.{Kind}
use Rattle.model.specs.declared.Kind.TheVariants.{RepeatedRow}
use Rattle.model.specs.declared.Refusal.{Refusal}
use Rattle.model.specs.Answers.{refused, refused_by, kind_number}
use Rattle.model.specs.Choice.{any_below}
use Rattle.model.specs.Table.{row_is, row_at, args_at, arg_count_at, row_start, row_numbered, how_many_rows, first_rows, rows_of}
use Rattle.model.specs.Check.{repeated, row_ground}
use Rattle.model.proofs.Numbers.{kind_positive}
use Rattle.model.proofs.Choice.{is_false}
use Rattle.model.proofs.Rows.{row_start_least, row_start_grows, row_count, how_many_rows_is, args_length}
use Rattle.chains.specs.First.{AllFine, FirstAt}
use Rattle.chains.specs.Chains.{Clear}
use Rattle.chains.proofs.First.{first_none}
use Rattle.rows.specs.Words.{a_row, next_in, nexts, after_in, row_in, rows_in, row_held, Inside, Held}
use Rattle.rows.specs.Walk.{row_step, step_ground, form_ground, Room}
use Rattle.rows.proofs.Words.{row_of_lem, next_at}
use Rattle.rows.proofs.Walk.{form_else, ground_is, Stepped, stepped}
use Rattle.index.specs.declared.TakeError.{TakeError}
use Rattle.index.specs.declared.TakeError.TheVariants.{Refused, Crowded}
use Rattle.index.specs.Hash.{Multiplier, Sized}
use Rattle.index.specs.Index.{repeated_by, IndexBy, Enterable, RowEntered, EnteredRow}
use Rattle.index.specs.Taken.{AllTaken, Taken}
use Rattle.index.proofs.Laws.{index_begins, index_same, earlier_same, repeated_same, words_index}

-- ---- the grounds of document 01

row_form : (states : ℕ) (rows : List ℕ) (i k : ℕ) → form_ground states rows i ≡ k → 0 < k → row_ground states rows i ≡ k
unfolding form_else
row_form states rows i zero e lt = absurd (omega arith)
row_form states rows i (suc k) e lt = ground_is states rows i ∙ ap (λ (v : ℕ). form_else v (repeated rows i)) e

row_by : (states : ℕ) (rows : List ℕ) (i : ℕ) (b : Bool) → form_ground states rows i ≡ 0 → repeated rows i ≡ b → row_ground states rows i ≡ (if b then 6 else 0)
unfolding form_else
row_by states rows i b e f = ground_is states rows i ∙ ap (λ (v : ℕ). form_else v (repeated rows i)) e ∙ ap (λ (t : Bool). if t then 6 else 0) f

-- a row that begins within the list is one of its rows
inside : (rows : List ℕ) (n : ℕ) → row_start rows n < length rows → n < how_many_rows rows
inside rows n lt = go (ltb n (how_many_rows rows)) refl
  where
    go : (b : Bool) → ltb n (how_many_rows rows) ≡ b → n < how_many_rows rows
    go true e = ltb-true n (how_many_rows rows) e
    go false e =
        let ge = ltb-false n (how_many_rows rows) e in
        absurd (omega (arith, row_start_grows rows (how_many_rows rows) n ge, (row_count rows).end))

start_next : (rows : List ℕ) (n : ℕ) → row_start rows (n + 1) ≡ row_start rows n + 3 + arg_count_at rows (row_start rows n)
unfolding row_start
start_next rows n = rw (add-one n)

-- ---- the first words

-- the first words hold the first rows
rows_first : (rows words : List ℕ) (n : ℕ) → n ≤ length words → ((r : ℕ) → r < n → row_held rows words r ≡ row_numbered rows r) → rows_in rows (take n words) ≡ first_rows rows n
unfolding first_rows
rows_first rows words zero le h = refl
rows_first rows words (suc n) le h =
    ap (rows_in rows) (take-suc words n 0 (omega arith))
    ∙ map-append (row_in rows) (take n words) (get_or words n 0 ∷ [])
    ∙ rw (rows_first rows words n (omega arith) (λ r l. h r (omega arith)), h n (omega arith)) refl

-- and are indexed as they were
module _ (pool words : List ℕ) (n : ℕ) (le : n ≤ length words) where
  long : length (take n words) ≡ n
  long = length-take-le n words le

  word_at : (r : ℕ) → r < n → get_or (take n words) r 0 ≡ get_or words r 0
  word_at r l = get_or-take n words r 0 l

  index_first : {by size room : ℕ} {heads : List ℕ} → IndexBy by size room (row_held pool words) n heads (nexts words)
      → IndexBy by size (length (take n words)) (row_held pool (take n words)) (length (take n words)) heads (nexts (take n words))
  index_first {by} {size} {room} {heads} x =
      rw long (index_same (row_held pool words) (row_held pool (take n words)) n (λ k l. ap (row_in pool) (sym (word_at k l))) (record {
        chains = record {
          heads_long = x.chains.heads_long;
          next_long = length-map (take n words) next_in ∙ long;
          heads_link = x.chains.heads_link;
          next_link = λ r l. rw (link r l) (x.chains.next_link r l);
        };
        distinct = x.distinct;
      }))
    where
      link : (r : ℕ) → r < n → get_or (nexts (take n words)) r 0 ≡ get_or (nexts words) r 0
      link r l = next_at (take n words) r (rw long l) ∙ ap next_in (word_at r l) ∙ sym (next_at words r (omega arith))

-- buckets that keep their number
pub still_sized : (heads₀ heads : List ℕ) → Sized (length heads₀) → length heads ≡ length heads₀ → Sized (length heads)
still_sized heads₀ heads s e = (omega (arith, s.0, e), omega (arith, s.1, e))

-- ---- the pass

-- n rows have passed, and the next begins at `at`: their words hold them, and they are indexed
pub record Taking (by states : ℕ) (rows words heads : List ℕ) (at n : ℕ) : Type 0 where
  pub here : at ≡ row_start rows n
  pub near : at ≤ 19 * n
  pub room : Room (length words) (length rows)
  pub held : Held rows words n
  pub same : (r : ℕ) → r < n → row_held rows words r ≡ row_numbered rows r
  pub begun : (i : ℕ) → i < n → row_start rows i < length rows
  pub fine : (i : ℕ) → i < n → form_ground states rows i ≡ 0
  pub index : IndexBy by (length heads) (length words) (row_held rows words) n heads (nexts words)
  pub free : (r : ℕ) → r < n → after_in (get_or words r 0) ≡ 0

-- what the test of row n says, where its ground is made a refusal at n
abbrev pub Placed : (n : ℕ) → Result (Unit {0}) Kind → Result (Unit {0}) Refusal → Type 0
Placed n k r = MatchResult k (λ x. r ≡ Ok x) (λ e. IsErrAnd r (λ f. f ≡ record { place = n; kind = e }))

pub placed_ok : (n : ℕ) (k : Result (Unit {0}) Kind) (r : Result (Unit {0}) Refusal) → Placed n k r → r ≡ Ok (tt {0}) → {o : Result (Unit {0}) Kind} → k ≡ o → o ≡ Ok (tt {0})
placed_ok n (Ok u) r h e s = sym s
placed_ok n (Err x) (Ok u) h e s = absurd h
placed_ok n (Err x) (Err f) h e s = cc

pub placed_err : (n : ℕ) (k : Result (Unit {0}) Kind) (r : Result (Unit {0}) Refusal) → Placed n k r → (f : Refusal) → r ≡ Err f → (k ≡ Err f.kind) × (f.place ≡ n)
placed_err n (Ok u) r h f e = cc
placed_err n (Err x) (Ok u) h f e = absurd h
placed_err n (Err x) (Err g) h f e =
    let z : g ≡ f = cc in
    let y : f ≡ record { place = n; kind = x } = sym z ∙ h in
    (ap (λ (k : Kind). Err k) (sym (ap (λ (r : Refusal). r.kind) y)), ap (λ (r : Refusal). r.place) y)

pub taking_begins : (by states : ℕ) (rows words heads : List ℕ) → Room (length words) (length rows) → Clear (length heads) (length words) heads (nexts words) → Taking by states rows words heads 0 0
unfolding row_start
taking_begins by states rows words heads room clear = record {
  here = refl;
  near = omega arith;
  room = room;
  held = record { many = omega arith; long = omega arith; inside = λ r l. absurd (omega arith) };
  same = λ r l. absurd (omega arith);
  begun = λ i l. absurd (omega arith);
  fine = λ i l. absurd (omega arith);
  index = index_begins by (length heads) (length words) (row_held rows words) clear;
  free = λ r l. absurd (omega arith);
}

module _ {by states : ℕ} {rows words heads : List ℕ} {at n : ℕ} (x : Taking by states rows words heads at n) where
  -- a row repeats an earlier one just where the packed row does
  all_fine : AllFine n (row_ground states rows)
  unfolding repeated repeated_by
  all_fine i l =
      row_by states rows i false (x.fine i l)
      (is_false (repeated rows i) (λ e. first_none (repeated_by (row_held rows words)) n x.index.distinct i l (repeated_same (row_held rows words) (row_numbered rows) n x.same i l ∙ e)))

  taking_crowded : (most : ℕ) → most ≤ n → {words' heads' : List ℕ} → Taken by most states rows words' heads' (Err Crowded)
  taking_crowded most le = record {
    passed = λ m h. cc;
    stopped = λ f h. cc;
    crowded = λ h. omega (arith, x.held.many);
  }

  module _ (lt : at < length rows) where
    -- a refusal that is said of row n
    stopped_at : (most : ℕ) (k : Kind) (f : Refusal) → refused_by f ≡ refused (kind_number k) n → row_ground states rows n ≡ kind_number k
        → {words' heads' : List ℕ} → Taken by most states rows words' heads' (Err (Refused f))
    stopped_at most k f said e = record { passed = λ m h. cc; stopped = λ g h. other g h; crowded = λ h. cc }
      where
        first : FirstAt (how_many_rows rows) (row_ground states rows) f.place (kind_number f.kind)
        first =
            let p : f.place ≡ n = cc in
            let q : kind_number f.kind ≡ kind_number k = cc in
            rw (p, q) (record { inside = inside rows n (rw x.here at lt); before = all_fine; here = e })

        other : (g : Refusal) → ◌≡◌ {A = Result ℕ TakeError} (Err (Refused f)) (Err (Refused g)) → FirstAt (how_many_rows rows) (row_ground states rows) g.place (kind_number g.kind)
        other g h = let z : f ≡ g = cc in subst (λ (r : Refusal). FirstAt (how_many_rows rows) (row_ground states rows) r.place (kind_number r.kind)) z first

    pub taking_stops : (most : ℕ) (k : Kind) (f : Refusal) → refused_by f ≡ refused (kind_number k) n → row_step states rows n at ≡ Err k
        → {words' heads' : List ℕ} → Taken by most states rows words' heads' (Err (Refused f))
    taking_stops most k f said e = stopped_at most k f said (row_form states rows n (kind_number k) (ap step_ground (rw x.here at e)) (kind_positive k))

    module _ (few : states ≤ 256) (e : row_step states rows n at ≡ Ok tt) where
      step : Stepped states rows n at
      step = stepped states rows n at e

      args_many : length (args_at rows at) ≡ arg_count_at rows at
      args_many = args_length rows at step.whole

      -- the next row has a fine form, and can be entered
      form_fine : form_ground states rows n ≡ 0
      form_fine = ap step_ground (rw x.here at e)

      pub taking_enters : Multiplier by → Sized (length heads) → (args : List ℕ) → args ≡ args_at rows at → Enterable by rows words heads n (get_or rows at 0) (get_or rows (at + 1) 0) (at + 3) args
      taking_enters m s args is = rw is (record {
        multiplier = m;
        sized = s;
        held = x.held;
        index = x.index;
        early = step.early;
        room = x.room n step.early (omega (arith, row_start_least rows n, x.here));
        symbol_low = step.symbol;
        target_low = omega (arith, step.target);
        few = omega (arith, step.few, args_many);
        near = omega (arith, x.near, step.early);
        inside = omega (arith, args_many, step.whole);
        part = rw args_many refl;
      })

      taking_repeats : (most : ℕ) (f : Refusal) → refused_by f ≡ refused 6 n → (args : List ℕ) → args ≡ args_at rows at → any_below n (λ j. row_is (row_held rows words j) (get_or rows at 0) args) ≡ true
          → {words' heads' : List ℕ} → Taken by most states rows words' heads' (Err (Refused f))
      unfolding repeated
      taking_repeats most f said args is t =
          stopped_at most RepeatedRow f said
          (row_by states rows n true form_fine
          (sym (earlier_same (row_held rows words) (row_numbered rows) n x.same (row_numbered rows n).symbol (row_numbered rows n).args)
          ∙ ap (λ (a : ℕ). any_below n (λ j. row_is (row_held rows words j) (get_or rows a 0) (args_at rows a))) (sym x.here)
          ∙ (rw is at t)))

      pub taking_refuses : (most : ℕ) (args : List ℕ) → args ≡ args_at rows at → {words' heads' : List ℕ} (e : TakeError)
          → EnteredRow by most rows words heads words' heads' n (get_or rows at 0) (get_or rows (at + 1) 0) (at + 3) args (Err e) → Taken by most states rows words' heads' (Err e)
      taking_refuses most args is (Refused f) y = taking_repeats most f (y.refusal f refl) args is (y.repeats f refl)
      taking_refuses most args is Crowded y = taking_crowded most (y.crowds refl)

      pub taking_goes : (args : List ℕ) → args ≡ args_at rows at → {words' heads' : List ℕ} → RowEntered by rows words heads words' heads' n (get_or rows at 0) (get_or rows (at + 1) 0) (at + 3) args
          → Taking by states rows words' heads' (at + (3 + length args)) (n + 1)
      taking_goes args is {words'} {heads'} y = record {
        here = rw (args_is, start_next rows n, ← x.here) (omega arith);
        near = omega (arith, x.near, args_is, step.few);
        room = λ k early l. rw length_is (x.room k early l);
        held = record {
          many = omega (arith, step.early);
          long = rw length_is (omega (arith, place));
          inside = below_more _ n (λ r l. rw (old r l) (x.held.inside r l)) (rw new fits);
        };
        same = below_more _ n (λ r l. ap (row_in rows) (old r l) ∙ x.same r l) (ap (row_in rows) new ∙ row_is_lem ∙ ap (row_at rows) x.here);
        begun = below_more _ n x.begun (rw (← x.here) lt);
        fine = below_more _ n x.fine form_fine;
        index = rw (y.index.chains.heads_long, length_is) y.index;
        free = below_more _ n (λ r l. ap after_in (old r l) ∙ x.free r l) (ap after_in new ∙ y.parts.after_is);
      }
        where
          w : ℕ
          w = y.word

          args_is : length args ≡ arg_count_at rows at
          args_is = ap length is ∙ args_many

          length_is : length words' ≡ length words
          length_is = ap length y.put ∙ length-set words n w

          place : n < length words
          place = x.room n step.early (omega (arith, row_start_least rows n, x.here))

          old : (r : ℕ) → r < n → get_or words' r 0 ≡ get_or words r 0
          old r l = ap (λ (l : List ℕ). get_or l r 0) y.put ∙ get_or-set_other words n r w 0 (λ e. omega arith)

          new : get_or words' n 0 ≡ w
          new = ap (λ (l : List ℕ). get_or l n 0) y.put ∙ get_or-set_same words n w 0 place

          fits : Inside rows w
          fits = record { ends = omega (arith, y.parts.from_is, y.parts.count_is, args_is, step.whole); few = omega (arith, y.parts.count_is, args_is, step.few) }

          row_is_lem : row_in rows w ≡ row_at rows at
          row_is_lem = row_of_lem rows y.parts ∙ ap (λ (k : ℕ). a_row (get_or rows at 0) (get_or rows (at + 1) 0) (take k (drop (at + 3) rows))) args_is

  pub taking_ends : (most : ℕ) → Multiplier by → Sized (length heads) → length rows ≤ at → Taken by most states rows words heads (Ok n)
  unfolding rows_of
  taking_ends most m s ge = record {
    passed = λ k h. other k h;
    stopped = λ f h. cc;
    crowded = λ h. cc;
  }
    where
      all : how_many_rows rows ≡ n
      all = how_many_rows_is rows n x.begun (rw x.here at ge)

      taken : AllTaken by states rows (take n words) heads n
      taken = record {
        all = sym all;
        fine = all_fine;
        held = record {
          many = x.held.many;
          long = rw (long rows words n x.held.long) (omega arith);
          inside = λ r l. rw (word_at rows words n x.held.long r l) (x.held.inside r l);
        };
        long = long rows words n x.held.long;
        same = rows_first rows words n x.held.long x.same ∙ ap (first_rows rows) (sym all);
        index = words_index rows (take n words) m s (index_first rows words n x.held.long x.index);
        free = λ r l. ap after_in (word_at rows words n x.held.long r l) ∙ x.free r l;
      }

      other : (k : ℕ) → ◌≡◌ {A = Result ℕ TakeError} (Ok n) (Ok k) → AllTaken by states rows (take k words) heads k
      other k h = let a : n ≡ k = cc in rw (← a) taken
