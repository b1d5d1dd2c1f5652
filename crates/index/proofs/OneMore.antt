-- Laws of entering a row: what its chain says of it, and one word and one row more. Assumes nothing.
use Rattle.std.specs.Prelude.{Option, is_some, Result, Ok, Err}
use Prim.Native.Nat.{ℕ, ◌+◌, ◌*◌, ◌%◌, ◌<◌}
use mathlib.Core.Path.{◌≡◌, refl, sym, ap, ◌∙◌}
use mathlib.Core.Bool.{true, false}
use mathlib.Core.List.{List}
use native.Mathlib.Omega.{arith}
use lib.ListN.{length, get_or, set}
use lib.Seq.{get_or-set_same, get_or-set_other}
use Rattle.model.specs.declared.Refusal.{Refusal}
use Rattle.model.specs.Answers.{refused, refused_by}
use Rattle.model.specs.Choice.{any_below}
use Rattle.model.specs.Table.{Row, row_is}
use Rattle.rows.specs.Words.{a_row, word_of, next_in, nexts, row_in, row_held, Apart}
use Rattle.rows.proofs.Words.{apart, row_of_lem, map_set}
use Rattle.index.specs.declared.Crowded.{Crowded}
use Rattle.index.specs.declared.TakeError.TheVariants.{Refused}
use Rattle.index.specs.Hash.{hash_of}
use Rattle.index.specs.Index.{found_by, repeated_by, row_bucket, IndexBy, SoughtRow, Enterable, EnteredRow}
use Rattle.index.proofs.Laws.{index_same, earlier_same, earlier_by, indexed}

-- a word put behind the others changes none of them
pub put_other : (pool words : List ℕ) (n w k : ℕ) → k < n → row_held pool words k ≡ row_held pool (set words n w) k
put_other pool words n w k l = ap (row_in pool) (sym (get_or-set_other words n k w 0 (λ e. omega arith)))

pub put_here : (pool words : List ℕ) (n w : ℕ) → n < length words → row_held pool (set words n w) n ≡ row_in pool w
put_here pool words n w l = ap (row_in pool) (get_or-set_same words n w 0 l)

-- a row that is known: whether it repeats an earlier one
pub repeated_is : (row : ℕ → Row) (n : ℕ) {s q : ℕ} {xs : List ℕ} → row n ≡ a_row s q xs → repeated_by row n ≡ any_below n (λ j. row_is (row j) s xs)
unfolding repeated_by
repeated_is row n e = ap (λ (r : Row). any_below n (λ j. row_is (row j) r.symbol r.args)) e

module _ {by most : ℕ} {pool words heads : List ℕ} {n symbol target from : ℕ} {args : List ℕ} (x : Enterable by pool words heads n symbol target from args)
    (key : ℕ) (is : key ≡ symbol + length args * 256) {o : Result (Option ℕ) Crowded} (s : SoughtRow (found_by (row_held pool words) n (key % 256) args) most n o) where
  its_symbol : key % 256 ≡ symbol
  its_symbol = omega (arith, x.symbol_low)

  -- what is found says whether an earlier row has the symbol and the arguments
  earlier : (f : Option ℕ) → f ≡ found_by (row_held pool words) n (key % 256) args → any_below n (λ j. row_is (row_held pool words j) symbol args) ≡ is_some f
  earlier f e = earlier_by (row_held pool words) n symbol args f (rw its_symbol at e)

  pub enter_repeats : (f : Option ℕ) → o ≡ Ok f → is_some f ≡ true → (r : Refusal) → refused_by r ≡ refused 6 n → EnteredRow by most pool words heads words heads n symbol target from args (Err (Refused r))
  enter_repeats f e t r said = record {
    enters = λ h. cc;
    repeats = λ g h. earlier f (s.sought f e) ∙ t;
    refusal = λ g h. let z : r ≡ g = cc in rw z at said;
    crowds = λ h. cc;
  }

  module _ (f : Option ℕ) (e : o ≡ Ok f) (t : is_some f ≡ false) (b : ℕ) (lt : b < length heads) (bucket : b ≡ hash_of by (length heads) key args) (w : ℕ) (word_is : w ≡ word_of symbol (length args) target from (get_or heads b 0)) where
    parts : Apart w symbol (length args) target from (get_or heads b 0)
    parts = rw word_is (apart symbol (length args) target from (get_or heads b 0) x.symbol_low (omega (arith, x.few)) x.target_low x.near (omega (arith, (x.index.chains.heads_link b lt).within, x.early)))

    abbrev row : ℕ → Row
    row = row_held pool (set words n w)

    here : row n ≡ a_row symbol target args
    here = put_here pool words n w x.room ∙ row_of_lem pool parts ∙ ap (a_row symbol target) (sym x.part)

    its_bucket : b ≡ row_bucket by (length heads) (row n)
    its_bucket = bucket ∙ ap (λ (k : ℕ). hash_of by (length heads) k args) is ∙ ap (row_bucket by (length heads)) (sym here)

    new : repeated_by row n ≡ false
    new = repeated_is row n here ∙ (sym (earlier_same (row_held pool words) row n (put_other pool words n w) symbol args) ∙ earlier f (s.sought f e) ∙ t)

    entered : IndexBy by (length heads) (length words) row (n + 1) (set heads b (n + 1)) (nexts (set words n w))
    entered =
        rw (map_set next_in words n w, parts.next_is)
        (indexed (index_same (row_held pool words) row n (put_other pool words n w) x.index) b its_bucket lt x.room new)

    pub enter_enters : EnteredRow by most pool words heads (set words n w) (set heads b (n + 1)) n symbol target from args (Ok tt)
    enter_enters = record {
      enters = λ h. record { word = w; next = get_or heads b 0; parts = parts; put = refl; index = entered };
      repeats = λ g h. cc;
      refusal = λ g h. cc;
      crowds = λ h. cc;
    }
