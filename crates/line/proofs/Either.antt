-- "Reading takes either spelling.": what is printed depends on the input through its bytes in small alone.
use Rattle.std.specs.Prelude.{if◌then◌else◌}
use Prim.Native.Nat.{ℕ}
use mathlib.Core.Path.{◌≡◌, refl, ap, sym, ◌∙◌}
use mathlib.Core.Bool.{Bool, true, false}
use mathlib.Core.List.{List, [], ◌∷◌, ◌++◌, map}
use native.Mathlib.Omega.{arith}
use lib.ListN.{length, length-map}
use lib.Dec.{ltb, leb}
use borrow.Author.Tests.{leb-true}
use Rattle.model.specs.Answers.{Outcome, result, refused}
use Rattle.model.specs.Names.{is_letter, lower, Line, lines_of, names_then}
use Rattle.model.specs.Number.{number_outcome}
use Rattle.model.specs.Term.{Scan, passes, breaks_at, due, scan, term_then}
use Rattle.model.specs.TermOperations.{entries_of, read_term_outcome}
use Rattle.model.proofs.Choice.{and_true, not_both, is_false}
use Rattle.model.proofs.Bytes.{letter_below}
use Rattle.model.proofs.Alike.{lower_letter, lower_other}
use Rattle.model.proofs.Scan.{scan_whole, whole_term}
use Rattle.model.proofs.Inverse.{read_back}
use Rattle.model.proofs.Either.{from_small, entries_small, read_small, small_line, lines_small}
use Rattle.line.specs.Lines.{is_digit, all_digits, is_number, number_in, printed, and_then, decimal, answer_number, answer_term, answer_to, answers_to, output_for, EitherInput}

-- ---- a line of digits stays as it is

letter_no_digit : (b : ℕ) → is_letter b ≡ true → is_digit b ≡ false
letter_no_digit b e = is_false (is_digit b) (λ f. not_both (is_letter b) e (letter_below b (omega (arith, leb-true b 57 (and_true (leb 48 b) (leb b 57) f).1))))

digit_small : (b : ℕ) → is_digit (lower b) ≡ is_digit b
digit_small b = go (is_letter b) refl
  where
    go : (t : Bool) → is_letter b ≡ t → is_digit (lower b) ≡ is_digit b
    go true e = letter_no_digit (lower b) (lower_letter b ∙ e) ∙ sym (letter_no_digit b e)
    go false e = ap is_digit (lower_other b e)

digits_small : (line : List ℕ) → all_digits (map lower line) ≡ all_digits line
unfolding all_digits
digits_small [] = refl
digits_small (b ∷ bs) = rw (digit_small b, digits_small bs)

number_small : (line : List ℕ) → is_number (map lower line) ≡ is_number line
unfolding is_number
number_small line = rw (length-map line lower, digits_small line)

digits_stay : (line : List ℕ) → all_digits line ≡ true → map lower line ≡ line
unfolding all_digits
digits_stay [] e = refl
digits_stay (b ∷ bs) e =
    let p = and_true (is_digit b) (all_digits bs) e in
    let other : is_letter b ≡ false = is_false (is_letter b) (λ f. not_both (is_digit b) p.0 (letter_no_digit b f)) in
    λ i. lower_other b other i ∷ digits_stay bs p.1 i

number_stays : (line : List ℕ) → is_number line ≡ true → map lower line ≡ line
unfolding is_number
number_stays line e = digits_stay line (and_true (ltb 0 (length line)) (all_digits line) e).1

-- ---- a term is answered alike

-- what reading answers where the text is no term: a refusal, whatever the list's length
abbrev broken : (names text : List ℕ) (place : ℕ) → Outcome
broken names text place = names_then names (if ltb 65536 (length text) then refused 18 0 else refused 19 place)

read_broken : (names text : List ℕ) (place room : ℕ) → scan (due 0) 0 text ≡ breaks_at place → read_term_outcome names text room ≡ broken names text place
unfolding read_term_outcome term_then
read_broken names text place room e = rw e

passes_no : (place : ℕ) → passes ≡ breaks_at place → ⊥
passes_no place e = let z : ◌≡◌ {A = ℕ} 0 1 = cc in absurd (omega arith)

broken_same : (names text : List ℕ) (place : ℕ) → scan (due 0) 0 text ≡ breaks_at place → (next other : Outcome)
    → and_then (broken names text place) next ≡ and_then (broken names text place) other
broken_same names text place e next other = go (broken names text place) refl
  where
    go : (o : Outcome) → broken names text place ≡ o → and_then o next ≡ and_then o other
    go (result n) f =
        let z : passes ≡ breaks_at place = sym (scan_whole text (read_back names text 0 n (read_broken names text place 0 e ∙ f)).0.well) ∙ e in
        absurd (passes_no place z)
    go (refused k p) f = refl

module _ (states : ℕ) (rows accepting names : List ℕ) where
  term_answer : (text : List ℕ) → answer_term states rows accepting names (map lower text) ≡ answer_term states rows accepting names text
  unfolding answer_term
  term_answer text = ap (λ (o : Outcome). printed o decimal) (go (scan (due 0) 0 text) refl)
    where
      small : List ℕ
      small = entries_of names (map lower text)

      tree : List ℕ
      tree = entries_of names text

      number : List ℕ → Outcome
      number entries = number_outcome states rows accepting entries

      go : (s : Scan) → scan (due 0) 0 text ≡ s
          → and_then (read_term_outcome names (map lower text) (length small)) (number small) ≡ and_then (read_term_outcome names text (length tree)) (number tree)
      go passes f =
          ap (λ (o : Outcome). and_then o (number small)) (read_small names (length small) text)
          ∙ ap (λ (xs : List ℕ). and_then (read_term_outcome names text (length xs)) (number xs)) (entries_small names text (whole_term text f))
      go (breaks_at p) f =
          ap (λ (o : Outcome). and_then o (number small)) (read_small names (length small) text ∙ read_broken names text p (length small) f)
          ∙ broken_same names text p f (number small) (number tree)
          ∙ ap (λ (o : Outcome). and_then o (number tree)) (sym (read_broken names text p (length tree) f))

  -- ---- a line, and the whole input

  line_answer : (line : List ℕ) → answer_to states rows accepting names (map lower line) ≡ answer_to states rows accepting names line
  unfolding answer_to
  line_answer line = rw (number_small line, length-map line lower, term_answer line) (go (is_number line) refl)
    where
      go : (t : Bool) → is_number line ≡ t
          → (if t then answer_number states rows accepting names (number_in (map lower line)) else
          if ltb 4096 (length line) then printed (refused 18 0) decimal else answer_term states rows accepting names line)
          ≡ (if t then answer_number states rows accepting names (number_in line) else
          if ltb 4096 (length line) then printed (refused 18 0) decimal else answer_term states rows accepting names line)
      go true e = ap (λ (x : List ℕ). answer_number states rows accepting names (number_in x)) (number_stays line e)
      go false e = refl

  lines_answer : (ls : List Line) → answers_to states rows accepting names (map small_line ls) ≡ answers_to states rows accepting names ls
  unfolding answers_to
  lines_answer [] = refl
  lines_answer (l ∷ ls) = λ i. line_answer l.bytes i ++ lines_answer ls i

  input_answer : (input : List ℕ) → output_for states rows accepting names (map lower input) ≡ output_for states rows accepting names input
  unfolding output_for
  input_answer input = ap (answers_to states rows accepting names) (lines_small input) ∙ lines_answer (lines_of input)

pub either_input : EitherInput
either_input states rows accepting names = from_small (output_for states rows accepting names) (input_answer states rows accepting names)
