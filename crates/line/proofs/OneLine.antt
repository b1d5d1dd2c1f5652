-- "prints one line for each": with any table and names list, each answer is one line. Assumes nothing.
use Rattle.std.specs.Prelude.{if◌then◌else◌}
use Prim.Native.Nat.{ℕ, zero, suc, ◌-◌}
use mathlib.Core.Path.{◌≡◌, refl, ap, ◌∙◌}
use mathlib.Core.Bool.{Bool, true, false, not}
use mathlib.Core.List.{List, [], ◌∷◌, ◌++◌, append_assoc}
use native.Mathlib.Omega.{arith}
use lib.ListN.{length, get_or}
use lib.Dec.{eqb, ltb}
use borrow.Author.Tests.{ne_eqb}
use Rattle.model.specs.Answers.{Outcome, result, refused}
use Rattle.model.specs.Text.{ascii}
use Rattle.model.specs.Tree.{Forest, empty, node}
use Rattle.model.specs.Names.{Line, joined, lines_of, no_line, name_of}
use Rattle.model.specs.Entries.{tree_from}
use Rattle.model.specs.Term.{Terms, none, term, in_brackets, after_comma, text_of_terms, text_of}
use Rattle.model.specs.TermOperations.{names_of, entries_of, bytes_of, read_term_outcome, write_term_outcome}
use Rattle.model.specs.Number.{number_outcome}
use Rattle.model.specs.Write.{entries_for, write_outcome}
use Rattle.model.proofs.Choice.{and_true, and_both}
use Rattle.line.specs.Lines.{is_digit, all_digits, is_number, number_in, decimal, refused_word, blank, printed, and_then, answer_number, answer_term, answer_to, answers_to, output_for}
use Rattle.line.specs.Held.{no_end}
use Rattle.line.proofs.Feeding.{digit_range}
use Rattle.line.proofs.Decimal.{decimal_digits}
use Rattle.line.proofs.Output.{line_ended}

-- ---- bytes without byte 10

open_both : (a b : List ℕ) → no_end a ≡ true → no_end b ≡ true → no_end (a ++ b) ≡ true
unfolding no_end
open_both [] b e f = f
open_both (x ∷ a) b e f = let p = and_true (not (eqb x 10)) (no_end a) e in and_both (not (eqb x 10)) (no_end (a ++ b)) p.0 (open_both a b p.1 f)

digits_open : (ds : List ℕ) → all_digits ds ≡ true → no_end ds ≡ true
unfolding no_end all_digits
digits_open [] e = refl
digits_open (b ∷ bs) e =
    let p = and_true (is_digit b) (all_digits bs) e in
    let other : b ≡ 10 → ⊥ = λ q. omega (arith, q, (digit_range b p.0).0) in
    and_both (not (eqb b 10)) (no_end bs) (ap not (ne_eqb b 10 other)) (digits_open bs p.1)

decimal_open : (n : ℕ) → no_end (decimal n) ≡ true
unfolding is_number
decimal_open n = digits_open (decimal n) (and_true (ltb 0 (length (decimal n))) (all_digits (decimal n)) (decimal_digits n)).1

-- a line holds none
lines_open : (bs : List ℕ) (k : ℕ) → no_end (get_or (lines_of bs) k no_line).bytes ≡ true
unfolding lines_of no_end
lines_open [] k = refl
lines_open (b ∷ bs) k = go (eqb b 10) refl k (lines_open bs)
  where
    add : (ls : List Line) (k : ℕ) → eqb b 10 ≡ false → ((j : ℕ) → no_end (get_or ls j no_line).bytes ≡ true) → no_end (get_or (joined b ls) k no_line).bytes ≡ true
    add [] zero e h = rw e
    add [] (suc k) e h = refl
    add (l ∷ ls) zero e h = rw e (h 0)
    add (l ∷ ls) (suc k) e h = h (suc k)

    go : (t : Bool) → eqb b 10 ≡ t → (k : ℕ) → ((j : ℕ) → no_end (get_or (lines_of bs) j no_line).bytes ≡ true)
        → no_end (get_or (if t then record { bytes = []; ended = true } ∷ lines_of bs else joined b (lines_of bs)) k no_line).bytes ≡ true
    go true e zero h = refl
    go true e (suc k) h = h k
    go false e k h = add (lines_of bs) k e h

name_open : (names : List ℕ) (s : ℕ) → no_end (name_of names s) ≡ true
unfolding name_of
name_open names s = lines_open names (s - 1)

brackets_open : (t : Terms) (text : List ℕ) → no_end text ≡ true → no_end (in_brackets t text) ≡ true
unfolding no_end
brackets_open none text e = refl
brackets_open (term n inner right) text e = open_both text (41 ∷ []) e refl

comma_open : (t : Terms) (text : List ℕ) → no_end text ≡ true → no_end (after_comma t text) ≡ true
unfolding no_end
comma_open none text e = refl
comma_open (term n inner right) text e = e

terms_open : (names : List ℕ) (f : Forest) → no_end (text_of_terms (names_of names f)) ≡ true
unfolding no_end text_of_terms names_of
terms_open names empty = refl
terms_open names (node s children right) =
    let inner = names_of names children in
    let after = names_of names right in
    open_both (name_of names s ++ in_brackets inner (text_of_terms inner)) (after_comma after (text_of_terms after))
    (open_both (name_of names s) (in_brackets inner (text_of_terms inner)) (name_open names s) (brackets_open inner (text_of_terms inner) (terms_open names children)))
    (comma_open after (text_of_terms after) (terms_open names right))

text_open : (names tree : List ℕ) → no_end (bytes_of names tree) ≡ true
unfolding bytes_of text_of names_of
text_open names tree = terms_open names (node (tree_from tree).symbol (tree_from tree).children empty)

-- ---- one line: bytes without byte 10, and byte 10

pub record OneLine (bytes : List ℕ) : Type 0 where
  pub body : List ℕ
  pub whole : no_end body ≡ true
  pub is : bytes ≡ body ++ 10 ∷ []

words_open : (no_end refused_word ≡ true) × (no_end blank ≡ true)
unfolding no_end ascii
words_open = (refl, refl)

printed_line : (o : Outcome) (shown : ℕ → List ℕ) → ((n : ℕ) → no_end (shown n) ≡ true) → OneLine (printed o shown)
printed_line (result n) shown h = record { body = shown n; whole = h n; is = refl }
printed_line (refused k place) shown h = record {
  body = refused_word ++ decimal k ++ blank ++ decimal place;
  whole =
      open_both (refused_word ++ decimal k ++ blank) (decimal place)
      (open_both (refused_word ++ decimal k) blank (open_both refused_word (decimal k) words_open.0 (decimal_open k)) words_open.1)
      (decimal_open place);
  is = refl;
}

module _ (states : ℕ) (rows accepting names : List ℕ) where
  number_line : (n : ℕ) → OneLine (answer_number states rows accepting names n)
  unfolding answer_number
  number_line n =
      let tree = entries_for states rows accepting n in
      printed_line
      (and_then (write_outcome states rows accepting n (length tree)) (write_term_outcome names tree (length (bytes_of names tree))))
      (λ count. bytes_of names tree)
      (λ count. text_open names tree)

  term_line : (text : List ℕ) → OneLine (answer_term states rows accepting names text)
  unfolding answer_term
  term_line text =
      let tree = entries_of names text in
      printed_line (and_then (read_term_outcome names text (length tree)) (number_outcome states rows accepting tree)) decimal decimal_open

  pub answer_line : (line : List ℕ) → OneLine (answer_to states rows accepting names line)
  unfolding answer_to
  answer_line line = either (is_number line) (ltb 4096 (length line)) (number_line (number_in line)) (printed_line (refused 18 0) decimal decimal_open) (term_line line)
    where
      either : {a b c : List ℕ} (s t : Bool) → OneLine a → OneLine b → OneLine c → OneLine (if s then a else if t then b else c)
      either true t x y z = x
      either false true x y z = y
      either false false x y z = z

  answers_lines : (ls : List Line) → length (lines_of (answers_to states rows accepting names ls)) ≡ length ls
  unfolding lines_of answers_to
  answers_lines [] = refl
  answers_lines (l ∷ ls) =
      let x = answer_line l.bytes in
      let rest = answers_to states rows accepting names ls in
      ap (λ (a : List ℕ). length (lines_of (a ++ rest))) x.is
      ∙ ap (λ (a : List ℕ). length (lines_of a)) (append_assoc x.body (10 ∷ []) rest)
      ∙ ap (λ (a : List Line). length a) (line_ended x.body rest x.whole)
      ∙ ap suc (answers_lines ls)

  -- as many lines are printed as are read
  pub output_lines : (input : List ℕ) → length (lines_of (output_for states rows accepting names input)) ≡ length (lines_of input)
  unfolding output_for
  output_lines input = answers_lines (lines_of input)
