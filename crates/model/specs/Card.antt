-- The desk's error card: by which numbers each operation refuses, and why 8 is no longer one of them. Assumes nothing: these are definitions.
use Rattle.std.specs.Prelude.{ℕ, ◌≤◌, ◌<◌, ◌≡◌, Bool, true, ◌&&◌, ltb, if◌then◌else◌}
use mathlib.Core.List.{List, [], ◌∷◌, ◌++◌, Memᴰ}
use Rattle.model.specs.declared.Kind.{Kind}
use Rattle.model.specs.Answers.{Outcome, refused, kind_number}
use Rattle.model.specs.Table.{how_many_entries, state_at, table_of}
use Rattle.model.specs.Check.{all_below, lists_then, counts_outcome, count_limit, check_outcome}
use Rattle.model.specs.CheckRefusals.{FaultlessRows}
use Rattle.model.specs.Number.{number_outcome}
use Rattle.model.specs.Write.{write_outcome}
use Rattle.model.specs.TermOperations.{read_term_outcome, write_term_outcome}

-- the outcome is no refusal by this number
abbrev pub NotRefusedBy : ℕ → Outcome → Type 0
NotRefusedBy number o = (place : ℕ) → o ≡ refused number place → ⊥

-- ---- refusal 8 is withdrawn: document 02, request (f)

-- "Show from the accepting list's rules that it never occurs": every entry is a state, and none equals an earlier one. So each state stands in
-- the list at most once, and there are no more entries than states (the law `entries_few`)
abbrev pub EntriesFew : Type 0
EntriesFew =
    (states : ℕ) (accepting : List ℕ)
    → ((i : ℕ) → i < how_many_entries accepting → state_at accepting i < states)
    → ((i : ℕ) → i < how_many_entries accepting → (j : ℕ) → j < i → state_at accepting j ≡ state_at accepting i → ⊥)
    → how_many_entries accepting ≤ states

-- the check with the withdrawn line, "a list longer than the count of states is 8", between 7 and 9
unfoldable pub check_with_eight : (states : ℕ) (rows accepting : List ℕ) → Outcome
check_with_eight states rows accepting =
    lists_then states rows accepting
    (if ltb states (how_many_entries accepting) then refused 8 0 else
    counts_outcome count_limit (table_of states rows accepting))

-- "it never occurs": not in the check with its line (the law `eight_unmet`)
abbrev pub EightUnmet : Type 0
EightUnmet = (states : ℕ) (rows accepting : List ℕ) → NotRefusedBy 8 (check_with_eight states rows accepting)

-- where neither 1 nor a row refuses, a list longer than the count of states is 7, at a place that is at most that count (the law `long_list`)
abbrev pub LongList : Type 0
LongList =
    (states : ℕ) (rows accepting : List ℕ) → states ≤ 256 → FaultlessRows states rows → states < how_many_entries accepting
    → (place : ℕ) × (place ≤ states) × (check_outcome states rows accepting ≡ refused 7 place)

-- "and withdraw it": without the line every answer is the same (the law `as_before`); numbering and writing a tree take the check's answer
abbrev pub AsBefore : Type 0
AsBefore = (states : ℕ) (rows accepting : List ℕ) → check_outcome states rows accepting ≡ check_with_eight states rows accepting

-- "its number is not used again": by no kind of refusal (the law `eight_unused`), and by no operation (the law `never_eight`, below)
abbrev pub EightUnused : Type 0
EightUnused = (k : Kind) → kind_number k ≡ 8 → ⊥

-- ---- the operations

-- "check a table, number a tree, write the tree of a number, read a term, write a term"
pub data Operation : Type 0 where
  checking numbering writing reading_term writing_term : Operation

-- a table as it is lent: the count of states, the rows, the accepting list
pub record LentTable : Type 0 where
  pub states : ℕ
  pub rows : List ℕ
  pub accepting : List ℕ

-- what each operation takes; of a list to write to, its length
abbrev pub Input : Operation → Type 0
Input checking = LentTable
Input numbering = LentTable × List ℕ
Input writing = LentTable × ℕ × ℕ
Input reading_term = List ℕ × List ℕ × ℕ
Input writing_term = List ℕ × List ℕ × ℕ

-- and what it answers
abbrev pub outcome_of : (op : Operation) → Input op → Outcome
outcome_of checking T = check_outcome T.states T.rows T.accepting
outcome_of numbering (T, tree) = number_outcome T.states T.rows T.accepting tree
outcome_of writing (T, number, room) = write_outcome T.states T.rows T.accepting number room
outcome_of reading_term (names, text, room) = read_term_outcome names text room
outcome_of writing_term (names, tree, room) = write_term_outcome names tree room

-- what a caller can lend: lists of 16-bit entries or of bytes, counts and numbers of 64 bits
abbrev pub bits64 : ℕ → Bool
bits64 n = ltb n 18446744073709551616

abbrev pub bits16 : List ℕ → Bool
bits16 xs = all_below 65536 xs

abbrev pub bits8 : List ℕ → Bool
bits8 xs = all_below 256 xs

abbrev pub lendable_table : LentTable → Bool
lendable_table T = bits64 T.states && bits16 T.rows && bits16 T.accepting

abbrev pub lendable : (op : Operation) → Input op → Bool
lendable checking T = lendable_table T
lendable numbering (T, tree) = lendable_table T && bits16 tree
lendable writing (T, number, room) = lendable_table T && bits64 number && bits64 room
lendable reading_term (names, text, room) = bits8 names && bits8 text && bits64 room
lendable writing_term (names, tree, room) = bits8 names && bits16 tree && bits64 room

-- ---- the card

-- the numbers by which each operation refuses: those of document 01 without 8
abbrev pub check_numbers : List ℕ
check_numbers = 1 ∷ 2 ∷ 3 ∷ 4 ∷ 5 ∷ 6 ∷ 7 ∷ 9 ∷ 10 ∷ 11 ∷ []

abbrev pub card_numbers : Operation → List ℕ
card_numbers checking = check_numbers
-- "It first refuses as the check does.", both numbering and writing a tree
card_numbers numbering = check_numbers ++ 12 ∷ 13 ∷ 14 ∷ []
card_numbers writing = check_numbers ++ 15 ∷ 16 ∷ []
card_numbers reading_term = 17 ∷ 18 ∷ 19 ∷ 20 ∷ 21 ∷ 22 ∷ []
-- "It refuses 17, then 12, then 13, as above."
card_numbers writing_term = 17 ∷ 12 ∷ 13 ∷ 23 ∷ 24 ∷ []

-- the number can be made: something that can be lent is refused by it
abbrev pub CanBeMade : Operation → ℕ → Type 0
CanBeMade op number = (x : Input op) × (lendable op x ≡ true) × (place : ℕ) × (outcome_of op x ≡ refused number place)

-- the card says which refusals there are (the theorem `card`)
pub record Card : Type 0 where
  -- no others: whatever an operation takes, where it refuses, the number is on its card
  pub only : (op : Operation) (x : Input op) (number place : ℕ) → outcome_of op x ≡ refused number place → Memᴰ number (card_numbers op)
  -- and each of them can be made
  pub each : (op : Operation) (number : ℕ) → Memᴰ number (card_numbers op) → CanBeMade op number

-- no operation refuses by this number (the laws `never_zero`, for the C functions, which return 0 for a result; `never_eight`)
abbrev pub NoRefusal : ℕ → Type 0
NoRefusal number = (op : Operation) (x : Input op) → NotRefusedBy number (outcome_of op x)
