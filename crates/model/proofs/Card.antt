-- The card: each operation refuses by its numbers, and by no others; and the withdrawn 8.
use Rattle.std.specs.Prelude.{if◌then◌else◌}
use Prim.Native.Nat.{ℕ, ◌≤◌, ◌<◌}
use mathlib.Core.Path.{◌≡◌, refl, ap, sym, ◌∙◌}
use mathlib.Core.Bool.{Bool, true, false, ◌||◌}
use mathlib.Core.Logic.{◌⊎◌, inl, inr}
use mathlib.Core.List.Memᴰ
use mathlib.Core.List.{List, [], ◌∷◌, Memᴰ}
use native.Mathlib.Omega.{arith}
use lib.Dec.{eqb, ltb}
use borrow.Author.Tests.{eqb-true, eqb-false, le-ltb}
use Rattle.model.specs.Answers.{Outcome, result, refused}
use Rattle.model.specs.Choice.{first_faulty}
use Rattle.model.specs.Table.{Table, how_many_rows, how_many_entries}
use Rattle.model.specs.Check.{row_ground, accepting_ground, check_within, check_outcome}
use Rattle.model.specs.Limits.{BeyondLimits, nine, ten}
use Rattle.model.specs.CheckRefusals.{RowRefused, row2, row3, row4, row5, row6, CheckRefused, check1, check2to6, check7, check9to10, check11}
use Rattle.model.specs.TermRefusals.{ReadRefused, read17, read18, read19, read20, read21, read22, WriteRefused, write17, write12, write13, write23, write24}
use Rattle.model.specs.TreeRefusals.{NumberRefused, number_as_check, number12, number13, number14, TreeRefused, tree_as_check, tree15, tree16}
use Rattle.model.specs.Card.{check_with_eight, EightUnmet, LongList, AsBefore, Operation, checking, numbering, writing, reading_term, writing_term, Input, outcome_of, card_numbers, Card, NoRefusal}
use Rattle.model.proofs.Choice.{if_no, or_true, or_false, not_both, no_fault, first_fault, Decided, clear, faulty, decided}
use Rattle.model.proofs.Checked.{entry_good, first_few, entries_few}
use Rattle.model.proofs.CheckRefusals.{entry_faulty, entry_faultless, check_refuses}
use Rattle.model.proofs.TermRefusals.{read_refuses, write_refuses}
use Rattle.model.proofs.TreeRefusals.{number_refuses, tree_refuses}
use Rattle.model.proofs.Made.{made}

-- ---- the numbers of an operation

is_in : List ℕ → ℕ → Bool
is_in [] k = false
is_in (x ∷ xs) k = eqb k x || is_in xs k

in_list : (xs : List ℕ) (k : ℕ) → is_in xs k ≡ true → Memᴰ k xs
unfolding is_in
in_list [] k e = absurd (not_both false e refl)
in_list (x ∷ xs) k e = go (or_true (eqb k x) (is_in xs k) e) (in_list xs k)
  where
    go : (eqb k x ≡ true) ⊎ (is_in xs k ≡ true) → (is_in xs k ≡ true → Memᴰ k xs) → Memᴰ k (x ∷ xs)
    go (inl f) rest = Memᴰ.head (eqb-true k x f)
    go (inr f) rest = Memᴰ.tail (rest f)

not_in : (xs : List ℕ) (k : ℕ) → is_in xs k ≡ false → Memᴰ k xs → ⊥
unfolding is_in
not_in [] k e m = Memᴰ.not-nil m
not_in (x ∷ xs) k e m = let p = or_false (eqb k x) (is_in xs k) e in go p.0 (not_in xs k p.1) (Memᴰ.cases_cons m)
  where
    go : eqb k x ≡ false → (Memᴰ k xs → ⊥) → (k ≡ x) ⊎ Memᴰ k xs → ⊥
    go f rest (inl d) = eqb-false k x f d
    go f rest (inr r) = rest r

-- a ground's number stands on the card of its operation
on : (op : Operation) (k : ℕ) {number : ℕ} → number ≡ k → is_in (card_numbers op) k ≡ true → Memᴰ number (card_numbers op)
on op k n e = Memᴰ.cast n (in_list (card_numbers op) k e)

by_row : {states : ℕ} {rows : List ℕ} {i number : ℕ} → RowRefused states rows i number → Memᴰ number (card_numbers checking)
unfolding is_in
by_row (row2 n x) = on checking 2 n refl
by_row (row3 n a x) = on checking 3 n refl
by_row (row4 n a b x) = on checking 4 n refl
by_row (row5 n a b c x) = on checking 5 n refl
by_row (row6 n a b c d x) = on checking 6 n refl

by_state : {T : Table} {q number : ℕ} → BeyondLimits T q number → Memᴰ number (card_numbers checking)
unfolding is_in
by_state (nine n many r a) = on checking 9 n refl
by_state (ten n many r a t h b) = on checking 10 n refl

by_check : {states : ℕ} {rows accepting : List ℕ} {number place : ℕ} → CheckRefused states rows accepting number place → Memᴰ number (card_numbers checking)
unfolding is_in
by_check (check1 n p a) = on checking 1 n refl
by_check (check2to6 s f) = by_row f.here
by_check (check7 n s c f) = on checking 7 n refl
by_check (check9to10 s c d f) = by_state f.here
by_check (check11 n s c d f) = on checking 11 n refl

check_card : (states : ℕ) (rows accepting : List ℕ) (number place : ℕ) → check_outcome states rows accepting ≡ refused number place → Memᴰ number (card_numbers checking)
check_card states rows accepting number place e = by_check ((check_refuses states rows accepting number place).0 e)

by_number : {states : ℕ} {rows accepting tree : List ℕ} {number place : ℕ} → NumberRefused states rows accepting tree number place → Memᴰ number (card_numbers numbering)
unfolding is_in
by_number (number_as_check e) = Memᴰ.append_left _ (check_card _ _ _ _ _ e)
by_number (number12 n p t h a) = on numbering 12 n refl
by_number (number13 n t h l f) = on numbering 13 n refl
by_number (number14 n t h l w f) = on numbering 14 n refl

by_tree : {states : ℕ} {rows accepting : List ℕ} {m room number place : ℕ} → TreeRefused states rows accepting m room number place → Memᴰ number (card_numbers writing)
unfolding is_in
by_tree (tree_as_check e) = Memᴰ.append_left _ (check_card _ _ _ _ _ e)
by_tree (tree15 n p t h l) = on writing 15 n refl
by_tree (tree16 n t h l x p r) = on writing 16 n refl

by_read : {names text : List ℕ} {room number place : ℕ} → ReadRefused names text room number place → Memᴰ number (card_numbers reading_term)
unfolding is_in
by_read (read17 n f) = on reading_term 17 n refl
by_read (read18 n p s l) = on reading_term 18 n refl
by_read (read19 n s l f) = on reading_term 19 n refl
by_read (read20 n s l w f) = on reading_term 20 n refl
by_read (read21 n p s l w a f) = on reading_term 21 n refl
by_read (read22 n p r l) = on reading_term 22 n refl

by_write : {names tree : List ℕ} {room number place : ℕ} → WriteRefused names tree room number place → Memᴰ number (card_numbers writing_term)
unfolding is_in
by_write (write17 n f) = on writing_term 17 n refl
by_write (write12 n p s l) = on writing_term 12 n refl
by_write (write13 n s l f) = on writing_term 13 n refl
by_write (write23 n s l w f) = on writing_term 23 n refl
by_write (write24 n p w l) = on writing_term 24 n refl

on_card : (op : Operation) (x : Input op) (number place : ℕ) → outcome_of op x ≡ refused number place → Memᴰ number (card_numbers op)
on_card checking T number place e = check_card T.states T.rows T.accepting number place e
on_card numbering (T, tree) number place e = by_number ((number_refuses T.states T.rows T.accepting tree number place).0 e)
on_card writing (T, n, room) number place e = by_tree ((tree_refuses T.states T.rows T.accepting n room number place).0 e)
on_card reading_term (names, text, room) number place e = by_read ((read_refuses names text room number place).0 e)
on_card writing_term (names, tree, room) number place e = by_write ((write_refuses names tree room number place).0 e)

pub card : Card
card = record { only = on_card; each = made }

-- ---- numbers that are not on the card

neither : (op : Operation) → (is_in (card_numbers op) 0 ≡ false) × (is_in (card_numbers op) 8 ≡ false)
unfolding is_in
neither checking = (refl, refl)
neither numbering = (refl, refl)
neither writing = (refl, refl)
neither reading_term = (refl, refl)
neither writing_term = (refl, refl)

pub never_zero : NoRefusal 0
never_zero op x place e = not_in (card_numbers op) 0 (neither op).0 (on_card op x 0 place e)

pub never_eight : NoRefusal 8
never_eight op x place e = not_in (card_numbers op) 8 (neither op).1 (on_card op x 8 place e)

-- ---- the check with 8

-- what follows the things taken in turn matters only where none is faulty
follows : (n : ℕ) (g : ℕ → ℕ) (o p : Outcome) → (((i : ℕ) → i < n → g i ≡ 0) → o ≡ p) → first_faulty n g o ≡ first_faulty n g p
follows n g o p h = go (decided n g o)
  where
    go : Decided n g o (first_faulty n g o) → first_faulty n g o ≡ first_faulty n g p
    go (clear c e) = e ∙ h c ∙ sym (no_fault n g p c)
    go (faulty i l c f e) = e ∙ sym (first_fault n i g p l c f)

clear_few : (states : ℕ) (accepting : List ℕ) → ((i : ℕ) → i < how_many_entries accepting → accepting_ground states accepting i ≡ 0) → how_many_entries accepting ≤ states
clear_few states accepting c = entries_few states accepting (λ i l. (entry_good states accepting i (c i l)).state) (λ i l. (entry_good states accepting i (c i l)).fresh)

pub as_before : AsBefore
unfolding check_outcome check_within check_with_eight
as_before states rows accepting =
    ap (λ (o : Outcome). if ltb 256 states then refused 1 0 else first_faulty (how_many_rows rows) (row_ground states rows) o)
    (follows (how_many_entries accepting) (accepting_ground states accepting) _ _
    (λ c. sym (if_no (ltb states (how_many_entries accepting)) (refused 8 0) _ (le-ltb states (how_many_entries accepting) (clear_few states accepting c)))))

pub eight_unmet : EightUnmet
eight_unmet states rows accepting place e =
    never_eight checking (record { states = states; rows = rows; accepting = accepting }) place (as_before states rows accepting ∙ e)

pub long_list : LongList
long_list states rows accepting few sound long = go (decided (how_many_entries accepting) (accepting_ground states accepting) (result 0))
  where
    go : {o : Outcome} → Decided (how_many_entries accepting) (accepting_ground states accepting) (result 0) o → (place : ℕ) × (place ≤ states) × (check_outcome states rows accepting ≡ refused 7 place)
    go (clear c e) = absurd (omega (arith, clear_few states accepting c))
    go (faulty i l c p e) = (
      i,
      first_few states accepting i (λ j m. entry_good states accepting j (c j m)),
      (check_refuses states rows accepting 7 i).1 (check7 refl few sound
          (record { within = l; before = λ j m. entry_faultless states accepting j (c j m); here = (entry_faulty states accepting i p).1 })),
    )
