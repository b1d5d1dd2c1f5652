-- Each number on the card can be made: something to lend for each, most of them by computation.
use Prim.Native.Nat.{ℕ}
use mathlib.Core.Path.{◌≡◌, refl, sym, subst}
use mathlib.Core.Bool.{true}
use mathlib.Core.Logic.{◌⊎◌, inl, inr}
use mathlib.Core.List.Memᴰ
use mathlib.Core.List.{List, [], ◌∷◌, ◌++◌, Memᴰ}
use lib.ListN.{replicate}
use Rattle.model.specs.Choice.{refuse_on, first_faulty, any_below}
use Rattle.model.specs.Text.{ascii}
use Rattle.model.specs.Table.{row_start, how_many, how_many_rows, first_rows, rows_of, same_by, row_is}
use Rattle.model.specs.Tree.{serial_forest, serial}
use Rattle.model.specs.Reach.{row_with, states_of, entry_of}
use Rattle.model.specs.Count.{sum, product, weight, state_counts, grow, count, total, largest, row_longest, state_longest, longest}
use Rattle.model.specs.Value.{find_by, children_from, tree_in, tree_of}
use Rattle.model.specs.Used.{state_used, grow_down, is_used}
use Rattle.model.specs.Check.{all_below, cut, too_many, out_of_range, not_below, repeated, row_ground, accepting_ground, limit_ground, state_ground, check_within, check_outcome}
use Rattle.model.specs.Names.{is_letter, is_name_byte, all_name_bytes, is_name, name_of, lower, alike, lines_of, line_with, symbol_of, is_listed, line_ground, names_then}
use Rattle.model.specs.Entries.{open_after, entry_ground, ends_too_soon, form_then, tree_then, levels_of, tree_from}
use Rattle.model.specs.Term.{text_of_terms, text_of, step, scan, term_then, run, name_begins, before, seen_from, term_from}
use Rattle.model.specs.TermOperations.{symbols_of, names_of, entries_of, bytes_of, name_ground, read_term_outcome, symbol_ground, write_term_outcome}
use Rattle.model.specs.Number.{reaches_none, stuck_then, accepted_then, number_tree, number_outcome}
use Rattle.model.specs.Write.{tree_entries, write_tree, write_outcome}
use Rattle.model.specs.TreeRefusals.{number_as_check, tree_as_check}
use Rattle.model.specs.Card.{Operation, checking, numbering, writing, reading_term, writing_term, LentTable, check_numbers, card_numbers, CanBeMade}
use Rattle.model.proofs.Choice.{and_both}
use Rattle.model.proofs.TreeRefusals.{number_refuses, tree_refuses}
use Rattle.model.proofs.TermExamples.{ab, leaves, wide, tree_4098}
use Rattle.model.proofs.TableExamples.{leaf}
use Rattle.model.proofs.Edges.{row, power, two, below_32, below_above, even, lengths}

-- each of the numbers has the property
infixr 5 ◌also◌
data Each (P : ℕ → Type 0) : List ℕ → Type 0 where
  all : Each P []
  ◌also◌ : {x : ℕ} {xs : List ℕ} → P x → Each P xs → Each P (x ∷ xs)

each_of : {P : ℕ → Type 0} {xs : List ℕ} → Each P xs → (k : ℕ) → Memᴰ k xs → P k
each_of all k m = absurd (Memᴰ.not-nil m)
each_of {P} (◌also◌ {x} {xs} p h) k m = go (each_of h k) (Memᴰ.cases_cons m)
  where
    go : (Memᴰ k xs → P k) → (k ≡ x) ⊎ Memᴰ k xs → P k
    go rest (inl e) = subst P (sym e) p
    go rest (inr r) = rest r

-- the same with another property, and with more numbers
then_each : {P Q : ℕ → Type 0} {xs ys : List ℕ} → ((k : ℕ) → P k → Q k) → Each P xs → Each Q ys → Each Q (xs ++ ys)
then_each f all h = h
then_each f (◌also◌ {x} p g) h = f x p also then_each f g h

abbrev table : (states : ℕ) (rows accepting : List ℕ) → LentTable
table states rows accepting = record { states = states; rows = rows; accepting = accepting }

check_made : Each (CanBeMade checking) check_numbers
unfolding power two below_32 below_above even lengths leaf check_outcome check_within first_faulty refuse_on any_below row_start how_many how_many_rows first_rows rows_of same_by row_is sum product weight state_counts grow count total largest row_longest state_longest longest all_below cut too_many out_of_range not_below repeated row_ground accepting_ground limit_ground state_ground entry_of state_used grow_down is_used
check_made =
    -- 1 to 7
    (table 257 [] [], refl, 0, refl)
    also (table 1 (1 ∷ []) [], refl, 0, refl)
    also (table 1 (row 1 0 (replicate 17 0)) [], refl, 0, refl)
    also (table 1 (row 0 0 []) [], refl, 0, refl)
    also (table 1 (row 1 0 (0 ∷ [])) [], refl, 0, refl)
    also (table 1 (leaf ++ leaf) [], refl, 1, refl)
    also (table 0 [] (0 ∷ []), refl, 0, refl)
    -- 9 to 11: "twice 4,294,967,296"; "one leaf more"; 18,446,744,073,709,551,615 trees and two
    also (table 4 (even ++ row 6 3 (2 ∷ 2 ∷ [])) (3 ∷ []), refl, 3, refl)
    also (table 4 (lengths ++ row 1 3 (replicate 7 2 ++ replicate 8 1 ++ 0 ∷ [])) (3 ∷ []), refl, 3, refl)
    also (table 6 (below_above ++ row 9 5 (3 ∷ 4 ∷ [])) (5 ∷ 0 ∷ []), refl, 0, refl)
    also all

-- "It first refuses as the check does."
number_as_check_lem : (k : ℕ) → CanBeMade checking k → CanBeMade numbering k
unfolding all_below
number_as_check_lem k (T, l, place, e) =
    ((T, []), and_both _ true l refl, place, (number_refuses T.states T.rows T.accepting [] k place).1 (number_as_check e))

number_made : Each (CanBeMade numbering) (card_numbers numbering)
unfolding check_outcome check_within first_faulty refuse_on any_below row_start how_many how_many_rows first_rows rows_of same_by sum total all_below serial_forest serial row_with states_of entry_of open_after entry_ground ends_too_soon form_then tree_then levels_of tree_from reaches_none stuck_then accepted_then number_tree number_outcome
number_made =
    then_each number_as_check_lem check_made
    (((table 0 [] [], replicate 4097 0), refl, 0, refl)
    also ((table 0 [] [], []), refl, 0, refl)
    also ((table 0 [] [], 1 ∷ 0 ∷ []), refl, 1, refl)
    also all)

write_as_check : (k : ℕ) → CanBeMade checking k → CanBeMade writing k
write_as_check k (T, l, place, e) =
    ((T, 0, 0), and_both _ true (and_both _ true l refl) refl, place, (tree_refuses T.states T.rows T.accepting 0 0 k place).1 (tree_as_check e))

write_made : Each (CanBeMade writing) (card_numbers writing)
unfolding leaf check_outcome check_within first_faulty refuse_on any_below row_start how_many how_many_rows first_rows rows_of same_by row_is sum product weight state_counts grow count total largest row_longest state_longest longest all_below cut too_many out_of_range not_below repeated row_ground accepting_ground limit_ground state_ground entry_of state_used grow_down is_used serial_forest serial find_by children_from tree_in tree_of tree_entries write_tree write_outcome
write_made =
    then_each write_as_check check_made
    (((table 0 [] [], 0, 0), refl, 0, refl)
    also ((table 1 leaf (0 ∷ []), 0, 1), refl, 2, refl)
    also all)

made_21 : CanBeMade reading_term 21
unfolding ascii ab leaves all_below text_of_terms text_of
made_21 = ((ab, text_of (wide 2047), 4096), refl, 0, tree_4098)

read_made : Each (CanBeMade reading_term) (card_numbers reading_term)
unfolding ascii ab refuse_on first_faulty any_below same_by all_below serial_forest serial is_letter is_name_byte all_name_bytes is_name lower alike lines_of line_with symbol_of is_listed line_ground names_then text_of_terms text_of step scan term_then run name_begins before seen_from term_from symbols_of entries_of name_ground read_term_outcome
read_made =
    (([], [], 0), refl, 0, refl)
    also ((ab, replicate 65537 97, 0), refl, 0, refl)
    also ((ab, [], 0), refl, 0, refl)
    also ((ab, ascii "c", 0), refl, 0, refl)
    also made_21
    also ((ab, ascii "a", 1), refl, 2, refl)
    also all

write_term_made : Each (CanBeMade writing_term) (card_numbers writing_term)
unfolding ascii ab refuse_on first_faulty any_below same_by all_below serial_forest serial is_letter is_name_byte all_name_bytes is_name name_of lower alike lines_of line_ground names_then open_after entry_ground ends_too_soon form_then tree_then levels_of tree_from text_of_terms text_of names_of bytes_of symbol_ground write_term_outcome
write_term_made =
    (([], [], 0), refl, 0, refl)
    also ((ab, replicate 4097 0, 0), refl, 0, refl)
    also ((ab, [], 0), refl, 0, refl)
    also ((ab, 3 ∷ 0 ∷ [], 0), refl, 0, refl)
    also ((ab, 1 ∷ 0 ∷ [], 0), refl, 1, refl)
    also all

pub made : (op : Operation) (number : ℕ) → Memᴰ number (card_numbers op) → CanBeMade op number
made checking = each_of check_made
made numbering = each_of number_made
made writing = each_of write_made
made reading_term = each_of read_made
made writing_term = each_of write_term_made
