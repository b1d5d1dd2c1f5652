-- Lines at the edges of document 01's sentences, with the paper's table, by computation. Assumes nothing.
use Prim.Native.Nat.{ℕ}
use Prim.Native.String.{String}
use mathlib.Core.Path.{◌≡◌, refl}
use mathlib.Core.List.{List, [], ◌∷◌, ◌++◌, map, flatten}
use Rattle.model.specs.Choice.{refuse_on, first_faulty, any_below}
use Rattle.model.specs.Table.{row_start, how_many, how_many_rows, first_rows, rows_of, same_by, row_is}
use Rattle.model.specs.Tree.{serial_forest, serial}
use Rattle.model.specs.Reach.{row_with, states_of, entry_of}
use Rattle.model.specs.Count.{sum, product, weight, state_counts, grow, count, total, largest, row_longest, state_longest, longest}
use Rattle.model.specs.Value.{horner, earlier_rows, row_value, values_of, number_of, find_by, children_from, tree_in, tree_of}
use Rattle.model.specs.Used.{state_used, grow_down, is_used}
use Rattle.model.specs.Check.{all_below, cut, too_many, out_of_range, not_below, repeated, row_ground, accepting_ground, limit_ground, state_ground, check_within, check_outcome}
use Rattle.model.specs.Names.{is_letter, is_name_byte, all_name_bytes, is_name, lower, alike, lines_of, name_of, line_with, symbol_of, is_listed, line_ground, names_then}
use Rattle.model.specs.Entries.{open_after, entry_ground, ends_too_soon, form_then, tree_then, levels_of, tree_from}
use Rattle.model.specs.Term.{text_of_terms, text_of, step, scan, term_then, run, name_begins, before, seen_from, term_from}
use Rattle.model.specs.TermOperations.{symbols_of, names_of, entries_of, bytes_of, name_ground, read_term_outcome, symbol_ground, write_term_outcome}
use Rattle.model.specs.Number.{reaches_none, stuck_then, accepted_then, number_tree, number_outcome}
use Rattle.model.specs.Write.{tree_entries, write_tree, entries_for, write_outcome}
use Rattle.model.specs.Text.{ascii}
use Rattle.model.specs.Paper.{paper_states, paper_row_list, paper_rows, paper_accepting, paper_names}
use Rattle.model.proofs.TermExamples.{times}
use Rattle.line.specs.Lines.{all_digits, is_number, number_after, number_in, decimal_by, decimal, answer_number, answer_term, answer_to, answers_to, output_for}

-- an input, and what is printed; a line with byte 10 after it, and the line that is printed
data Sample : Type 0 where
  whole : (input output : List ℕ) → Sample
  line : (text answer : String) → Sample

abbrev given : Sample → List ℕ
given (whole input output) = output_for paper_states paper_rows paper_accepting paper_names input
given (line text answer) = output_for paper_states paper_rows paper_accepting paper_names (ascii text ++ 10 ∷ [])

abbrev due : Sample → List ℕ
due (whole input output) = output
due (line text answer) = ascii answer ++ 10 ∷ []

abbrev edges : List Sample
edges =
    -- "A last line without byte 10 counts if it is not empty."; "an empty line is 19 at 0"
    whole [] []
    ∷ whole (ascii "\n") (ascii "refused 19 0\n")
    ∷ whole (ascii "0") (ascii "a(a,a)\n")
    ∷ whole (ascii "a(a,a)") (ascii "0\n")
    ∷ whole (ascii "\n1\n\na") (ascii "refused 19 0\nb(a,b)\nrefused 19 0\nrefused 14 1\n")
    -- "a number of any length, leading zeros allowed", "or 15 from 12 up"
    ∷ line "00" "a(a,a)"
    ∷ line "0011" "b(b(a,b),b(b,b),b)"
    ∷ line "0012" "refused 15 0"
    ∷ line "4294967296" "refused 15 0"
    ∷ line "18446744073709551617" "refused 15 0"
    -- "and no other byte"
    ∷ line "+1" "refused 19 0"
    ∷ line "-1" "refused 19 0"
    ∷ line " 1" "refused 19 0"
    ∷ line "1 " "refused 19 0"
    ∷ line "1a" "refused 19 0"
    ∷ line "1\r" "refused 19 0"
    ∷ line "1:" "refused 19 0"
    ∷ line "1/" "refused 19 0"
    -- "Any other line is a term": only byte 10 ends a line
    ∷ line "a(a,a)\r" "refused 19 6"
    ∷ line "a(a,a)\0" "refused 19 6"
    ∷ line "a(a, a)" "refused 19 4"
    -- "Symbol 1 is `a`, symbol 2 is `b`"
    ∷ line "d" "refused 20 0"
    ∷ line "A(a,a)" "0"
    ∷ line "B(A,B)" "1"
    ∷ line "B" "refused 14 1"
    ∷ line "C" "refused 20 0"
    ∷ line "a(A,D)" "refused 20 4"
    ∷ line "ab" "refused 20 0"
    ∷ line "a(a,d)" "refused 20 4"
    ∷ line "b" "refused 14 1"
    -- "a term line above 4,096 bytes is 18 at 0": 4,096 and 4,097 bytes, and 4,097 digits
    ∷ whole (times 4096 (ascii "a")) (ascii "refused 19 24\n")
    ∷ whole (times 4097 (ascii "a")) (ascii "refused 18 0\n")
    ∷ whole (times 4097 (ascii "0")) (ascii "a(a,a)\n")
    ∷ []

edge_samples : map given edges ≡ map due edges
unfolding refuse_on first_faulty any_below row_start how_many how_many_rows first_rows rows_of same_by row_is serial_forest serial row_with states_of entry_of sum product weight state_counts grow count total largest row_longest state_longest longest horner earlier_rows row_value values_of number_of find_by children_from tree_in tree_of all_below cut too_many out_of_range not_below repeated row_ground accepting_ground limit_ground state_ground state_used grow_down is_used check_within check_outcome is_letter is_name_byte all_name_bytes is_name lower alike lines_of name_of line_with symbol_of is_listed line_ground names_then open_after entry_ground ends_too_soon form_then tree_then levels_of tree_from text_of_terms text_of step scan term_then run name_begins before seen_from term_from symbols_of names_of entries_of bytes_of name_ground read_term_outcome symbol_ground write_term_outcome reaches_none stuck_then accepted_then number_tree number_outcome tree_entries write_tree entries_for write_outcome ascii paper_row_list flatten paper_rows paper_names all_digits is_number number_after number_in decimal_by decimal answer_number answer_term answer_to answers_to output_for times
edge_samples = refl
