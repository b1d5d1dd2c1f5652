-- The starred facts of "The paper's own table", by computation: a single claim over a single list.
use Rattle.std.specs.Prelude.{if◌then◌else◌}
use Prim.Native.Nat.{ℕ, ◌+◌}
use Prim.Native.String.{String}
use mathlib.Core.Path.{◌≡◌, refl, ap, sym, ◌∙◌}
use mathlib.Core.Bool.{not}
use lib.ListN.{length, get_or, take, replicate}
use lib.Dec.{ltb}
use mathlib.Core.List.{List, [], ◌∷◌, map, flatten}
use Rattle.model.specs.Answers.{Outcome, result, refused}
use Rattle.model.specs.Choice.{refuse_on, first_faulty, any_below}
use Rattle.model.specs.Table.{Row, Table, no_row, pack, table_of, row_at, how_many, how_many_rows, first_rows, rows_of, same_by, row_is}
use Rattle.model.specs.Tree.{Tree, serial_forest, serial}
use Rattle.model.specs.Reach.{target_of, row_with, states_of, row_of, state_of, entry_of}
use Rattle.model.specs.Count.{sum, product, weight, state_counts, grow, count, total}
use Rattle.model.specs.Value.{horner, earlier_rows, row_value, values_of, number_of}
use Rattle.model.specs.Check.{check_within, check_outcome}
use Rattle.model.specs.Names.{is_letter, is_name_byte, all_name_bytes, is_name, lower, alike, lines_of, line_with, symbol_of, is_listed, line_ground, names_then}
use Rattle.model.specs.Entries.{open_after, entry_ground, ends_too_soon, form_then, tree_then, levels_of, tree_from}
use Rattle.model.specs.Term.{text_of_terms, text_of, step, scan, term_then, run, name_begins, before, seen_from, term_from}
use Rattle.model.specs.TermOperations.{symbols_of, entries_of, name_ground, read_term_outcome, read_term_list}
use Rattle.model.specs.Number.{reaches_none, stuck_then, accepted_then, number_tree, number_outcome}
use Rattle.model.specs.Write.{write_tree, entries_for, write_outcome}
use Rattle.model.specs.Text.{ascii}
use Rattle.model.specs.Paper.{paper_states, paper_row_list, paper_rows, paper_accepting, paper_names}
use Rattle.model.proofs.Counting.{map_agree}
use Rattle.model.proofs.Paper.{paper_checks}
use Rattle.model.proofs.Rows.{rows_of_pack}
use Rattle.model.proofs.Demand3.{checked_then_lem}

-- what a fact says: an answer, or the parts of a number: the children's values, the counts of their states, what these give, the counts of
-- the earlier rows, the counts of the accepting states listed earlier
pub data Said : Type 0 where
  answer : Outcome → Said
  parts : (values counts : List ℕ) (from_children from_rows from_states : ℕ) → Said

-- of the number of a term, of its parts, of the number of a tree's entries, of writing a number's tree, of checking the empty table
pub data Fact : Type 0 where
  term : (text : String) → Said → Fact
  sum_of : (text : String) → Said → Fact
  tree : (entries : List ℕ) → Said → Fact
  number : ℕ → Said → Fact
  nothing : Said → Fact

-- a term is read, with the paper's names, into a list of 4,096 entries: what is said of the tree at its front, or the refusal
abbrev pub read_then : Outcome → (list : List ℕ) → (List ℕ → Said) → Said
read_then (result n) list said = said (take n list)
read_then (refused k place) list said = answer (refused k place)

abbrev pub of_term : (text : String) → (List ℕ → Said) → Said
of_term text said = read_then (read_term_outcome paper_names (ascii text) 4096) (read_term_list paper_names (ascii text) (replicate 4096 0)) said

-- the parts of a tree's number: what `row_value` and `number_of` add up
abbrev pub parts_of : Table → (ℕ → ℕ) → Tree → Said
parts_of T c t =
    let i = row_of T t.symbol t.children in
    let values = values_of T c t.children in
    parts values
    (map c (states_of T t.children))
    (horner c 0 (get_or T.rows i no_row).args values)
    (earlier_rows T.rows c (target_of T i) i)
    (sum (take (entry_of T.accepting (state_of T t)) (map c T.accepting)))

-- added up, they are the tree's number
abbrev pub added : Said → ℕ
added (answer o) = 0
added (parts values counts from_children from_rows from_states) = from_children + from_rows + from_states

pub parts_add : (T : Table) (c : ℕ → ℕ) (t : Tree) → added (parts_of T c t) ≡ number_of T c t
unfolding number_of values_of row_value
parts_add T c t = refl

-- what the definitions give, the list for a tree being of any length
abbrev pub given : (room : ℕ) → Fact → Said
given room (term text s) = of_term text (λ entries. answer (number_outcome paper_states paper_rows paper_accepting entries))
given room (sum_of text s) =
    let T = table_of paper_states paper_rows paper_accepting in
    of_term text (λ entries. parts_of T (count T) (tree_from entries))
given room (tree entries s) = answer (number_outcome paper_states paper_rows paper_accepting entries)
given room (number n s) = answer (write_outcome paper_states paper_rows paper_accepting n room)
given room (nothing s) = answer (check_outcome 0 [] [])

abbrev pub due : Fact → Said
due (term text s) = s
due (sum_of text s) = s
due (tree entries s) = s
due (number n s) = s
due (nothing s) = s

pub facts : List Fact
facts =
    term "a(a,a)" (answer (result 0))
    ∷ term "b(a,b)" (answer (result 1))
    ∷ term "a(a(a,a),b(a,b))" (answer (result 3))
    ∷ term "a(b(a,b),a(a,a))" (answer (result 4))
    ∷ term "b(a(a,a),a(b,a),b)" (answer (result 6))
    ∷ term "b(b(a,b),a(b,b),b)" (answer (result 10))
    -- "1 times 3 plus 1 is 4, plus the 4 of the earlier row, plus the 2 of state 2."
    ∷ sum_of "b(b(a,b),a(b,b),b)" (parts (1 ∷ 1 ∷ 0 ∷ []) (2 ∷ 3 ∷ 1 ∷ []) 4 4 2)
    ∷ term "b(b(a,b),b(b,b),b)" (answer (result 11))
    -- Number 12 is 15.
    ∷ number 12 (answer (refused 15 0))
    -- Tree `1 0` is 14 at 1. `2 1 0 1 0 0` is 14 at 5.
    ∷ tree (1 ∷ 0 ∷ []) (answer (refused 14 1))
    ∷ tree (2 ∷ 1 ∷ 0 ∷ 1 ∷ 0 ∷ 0 ∷ []) (answer (refused 14 5))
    -- No states, rows or accepting entries: total 0.
    ∷ nothing (answer (result 0))
    ∷ []

-- the paper's table, its counts and what numbering a tree of it answers, found once
paper_table : Table
paper_table = table_of paper_states paper_rows paper_accepting

plain_rows : List Row
plain_rows = map (λ (row : List ℕ). row_at row 0) paper_row_list

abbrev plain_table : Table
plain_table = record { states = paper_states; rows = plain_rows; accepting = paper_accepting }

packed : pack plain_rows ≡ paper_rows
unfolding plain_rows paper_row_list flatten paper_rows pack
packed = refl

table_is : paper_table ≡ plain_table
unfolding paper_table
table_is =
    ap (λ (rows : List ℕ). table_of paper_states rows paper_accepting) (sym packed)
    ∙ ap (λ (rows : List Row). record { states = paper_states; rows = rows; accepting = paper_accepting }) (rows_of_pack plain_rows)

-- what writing answers of entries, the total being 12
abbrev fitting : (n room : ℕ) → List ℕ → Outcome
fitting n room entries = if not (ltb n 12) then refused 15 0 else if ltb room (length entries) then refused 16 (length entries) else result (length entries)

abbrev plain_count : ℕ → ℕ
plain_count q = get_or (1 ∷ 1 ∷ 2 ∷ 3 ∷ 10 ∷ []) q 0

grown : grow (state_counts plain_rows) paper_states ≡ 1 ∷ 1 ∷ 2 ∷ 3 ∷ 10 ∷ []
unfolding plain_rows paper_row_list sum product weight state_counts grow
grown = refl

count_is : count plain_table ≡ plain_count
unfolding count
count_is = λ i q. get_or (grown i) q 0

abbrev decided : List ℕ → Outcome
decided entries = tree_then entries (accepted_then plain_table (tree_from entries) (result (number_of plain_table plain_count (tree_from entries))))

number_by : (entries : List ℕ) → number_outcome paper_states paper_rows paper_accepting entries ≡ decided entries
unfolding number_tree number_outcome paper_table
number_by entries =
    checked_then_lem (check_outcome paper_states paper_rows paper_accepting) 12 (λ total. tree_then entries (accepted_then paper_table (tree_from entries) (result (number_of paper_table (count paper_table) (tree_from entries))))) paper_checks
    ∙ ap (λ (T : Table). tree_then entries (accepted_then T (tree_from entries) (result (number_of T (count T) (tree_from entries))))) table_is
    ∙ ap (λ (c : ℕ → ℕ). tree_then entries (accepted_then plain_table (tree_from entries) (result (number_of plain_table c (tree_from entries))))) count_is

write_by : (n room : ℕ) → write_outcome paper_states paper_rows paper_accepting n room ≡ fitting n room (entries_for paper_states paper_rows paper_accepting n)
unfolding write_outcome write_tree entries_for
write_by n room = checked_then_lem (check_outcome paper_states paper_rows paper_accepting) 12 _ paper_checks

parts_by : (t : Tree) → parts_of (table_of paper_states paper_rows paper_accepting) (count (table_of paper_states paper_rows paper_accepting)) t ≡ parts_of plain_table plain_count t
unfolding paper_table
parts_by t = ap (λ (T : Table). parts_of T (count T) t) table_is ∙ ap (λ (c : ℕ → ℕ). parts_of plain_table c t) count_is

-- the same, said by these
abbrev quick : (room : ℕ) → Fact → Said
quick room (term text s) = of_term text (λ entries. answer (decided entries))
quick room (sum_of text s) = of_term text (λ entries. parts_of plain_table plain_count (tree_from entries))
quick room (tree entries s) = answer (decided entries)
quick room (number n s) = answer (fitting n room (entries_for paper_states paper_rows paper_accepting n))
quick room (nothing s) = answer (check_outcome 0 [] [])

given_quick : (room : ℕ) (f : Fact) → given room f ≡ quick room f
given_quick room (term text s) = ap (of_term text) (λ i entries. answer (number_by entries i))
given_quick room (sum_of text s) = ap (of_term text) (λ i entries. parts_by (tree_from entries) i)
given_quick room (tree entries s) = ap answer (number_by entries)
given_quick room (number n s) = ap answer (write_by n room)
given_quick room (nothing s) = refl

computed : (room : ℕ) → map (quick room) facts ≡ map due facts
unfolding facts ascii paper_names plain_rows paper_row_list refuse_on first_faulty any_below how_many how_many_rows first_rows rows_of same_by row_is serial_forest serial row_with states_of entry_of sum product weight horner earlier_rows row_value values_of number_of check_within check_outcome state_counts grow count total is_letter is_name_byte all_name_bytes is_name lower alike lines_of line_with symbol_of is_listed line_ground names_then open_after entry_ground ends_too_soon form_then tree_then levels_of tree_from text_of_terms text_of step scan term_then run name_begins before seen_from term_from symbols_of entries_of name_ground read_term_outcome read_term_list reaches_none stuck_then accepted_then
computed room = refl

-- every starred fact follows from the definitions
pub starred : (room : ℕ) → map (given room) facts ≡ map due facts
starred room = map_agree (given room) (quick room) (nothing (answer (result 0))) facts (λ i l. given_quick room (get_or facts i (nothing (answer (result 0))))) ∙ computed room
