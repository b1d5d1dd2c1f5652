-- Tables checked, trees numbered and written, by computation against "The operations and what they turn away": each refusal from 1 to 16
-- (but the withdrawn 8) with its place, and which of two comes first.
use Rattle.std.specs.Prelude.{if◌then◌else◌}
use Prim.Native.Nat.{ℕ, zero, suc, ◌+◌, ◌≤◌, ◌<◌}
use mathlib.Core.Path.{◌≡◌, refl, ap, ◌∙◌}
use mathlib.Core.Bool.{true, false, ◌&&◌, ◌||◌, and-false}
use mathlib.Core.List.{List, [], ◌∷◌, ◌++◌, map}
use native.Mathlib.Omega.{arith}
use lib.ListN.{length, take, replicate, length-replicate, get_or-replicate}
use lib.Dec.{eqb, ltb}
use borrow.Author.Tests.{lt-ltb, le-ltb, ne_eqb}
use Rattle.model.specs.Answers.{Outcome, result, refused}
use Rattle.model.specs.Choice.{refuse_on, first_faulty, any_below}
use Rattle.model.specs.Table.{row_start, how_many, how_many_rows, first_rows, rows_of, same_by, row_is}
use Rattle.model.specs.Tree.{serial_forest, serial}
use Rattle.model.specs.Reach.{row_with, states_of, entry_of}
use Rattle.model.specs.Count.{sum, product, weight, state_counts, grow, count, total, largest, row_longest, state_longest, longest}
use Rattle.model.specs.Value.{horner, earlier_rows, row_value, values_of, number_of, find_by, children_from, tree_in, tree_of}
use Rattle.model.specs.Used.{state_used, grow_down, is_used}
use Rattle.model.specs.Check.{all_below, cut, too_many, out_of_range, not_below, repeated, row_ground, accepting_ground, limit_ground, state_ground, check_within, check_outcome}
use Rattle.model.specs.Entries.{open_after, entry_ground, ends_too_soon, form_then, tree_then, levels_of, tree_from}
use Rattle.model.specs.Number.{reaches_none, stuck_then, accepted_then, number_tree, number_outcome}
use Rattle.model.specs.Write.{tree_entries, write_tree, write_tree_list, entries_for, write_outcome, write_list}
use Rattle.model.proofs.Choice.{if_yes, if_no, no_fault, or_right}
use Rattle.model.proofs.Edges.{row, power, two, below_32, below_above, even, lengths}

-- a table checked, a tree numbered, and a number's tree written into a lent list; the answer due, and what the lent list is then to hold
data Example : Type 0 where
  checks : (states : ℕ) (rows accepting : List ℕ) (answer : Outcome) → Example
  numbers : (states : ℕ) (rows accepting tree : List ℕ) (answer : Outcome) → Example
  writes : (states : ℕ) (rows accepting : List ℕ) (number : ℕ) (tree : List ℕ) (answer : Outcome) (after : List ℕ) → Example

abbrev given : Example → Outcome × List ℕ
given (checks states rows accepting answer) = (check_outcome states rows accepting, [])
given (numbers states rows accepting tree answer) = (number_outcome states rows accepting tree, [])
given (writes states rows accepting number tree answer after) = (write_outcome states rows accepting number (length tree), write_list states rows accepting number tree)

abbrev due : Example → Outcome × List ℕ
due (checks states rows accepting answer) = (answer, [])
due (numbers states rows accepting tree answer) = (answer, [])
due (writes states rows accepting number tree answer after) = (answer, after)

-- a leaf in state 0
unfoldable pub leaf : List ℕ
leaf = row 1 0 []

checked : List Example
checked =
    -- 1, before all else; 256 states pass, and 255 is one of them
    checks 257 [] [] (refused 1 0)
    ∷ checks 65536 (1 ∷ []) (0 ∷ 0 ∷ []) (refused 1 0)
    ∷ checks 256 (row 1 255 [] ++ 1 ∷ []) [] (refused 2 1)
    -- 2: fewer than three entries left; an argument missing; before 3
    ∷ checks 1 (1 ∷ []) [] (refused 2 0)
    ∷ checks 1 (1 ∷ 0 ∷ []) [] (refused 2 0)
    ∷ checks 1 (leaf ++ 2 ∷ 0 ∷ []) [] (refused 2 1)
    ∷ checks 2 (leaf ++ 1 ∷ 1 ∷ 2 ∷ 0 ∷ []) [] (refused 2 1)
    ∷ checks 2 (leaf ++ 1 ∷ 1 ∷ 17 ∷ replicate 16 0) [] (refused 2 1)
    -- 3: 16 arguments pass, 17 do not; before 4
    ∷ checks 2 (leaf ++ row 1 1 (replicate 16 0)) (1 ∷ []) (result 1)
    ∷ checks 2 (leaf ++ row 1 1 (replicate 17 0)) (1 ∷ []) (refused 3 1)
    ∷ checks 2 (leaf ++ row 0 1 (replicate 17 0)) [] (refused 3 1)
    -- 4: the symbol, the target, an argument; 255 is a symbol; before 5
    ∷ checks 1 (row 0 0 []) [] (refused 4 0)
    ∷ checks 1 (row 256 0 []) [] (refused 4 0)
    ∷ checks 1 (row 255 0 []) (0 ∷ []) (result 1)
    ∷ checks 1 (row 1 1 []) [] (refused 4 0)
    ∷ checks 2 (leaf ++ row 1 1 (0 ∷ 2 ∷ [])) [] (refused 4 1)
    -- 5: the target itself, and above it; before 6
    ∷ checks 2 (leaf ++ row 1 1 (0 ∷ 1 ∷ [])) [] (refused 5 1)
    ∷ checks 3 (leaf ++ row 1 1 (2 ∷ [])) [] (refused 5 1)
    ∷ checks 2 (leaf ++ row 1 1 (0 ∷ []) ++ row 1 0 (0 ∷ [])) [] (refused 5 2)
    -- 6: with the same target and with another; arguments in another order, or fewer, are other ones
    ∷ checks 2 (leaf ++ leaf) [] (refused 6 1)
    ∷ checks 2 (leaf ++ row 2 1 [] ++ row 1 1 []) [] (refused 6 2)
    ∷ checks 3 (leaf ++ row 2 1 [] ++ row 1 2 (0 ∷ 1 ∷ []) ++ row 1 2 (1 ∷ 0 ∷ []) ++ row 1 2 (0 ∷ [])) (2 ∷ []) (result 3)
    -- the first faulty row decides, whatever its ground
    ∷ checks 1 (leaf ++ leaf ++ row 0 0 []) [] (refused 6 1)
    ∷ checks 1 (leaf ++ row 0 0 [] ++ leaf) [] (refused 4 1)
    -- 7: no state; an earlier entry, and where the list is longer than the count of states; after the rows
    ∷ checks 2 leaf (1 ∷ 2 ∷ []) (refused 7 1)
    ∷ checks 2 leaf (1 ∷ 0 ∷ 1 ∷ []) (refused 7 2)
    ∷ checks 1 (row 0 0 []) (7 ∷ []) (refused 4 0)
    -- the accepting list need not be ascending, and an empty state may be listed
    ∷ checks 2 leaf (1 ∷ 0 ∷ []) (result 1)
    ∷ []

checked_hold : map given checked ≡ map due checked
unfolding leaf checked check_outcome check_within first_faulty refuse_on any_below row_start how_many how_many_rows first_rows rows_of same_by row_is sum product weight state_counts grow count total largest row_longest state_longest longest all_below cut too_many out_of_range not_below repeated row_ground accepting_ground limit_ground state_ground entry_of state_used grow_down is_used
checked_hold = refl

-- 3: row 1,023 is the 1,024th
rows_hold : too_many 1023 16 ∷ too_many 1024 0 ∷ too_many 0 17 ∷ [] ≡ false ∷ true ∷ true ∷ []
unfolding too_many
rows_hold = refl

-- `lengths`, then two leaves in state 3 and 65,536 trees in state 4
both : List ℕ
both = lengths ++ row 2 3 [] ++ row 3 3 [] ++ row 3 4 (replicate 16 3)

-- 65,536 and 32,768 trees in states 1 and 2, 2 ^ 63 in state 3; and as many once more
half : List ℕ
half = two ++ power 16 ++ row 4 2 (replicate 15 0) ++ row 5 3 (1 ∷ 1 ∷ 1 ∷ 2 ∷ [])

big : List ℕ
big = half ++ row 6 3 (1 ∷ 1 ∷ 1 ∷ 2 ∷ [])

limits : List Example
limits =
    -- 9: a state's sum decides, and not one row
    checks 4 big (3 ∷ []) (refused 9 3)
    -- "Only used states are held to the limits": the same table where no accepted tree has a tree of state 3, and a state that counts 2 ^ 512
    ∷ checks 4 big [] (result 0)
    ∷ checks 4 big (1 ∷ []) (result 65536)
    ∷ checks 4 (even ++ row 6 3 (replicate 16 2)) (1 ∷ []) (result 65536)
    -- used as an argument; state 4 is empty: the row that names state 3 beside it counts 0, and being listed is not enough
    ∷ checks 5 (big ++ row 7 4 (3 ∷ [])) (4 ∷ []) (refused 9 3)
    ∷ checks 6 (big ++ row 7 5 (3 ∷ 4 ∷ [])) (0 ∷ 5 ∷ 4 ∷ []) (result 2)
    -- a row above an unused state makes none used
    ∷ checks 6 (big ++ row 7 4 (3 ∷ []) ++ row 7 5 (4 ∷ [])) (2 ∷ []) (result 32768)
    -- before 10 within a state; the first faulty state decides
    ∷ checks 6 (both ++ row 5 5 (replicate 4 4) ++ row 5 5 (replicate 8 2)) (5 ∷ []) (refused 9 5)
    ∷ checks 7 (both ++ row 5 5 (replicate 8 2) ++ row 5 6 (replicate 4 4)) (6 ∷ 5 ∷ []) (refused 10 5)
    ∷ checks 7 (both ++ row 5 5 (replicate 4 4) ++ row 5 6 (replicate 8 2)) (6 ∷ 5 ∷ []) (refused 9 5)
    -- of those that are used
    ∷ checks 7 (both ++ row 5 5 (replicate 8 2) ++ row 5 6 (replicate 4 4)) (6 ∷ []) (refused 9 6)
    ∷ checks 7 (both ++ row 5 5 (replicate 4 4) ++ row 5 6 (replicate 8 2)) (6 ∷ []) (refused 10 6)
    ∷ checks 6 (both ++ row 5 5 (replicate 8 2)) (2 ∷ []) (result 1)
    -- 10: a row that counts 0 has no longest tree
    ∷ checks 7 (both ++ row 5 6 (5 ∷ replicate 8 2)) (6 ∷ []) (result 0)
    -- 11, of the sum, though no state is beyond the limit: 2 ^ 63 twice; once passes
    ∷ checks 5 (half ++ row 6 4 (1 ∷ 1 ∷ 1 ∷ 2 ∷ [])) (4 ∷ 3 ∷ []) (refused 11 0)
    ∷ checks 5 (half ++ row 6 4 (1 ∷ 1 ∷ 1 ∷ 2 ∷ [])) (4 ∷ []) (result 9223372036854775808)
    -- 7 comes before 9
    ∷ checks 4 (even ++ row 6 3 (2 ∷ 2 ∷ [])) (3 ∷ 4 ∷ []) (refused 7 1)
    ∷ []

limits_hold : map given limits ≡ map due limits
unfolding power two even lengths both half big limits check_outcome check_within first_faulty refuse_on any_below row_start how_many how_many_rows first_rows rows_of same_by row_is sum product weight state_counts grow count total largest row_longest state_longest longest all_below cut too_many out_of_range not_below repeated row_ground accepting_ground limit_ground state_ground entry_of state_used grow_down is_used
limits_hold = refl

-- a leaf in state 0; in state 1 a node with one leaf, and one with two; state 2 is reached by a node of those, and is not listed
small : List ℕ
small = leaf ++ row 2 1 (0 ∷ []) ++ row 2 1 (0 ∷ 0 ∷ []) ++ row 3 2 (1 ∷ 1 ∷ [])

-- the largest count that passes, in state 5, and the last tree of that state
most : List ℕ
most = below_above ++ row 9 5 (3 ∷ 4 ∷ [])

last_tree : List ℕ
last_tree =
    9 ∷ 5 ∷ 3 ∷ 2 ∷ 0 ∷ 2 ∷ 0 ∷ 2 ∷ 0 ∷ 2 ∷ 0 ∷ 2 ∷ 0 ∷ 2 ∷ 0 ∷ 2 ∷ 0 ∷ 2 ∷ 0 ∷ 2 ∷ 0 ∷ 2 ∷ 0 ∷ 2 ∷ 0 ∷ 2 ∷ 0 ∷ 2 ∷ 0 ∷ 2 ∷ 0 ∷ 2 ∷ 0 ∷ 0 ∷ 4 ∷ 0 ∷ 0 ∷ 8 ∷ 0 ∷ 0 ∷ []

numbered : List Example
numbered =
    numbers 3 small (1 ∷ 0 ∷ []) (2 ∷ 1 ∷ 0 ∷ 0 ∷ []) (result 0)
    ∷ numbers 3 small (1 ∷ 0 ∷ []) (2 ∷ 1 ∷ 0 ∷ 1 ∷ 0 ∷ 0 ∷ []) (result 1)
    ∷ numbers 3 small (1 ∷ 0 ∷ []) (1 ∷ 0 ∷ []) (result 2)
    ∷ numbers 3 small (0 ∷ 1 ∷ []) (1 ∷ 0 ∷ []) (result 0)
    -- the last child changes fastest
    ∷ numbers 3 small (2 ∷ []) (3 ∷ 2 ∷ 1 ∷ 0 ∷ 0 ∷ 2 ∷ 1 ∷ 0 ∷ 1 ∷ 0 ∷ 0 ∷ 0 ∷ []) (result 1)
    ∷ numbers 3 small (2 ∷ []) (3 ∷ 2 ∷ 1 ∷ 0 ∷ 1 ∷ 0 ∷ 0 ∷ 2 ∷ 1 ∷ 0 ∷ 0 ∷ 0 ∷ []) (result 2)
    -- the largest number that a table gives
    ∷ numbers 6 most (5 ∷ []) last_tree (result 18446744073709551614)
    -- the check's refusals come first
    ∷ numbers 257 [] [] (256 ∷ []) (refused 1 0)
    ∷ numbers 1 (leaf ++ 1 ∷ []) [] (replicate 4097 1) (refused 2 1)
    ∷ numbers 4 (even ++ row 6 3 (2 ∷ 2 ∷ [])) (3 ∷ []) [] (refused 9 3)
    -- 12: before 13, and of a tree too
    ∷ numbers 1 leaf (0 ∷ []) (replicate 4097 0) (refused 12 0)
    ∷ numbers 1 leaf (0 ∷ []) (replicate 4096 0) (refused 13 0)
    ∷ numbers 1 leaf (0 ∷ []) (replicate 2049 1 ++ replicate 2049 0) (refused 12 0)
    -- 13: above 255, a bar with no node open, after the root's bar, at the end
    ∷ numbers 1 leaf (0 ∷ []) (255 ∷ 256 ∷ 0 ∷ []) (refused 13 1)
    ∷ numbers 1 leaf (0 ∷ []) (0 ∷ []) (refused 13 0)
    ∷ numbers 1 leaf (0 ∷ []) (1 ∷ 0 ∷ 0 ∷ []) (refused 13 2)
    ∷ numbers 1 leaf (0 ∷ []) (1 ∷ 0 ∷ 1 ∷ 0 ∷ []) (refused 13 2)
    ∷ numbers 1 leaf (0 ∷ []) [] (refused 13 0)
    ∷ numbers 1 leaf (0 ∷ []) (1 ∷ 1 ∷ 0 ∷ []) (refused 13 3)
    -- before 14
    ∷ numbers 1 leaf (0 ∷ []) (2 ∷ 0 ∷ 1 ∷ []) (refused 13 2)
    -- 14: the first bar by its place, not the first node; fewer or more children than arguments; unlisted, the last bar
    ∷ numbers 3 small (1 ∷ []) (9 ∷ 1 ∷ 0 ∷ 9 ∷ 0 ∷ 0 ∷ []) (refused 14 4)
    ∷ numbers 3 small (1 ∷ []) (2 ∷ 9 ∷ 0 ∷ 9 ∷ 0 ∷ 0 ∷ []) (refused 14 2)
    ∷ numbers 3 small (1 ∷ []) (2 ∷ 0 ∷ []) (refused 14 1)
    ∷ numbers 3 small (1 ∷ []) (2 ∷ 1 ∷ 0 ∷ 1 ∷ 0 ∷ 1 ∷ 0 ∷ 0 ∷ []) (refused 14 7)
    ∷ numbers 3 small (1 ∷ []) (1 ∷ 0 ∷ []) (refused 14 1)
    ∷ numbers 3 small (1 ∷ []) (3 ∷ 2 ∷ 1 ∷ 0 ∷ 0 ∷ 2 ∷ 1 ∷ 0 ∷ 0 ∷ 0 ∷ []) (refused 14 9)
    -- a subtree that reaches an unused state is not the one that decides
    ∷ numbers 3 small (1 ∷ []) (9 ∷ 3 ∷ 2 ∷ 1 ∷ 0 ∷ 0 ∷ 2 ∷ 1 ∷ 0 ∷ 0 ∷ 0 ∷ 9 ∷ 0 ∷ 0 ∷ []) (refused 14 12)
    ∷ []

numbered_hold : map given numbered ≡ map due numbered
unfolding power two below_32 below_above even leaf small most last_tree numbered check_outcome check_within first_faulty refuse_on any_below row_start how_many how_many_rows first_rows rows_of same_by row_is sum product weight state_counts grow count total largest row_longest state_longest longest all_below cut too_many out_of_range not_below repeated row_ground accepting_ground limit_ground state_ground state_used grow_down is_used serial_forest serial row_with states_of entry_of horner earlier_rows row_value values_of number_of open_after entry_ground ends_too_soon form_then tree_then levels_of tree_from reaches_none stuck_then accepted_then number_tree number_outcome
numbered_hold = refl

written : List Example
written =
    -- into a longer list, one just as long, and one that is short by one: 16
    writes 3 small (1 ∷ 0 ∷ []) 1 (replicate 8 7) (result 6) (2 ∷ 1 ∷ 0 ∷ 1 ∷ 0 ∷ 0 ∷ 7 ∷ 7 ∷ [])
    ∷ writes 3 small (1 ∷ 0 ∷ []) 1 (replicate 6 7) (result 6) (2 ∷ 1 ∷ 0 ∷ 1 ∷ 0 ∷ 0 ∷ [])
    ∷ writes 3 small (1 ∷ 0 ∷ []) 1 (replicate 5 7) (refused 16 6) (replicate 5 7)
    ∷ writes 3 small (1 ∷ 0 ∷ []) 2 (replicate 3 7) (result 2) (1 ∷ 0 ∷ 7 ∷ [])
    -- the last child changes fastest
    ∷ writes 3 small (2 ∷ []) 1 (replicate 12 7) (result 12) (3 ∷ 2 ∷ 1 ∷ 0 ∷ 0 ∷ 2 ∷ 1 ∷ 0 ∷ 1 ∷ 0 ∷ 0 ∷ 0 ∷ [])
    ∷ writes 3 small (2 ∷ []) 2 (replicate 12 7) (result 12) (3 ∷ 2 ∷ 1 ∷ 0 ∷ 1 ∷ 0 ∷ 0 ∷ 2 ∷ 1 ∷ 0 ∷ 0 ∷ 0 ∷ [])
    -- 15, before 16; the check's refusals come first
    ∷ writes 3 small (1 ∷ 0 ∷ []) 3 (replicate 2 7) (refused 15 0) (replicate 2 7)
    ∷ writes 3 small (1 ∷ 0 ∷ []) 4294967296 [] (refused 15 0) []
    ∷ writes 3 small (1 ∷ 3 ∷ []) 4294967296 (replicate 2 7) (refused 7 1) (replicate 2 7)
    -- the largest number that a table gives, and the one after it, which is the total here and is 15 in every table that passes
    ∷ writes 6 most (5 ∷ []) 18446744073709551614 (replicate 41 7) (result 40) (last_tree ++ 7 ∷ [])
    ∷ writes 6 most (5 ∷ []) 18446744073709551615 (replicate 41 7) (refused 15 0) (replicate 41 7)
    ∷ []

written_hold : map given written ≡ map due written
unfolding power two below_32 below_above leaf small most last_tree written check_outcome check_within first_faulty refuse_on any_below row_start how_many how_many_rows first_rows rows_of same_by row_is sum product weight state_counts grow count total largest row_longest state_longest longest all_below cut too_many out_of_range not_below repeated row_ground accepting_ground limit_ground state_ground entry_of state_used grow_down is_used serial_forest serial find_by children_from tree_in tree_of tree_entries write_tree write_tree_list entries_for write_outcome write_list
written_hold = refl

-- ---- "A list that is no tree can open more": nodes that are opened and not closed, up to 4,096 of them

abbrev opening : ℕ → List ℕ
opening n = replicate n 1

open_all : (n depth : ℕ) → open_after depth (opening n) ≡ n + depth
unfolding open_after
open_all zero depth = omega arith
open_all (suc n) depth = omega (arith, open_all n (suc depth))

take_all : (n i : ℕ) → i ≤ n → take i (opening n) ≡ opening i
take_all n zero l = refl
take_all zero (suc i) l = absurd (omega arith)
take_all (suc n) (suc i) l = ap (λ (xs : List ℕ). 1 ∷ xs) (take_all n i (omega arith))

opens_sound : (n i : ℕ) → i < n → entry_ground (opening n) i ≡ 0
unfolding entry_ground
opens_sound n i l = rw (get_or-replicate {A = ℕ} n i 1 0 l, take_all n i (omega arith), open_all i 0) (go i)
  where
    go : (i : ℕ) → ◌≡◌ {A = ℕ} (if ltb 255 1 || (eqb 1 0 && eqb (i + 0) 0) || (ltb 0 i && eqb (i + 0) 0) then 13 else 0) 0
    go zero = refl
    go (suc i) = rw (ne_eqb (suc i + 0) 0 (λ e. omega arith)) (if_no (ltb 255 1 || (eqb 1 0 && false) || (ltb 0 (suc i) && false)) 13 0 (and-false (ltb 0 (suc i))))

opens_only : (n : ℕ) (o : Outcome) → 0 < n → n ≤ 4096 → tree_then (opening n) o ≡ refused 13 n
unfolding tree_then form_then ends_too_soon
opens_only n o p l =
    rw (length-replicate {A = ℕ} n 1, open_all n 0)
    (if_no (ltb 4096 n) (refused 12 0) _ (le-ltb 4096 n l)
    ∙ no_fault n (entry_ground (opening n)) _ (opens_sound n)
    ∙ if_yes (eqb n 0 || ltb 0 (n + 0)) (refused 13 n) o (or_right (eqb n 0) (ltb 0 (n + 0)) (lt-ltb 0 (n + 0) (omega arith))))
