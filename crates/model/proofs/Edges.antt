-- "Edges", by computation: tables just within the limits, and just beyond them; and those of the limit before document 02, h.
use Prim.Native.Nat.{ℕ}
use mathlib.Core.Path.{◌≡◌, refl}
use mathlib.Core.List.{List, [], ◌∷◌, ◌++◌, map}
use lib.ListN.{length, replicate}
use Rattle.model.specs.Answers.{Outcome, result, refused}
use Rattle.model.specs.Choice.{refuse_on, first_faulty, any_below}
use Rattle.model.specs.Table.{row_start, how_many, how_many_rows, first_rows, rows_of, table_of, same_by, row_is}
use Rattle.model.specs.Count.{sum, product, weight, state_counts, grow, count, total, largest, row_longest, state_longest, longest}
use Rattle.model.specs.Reach.{entry_of}
use Rattle.model.specs.Used.{state_used, grow_down, is_used}
use Rattle.model.specs.SixtyFour.{limit32}
use Rattle.model.specs.Check.{all_below, cut, too_many, out_of_range, not_below, repeated, row_ground, accepting_ground, limit_ground, state_ground, check_within, check_outcome}

-- a table; what its states 0 to 5 are to count, the entries of their longest trees, and the answer due
data Edge : Type 0 where
  edge : (states : ℕ) (rows accepting : List ℕ) (counts longests : List ℕ) → Outcome → Edge

abbrev six_states : List ℕ
six_states = 0 ∷ 1 ∷ 2 ∷ 3 ∷ 4 ∷ 5 ∷ []

abbrev given : Edge → Outcome × List ℕ × List ℕ
given (edge states rows accepting counts longests answer) =
    let T = table_of states rows accepting in
    (check_outcome states rows accepting, map (count T) six_states, map (longest T) six_states)

abbrev due : Edge → Outcome × List ℕ × List ℕ
due (edge states rows accepting counts longests answer) = (answer, counts, longests)

-- the entries of a row
abbrev pub row : (symbol target : ℕ) → List ℕ → List ℕ
row s q xs = s ∷ q ∷ length xs ∷ xs

-- a row of state 1 with so many arguments that count 2: 1, 2, 4 .. trees
unfoldable pub power : ℕ → List ℕ
power k = row 3 1 (replicate k 0)

-- two leaves reach state 0
unfoldable pub two : List ℕ
two = row 1 0 [] ++ row 2 0 []

-- states 1 and 2 count 65,535 and 65,537, and state 3 counts their product, 4,294,967,295
unfoldable pub below_32 : List ℕ
below_32 =
    two ++ power 0 ++ power 1 ++ power 2 ++ power 3 ++ power 4 ++ power 5 ++ power 6 ++ power 7 ++ power 8 ++ power 9 ++ power 10 ++ power 11 ++ power 12
    ++ power 13 ++ power 14 ++ power 15 ++ row 3 2 (replicate 16 0) ++ row 4 2 [] ++ row 5 3 (1 ∷ 2 ∷ [])

-- state 4 counts two more: 4,294,967,297
unfoldable pub below_above : List ℕ
below_above = below_32 ++ row 6 4 (1 ∷ 2 ∷ []) ++ row 7 4 [] ++ row 8 4 []

-- states 1 and 2 count 65,536 and 4,294,967,296
unfoldable pub even : List ℕ
even = two ++ power 16 ++ row 5 2 (1 ∷ 1 ∷ [])

-- "A leaf has 2 entries, a row of 16 leaves 34, a row of 16 of those 546."
unfoldable pub lengths : List ℕ
lengths = row 1 0 [] ++ row 1 1 (replicate 16 0) ++ row 1 2 (replicate 16 1)

edges : List Edge
edges =
    -- "the arguments now have 4,294,967,295 and 4,294,967,297 trees, which make the new limit and pass" (document 02, h)
    edge 6 (below_above ++ row 9 5 (3 ∷ 4 ∷ [])) (5 ∷ []) (2 ∷ 65535 ∷ 65537 ∷ 4294967295 ∷ 4294967297 ∷ 18446744073709551615 ∷ []) (2 ∷ 32 ∷ 34 ∷ 68 ∷ 68 ∷ 138 ∷ [])
    (result 18446744073709551615)
    -- "and twice 4,294,967,296, which give 9" (document 02, h)
    ∷ edge 4 (even ++ row 6 3 (2 ∷ 2 ∷ [])) (3 ∷ []) (2 ∷ 65536 ∷ 4294967296 ∷ 18446744073709551616 ∷ 0 ∷ 0 ∷ []) (2 ∷ 34 ∷ 70 ∷ 142 ∷ 0 ∷ 0 ∷ []) (refused 9 3)
    -- "The latter with a third argument that counts 0 make a row of 0, which passes.": in each place, in a state that has one other tree and is used
    ∷ edge 5 (even ++ row 6 4 (2 ∷ 2 ∷ 3 ∷ []) ++ row 7 4 []) (4 ∷ []) (2 ∷ 65536 ∷ 4294967296 ∷ 0 ∷ 1 ∷ 0 ∷ []) (2 ∷ 34 ∷ 70 ∷ 0 ∷ 2 ∷ 0 ∷ []) (result 1)
    ∷ edge 5 (even ++ row 6 4 (2 ∷ 3 ∷ 2 ∷ []) ++ row 7 4 []) (4 ∷ []) (2 ∷ 65536 ∷ 4294967296 ∷ 0 ∷ 1 ∷ 0 ∷ []) (2 ∷ 34 ∷ 70 ∷ 0 ∷ 2 ∷ 0 ∷ []) (result 1)
    ∷ edge 5 (even ++ row 6 4 (3 ∷ 2 ∷ 2 ∷ []) ++ row 7 4 []) (4 ∷ []) (2 ∷ 65536 ∷ 4294967296 ∷ 0 ∷ 1 ∷ 0 ∷ []) (2 ∷ 34 ∷ 70 ∷ 0 ∷ 2 ∷ 0 ∷ []) (result 1)
    -- "Seven of 546 and eight of 34 make 4,096, which passes"
    ∷ edge 4 (lengths ++ row 1 3 (replicate 7 2 ++ replicate 8 1)) (3 ∷ []) (1 ∷ 1 ∷ 1 ∷ 1 ∷ 0 ∷ 0 ∷ []) (2 ∷ 34 ∷ 546 ∷ 4096 ∷ 0 ∷ 0 ∷ []) (result 1)
    -- "one leaf more makes 4,098, which is 10"
    ∷ edge 4 (lengths ++ row 1 3 (replicate 7 2 ++ replicate 8 1 ++ (0 ∷ []))) (3 ∷ []) (1 ∷ 1 ∷ 1 ∷ 1 ∷ 0 ∷ 0 ∷ []) (2 ∷ 34 ∷ 546 ∷ 4098 ∷ 0 ∷ 0 ∷ []) (refused 10 3)
    ∷ []

edges_hold : map given edges ≡ map due edges
unfolding power two below_32 below_above even lengths edges check_outcome check_within first_faulty refuse_on any_below row_start how_many how_many_rows first_rows rows_of same_by row_is sum product weight state_counts grow count total largest row_longest state_longest longest all_below cut too_many out_of_range not_below repeated row_ground accepting_ground limit_ground state_ground entry_of state_used grow_down is_used
edges_hold = refl

-- a table that was at an edge before document 02, h: the answers within document 01's limit, and now
data OldEdge : Type 0 where
  old_edge : (states : ℕ) (rows accepting : List ℕ) (before now : Outcome) → OldEdge

abbrev old_given : OldEdge → Outcome × Outcome
old_given (old_edge states rows accepting before now) = (check_within limit32 states rows accepting, check_outcome states rows accepting)

abbrev old_due : OldEdge → Outcome × Outcome
old_due (old_edge states rows accepting before now) = (before, now)

old_edges : List OldEdge
old_edges =
    -- "arguments with 65,535 and 65,537 trees make a row of 4,294,967,295, which passes; two with 65,536 give 9"
    old_edge 4 below_32 (3 ∷ []) (result 4294967295) (result 4294967295)
    ∷ old_edge 3 even (2 ∷ []) (refused 9 2) (result 4294967296)
    -- "The latter with a third argument that counts 0 make a row of 0, which passes."
    ∷ old_edge 5 (even ++ row 6 4 (1 ∷ 1 ∷ 3 ∷ []) ++ row 7 4 []) (4 ∷ []) (result 1) (result 1)
    -- "Last, a total above 4,294,967,295 is 11."
    ∷ old_edge 4 below_32 (3 ∷ 0 ∷ []) (refused 11 0) (result 4294967297)
    ∷ []

old_edges_hold : map old_given old_edges ≡ map old_due old_edges
unfolding power two below_32 even old_edges check_outcome check_within first_faulty refuse_on any_below row_start how_many how_many_rows first_rows rows_of same_by row_is sum product weight state_counts grow count total largest row_longest state_longest longest all_below cut too_many out_of_range not_below repeated row_ground accepting_ground limit_ground state_ground entry_of state_used grow_down is_used
old_edges_hold = refl
