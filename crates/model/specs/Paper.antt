-- "The paper's own table". Assumes nothing: these are definitions.
use Rattle.std.specs.Prelude.{ℕ}
use mathlib.Core.List.{List, [], ◌∷◌, flatten}
use Rattle.model.specs.Text.{ascii}

-- "there are five states"
abbrev pub paper_states : ℕ
paper_states = 5

-- "Rows, as symbol, target, argument count, arguments"
unfoldable pub paper_row_list : List (List ℕ)
paper_row_list =
    (1 ∷ 0 ∷ 0 ∷ [])
    ∷ (2 ∷ 1 ∷ 0 ∷ [])
    ∷ (1 ∷ 2 ∷ 2 ∷ 0 ∷ 0 ∷ [])
    ∷ (2 ∷ 2 ∷ 2 ∷ 0 ∷ 1 ∷ [])
    ∷ (1 ∷ 3 ∷ 2 ∷ 1 ∷ 0 ∷ [])
    ∷ (1 ∷ 3 ∷ 2 ∷ 1 ∷ 1 ∷ [])
    ∷ (2 ∷ 3 ∷ 2 ∷ 1 ∷ 1 ∷ [])
    ∷ (1 ∷ 4 ∷ 2 ∷ 2 ∷ 2 ∷ [])
    ∷ (2 ∷ 4 ∷ 3 ∷ 2 ∷ 3 ∷ 1 ∷ [])
    ∷ []

-- "The rows, one after another in one list."
unfoldable pub paper_rows : List ℕ
paper_rows = flatten paper_row_list

-- "The accepting list is 2, 4."
abbrev pub paper_accepting : List ℕ
paper_accepting = 2 ∷ 4 ∷ []

-- "Symbol 1 is `a`, symbol 2 is `b`"
unfoldable pub paper_names : List ℕ
paper_names = ascii "a\nb\n"
