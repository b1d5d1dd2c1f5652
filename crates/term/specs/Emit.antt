-- What the loops write for a text and for the entries of a tree, item by item. Assumes nothing: these are definitions.
use Rattle.std.specs.Prelude.{ℕ, Bool, not, List, [], ◌∷◌, ◌++◌, get_or, length, eqb, if◌then◌else◌}
use Rattle.model.specs.Names.{is_name_byte, name_of, symbol_of}
use Rattle.model.specs.Term.{run}

-- the entries with which a node begins: its symbol and, for a leaf, its bar
abbrev pub node_entries : (symbol : ℕ) (leaf : Bool) → List ℕ
node_entries symbol leaf = symbol ∷ (if leaf then 0 ∷ [] else [])

-- the entries that a byte b gives, where bs follow it and `in_name` says that a name byte stands before it: a name's first byte gives the name's
-- symbol and, where no `(` follows the name, a leaf's bar; `)` gives a bar; any other byte gives none
unfoldable pub piece : (names : List ℕ) (in_name : Bool) (b : ℕ) (bs : List ℕ) → List ℕ
piece names in_name b bs =
    if is_name_byte b then (if in_name then [] else node_entries (symbol_of names (b ∷ run bs)) (not (eqb (get_or bs (length (run bs)) 0) 40))) else
    if eqb b 41 then 0 ∷ [] else []

-- the entries that bytes give; `in_name` says that a name byte stands before them
unfoldable pub emitted : (names : List ℕ) (in_name : Bool) → List ℕ → List ℕ
emitted names in_name [] = []
emitted names in_name (b ∷ bs) = piece names in_name b bs ++ emitted names (is_name_byte b) bs

-- the bytes that an entry gives. A symbol gives its name, with the separator `mark` before it: `(` after a symbol, `,` after a bar, none (0) at
-- the front. A bar gives `)` after a bar, and nothing after a symbol
unfoldable pub entry_text : (names : List ℕ) (mark e : ℕ) → List ℕ
entry_text names mark e =
    if eqb e 0 then (if eqb mark 44 then 41 ∷ [] else []) else
    (if eqb mark 0 then [] else mark ∷ []) ++ name_of names e

-- 1 for a bar after a bar: it gives `)`
unfoldable pub closing : (mark e : ℕ) → ℕ
closing mark e = if eqb e 0 then (if eqb mark 44 then 1 else 0) else 0

-- the separator before a name that follows this entry
abbrev pub mark_after : ℕ → ℕ
mark_after e = if eqb e 0 then 44 else 40

-- the bytes that entries give
unfoldable pub entries_text : (names : List ℕ) (mark : ℕ) → List ℕ → List ℕ
entries_text names mark [] = []
entries_text names mark (e ∷ es) = entry_text names mark e ++ entries_text names (mark_after e) es
