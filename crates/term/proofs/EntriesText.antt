-- What is written for the entries of a tree, entry by entry, is the text of its term.
use Rattle.std.specs.Prelude.{if◌then◌else◌}
use Prim.Native.Nat.{ℕ, ◌≤◌}
use mathlib.Core.Path.{◌≡◌, refl, ap, sym, ◌∙◌}
use mathlib.Core.List.{List, [], ◌∷◌, ◌++◌, append_assoc, append-nil}
use native.Mathlib.Omega.{arith}
use lib.Dec.{eqb}
use borrow.Author.Tests.{ne_eqb}
use Rattle.model.specs.Names.{name_of}
use Rattle.model.specs.Tree.{Forest, Tree, empty, node, only, serial_forest, serial, SymbolsInRange, WellFormed}
use Rattle.model.specs.Term.{in_brackets, after_comma, text_of_terms, text_of}
use Rattle.model.specs.TermOperations.{names_of, term_of_tree, bytes_of}
use Rattle.model.proofs.Entries.{tree_from_lem}
use Rattle.term.specs.Emit.{entry_text, entries_text}

-- the byte before a name
abbrev marked : ℕ → List ℕ
marked mark = if eqb mark 0 then [] else mark ∷ []

-- the byte for a bar
abbrev closing : ℕ → List ℕ
closing mark = if eqb mark 44 then 41 ∷ [] else []

-- the byte before the first name of a forest, and the mark after the forest
abbrev opening : ℕ → Forest → List ℕ
opening mark empty = []
opening mark (node s k r) = marked mark

abbrev mark_past : ℕ → Forest → ℕ
mark_past mark empty = mark
mark_past mark (node s k r) = 44

letter_symbol : (names : List ℕ) (mark s : ℕ) (es : List ℕ) → 1 ≤ s
    → entries_text names mark (s ∷ es) ≡ marked mark ++ name_of names s ++ entries_text names 40 es
unfolding entries_text entry_text
letter_symbol names mark s es l = rw (ne_eqb s 0 (λ z. omega arith))

letter_bar : (names : List ℕ) (mark : ℕ) (es : List ℕ) → entries_text names mark (0 ∷ es) ≡ closing mark ++ entries_text names 44 es
unfolding entries_text entry_text
letter_bar names mark es = refl

letter_end : (names text : List ℕ) → text ++ entries_text names 44 [] ≡ text
unfolding entries_text
letter_end names text = append-nil text

regroup : (m n x c a l : List ℕ) → (m ++ n) ++ (x ++ (c ++ (a ++ l))) ≡ (m ++ ((n ++ (x ++ c)) ++ a)) ++ l
regroup m n x c a l = simp append_assoc

-- the text of a forest's terms
abbrev text_for : List ℕ → Forest → List ℕ
text_for names f = text_of_terms (names_of names f)

-- a node's children with the node's bar
children_text : (names : List ℕ) (k : Forest)
    → opening 40 k ++ text_for names k ++ closing (mark_past 40 k) ≡ in_brackets (names_of names k) (text_for names k)
unfolding names_of text_of_terms
children_text names empty = refl
children_text names (node s k r) = refl

-- the trees to its right
right_text : (names : List ℕ) (r : Forest) → opening 44 r ++ text_for names r ≡ after_comma (names_of names r) (text_for names r)
unfolding names_of text_of_terms
right_text names empty = refl
right_text names (node s k r) = refl

right_mark : (r : Forest) → mark_past 44 r ≡ 44
right_mark empty = refl
right_mark (node s k r) = refl

node_text : (names : List ℕ) (s : ℕ) (k r : Forest)
    → text_for names (node s k r) ≡ name_of names s ++ in_brackets (names_of names k) (text_for names k) ++ after_comma (names_of names r) (text_for names r)
unfolding names_of text_of_terms
node_text names s k r = refl

empty_text : (names : List ℕ) → text_for names empty ≡ []
unfolding names_of text_of_terms
empty_text names = refl

letter_forest : (names : List ℕ) (mark : ℕ) (f : Forest) (es : List ℕ) → SymbolsInRange f
    → entries_text names mark (serial_forest f ++ es) ≡ (opening mark f ++ text_for names f) ++ entries_text names (mark_past mark f) es
unfolding serial_forest SymbolsInRange
letter_forest names mark empty es h = ap (λ (l : List ℕ). l ++ entries_text names mark es) (sym (empty_text names))
letter_forest names mark (node s k r) es h =
    let a = rw (right_text names r, right_mark r) at (letter_forest names 44 r es h.3) in
    let b = letter_bar names (mark_past 40 k) (serial_forest r ++ es) ∙ ap (λ (l : List ℕ). closing (mark_past 40 k) ++ l) a in
    let c = letter_forest names 40 k (0 ∷ (serial_forest r ++ es)) h.2 ∙ ap (λ (l : List ℕ). (opening 40 k ++ text_for names k) ++ l) b in
    let beyond = after_comma (names_of names r) (text_for names r) in
    ap (λ (l : List ℕ). entries_text names mark (s ∷ l)) (append_assoc (serial_forest k) (0 ∷ serial_forest r) es)
    ∙ letter_symbol names mark s (serial_forest k ++ 0 ∷ (serial_forest r ++ es)) h.0
    ∙ ap (λ (l : List ℕ). (marked mark ++ name_of names s) ++ l) c
    ∙ regroup (marked mark) (name_of names s) (opening 40 k ++ text_for names k) (closing (mark_past 40 k)) beyond (entries_text names 44 es)
    ∙ rw (children_text names k, node_text names s k r)

letter_tree : (names : List ℕ) (t : Tree) → SymbolsInRange (only t) → entries_text names 0 (serial t) ≡ text_of (term_of_tree names t)
unfolding serial text_of names_of
letter_tree names t h =
    ap (entries_text names 0) (sym (append-nil (serial_forest (only t)))) ∙ letter_forest names 0 (only t) [] h ∙ letter_end names (text_for names (only t))

-- what is written for a well-formed tree is the text of its term
pub entries_text_lem : (names entries : List ℕ) → WellFormed entries → entries_text names 0 entries ≡ bytes_of names entries
unfolding bytes_of text_of
entries_text_lem names entries w =
    rw (tree_from_lem entries w)
    (ap (entries_text names 0) (sym w.written) ∙ letter_tree names w.tree w.symbols)
