-- The entries that a text gives, byte by byte, are those of its term.
use Rattle.std.specs.Prelude.{if◌then◌else◌}
use Prim.Native.Nat.{ℕ}
use mathlib.Core.Path.{◌≡◌, refl, ap, sym, ◌∙◌}
use mathlib.Core.Bool.{Bool, true, false, not}
use mathlib.Core.List.{List, [], ◌∷◌, ◌++◌, append_assoc, append-nil}
use lib.ListN.{length, get_or}
use lib.Dec.{eqb}
use Rattle.model.specs.Names.{is_letter, is_name_byte, all_name_bytes, is_name, symbol_of}
use Rattle.model.specs.Tree.{serial_forest, serial}
use Rattle.model.specs.Term.{Terms, none, term, Term, AllNames, IsTerm}
use Rattle.model.specs.TermOperations.{symbols_of, tree_of_term, entries_of}
use Rattle.model.proofs.Bytes.{NoByte, end_no_byte, open_no_byte, close_no_byte, comma_no_byte, byte_first, byte_others, name_parts, name_bytes_lem, run_all}
use Rattle.model.proofs.Scan.{bracketed, following, brackets_after, comma_after, text_of_lem, term_from_lem}
use Rattle.term.specs.Emit.{node_entries, piece, emitted}

-- where no name byte comes next, it does not matter whether one stands before
emitted_flag : (names : List ℕ) (c : Bool) (ys : List ℕ) → NoByte ys → emitted names c ys ≡ emitted names false ys
unfolding emitted piece
emitted_flag names c [] e = refl
emitted_flag names c (y ∷ ys) e = rw e

-- a name's later bytes
emitted_rest : (names bs ys : List ℕ) → all_name_bytes bs ≡ true → NoByte ys → emitted names true (bs ++ ys) ≡ emitted names false ys
unfolding emitted piece
emitted_rest names [] ys a e = emitted_flag names true ys e
emitted_rest names (b ∷ bs) ys a e = rw (byte_first b bs a) (emitted_rest names bs ys (byte_others b bs a) e)

get_d_after : (bs ys : List ℕ) → get_or (bs ++ ys) (length bs) 0 ≡ get_or ys 0 0
get_d_after [] ys = refl
get_d_after (b ∷ bs) ys = get_d_after bs ys

-- a run of name bytes: the symbol, and a bar unless a bracket follows
pub emitted_run : (names : List ℕ) (b : ℕ) (bs ys : List ℕ) → all_name_bytes (b ∷ bs) ≡ true → NoByte ys
    → emitted names false ((b ∷ bs) ++ ys) ≡ node_entries (symbol_of names (b ∷ bs)) (not (eqb (get_or ys 0 0) 40)) ++ emitted names false ys
unfolding emitted piece
emitted_run names b bs ys a e =
    rw (byte_first b bs a, run_all bs ys (byte_others b bs a) e, get_d_after bs ys, emitted_rest names bs ys (byte_others b bs a) e)

-- a name
emitted_name : (names n ys : List ℕ) → is_name n ≡ true → NoByte ys
    → emitted names false (n ++ ys) ≡ node_entries (symbol_of names n) (not (eqb (get_or ys 0 0) 40)) ++ emitted names false ys
emitted_name names n ys a e =
    let i = name_parts n a in
    rw i.is (emitted_run names i.first i.others ys (rw i.is at (name_bytes_lem n a)) e)

-- a byte that is no name byte
pub emitted_other : (names : List ℕ) (b : ℕ) (ys : List ℕ) → is_name_byte b ≡ false → emitted names false (b ∷ ys) ≡ (if eqb b 41 then 0 ∷ [] else []) ++ emitted names false ys
unfolding emitted piece
emitted_other names b ys e = rw e

-- the other bytes of a term
emitted_open : (names ys : List ℕ) → emitted names false (40 ∷ ys) ≡ emitted names false ys
unfolding emitted piece is_name_byte is_letter
emitted_open names ys = refl

emitted_close : (names ys : List ℕ) → emitted names false (41 ∷ ys) ≡ 0 ∷ emitted names false ys
unfolding emitted piece is_name_byte is_letter
emitted_close names ys = refl

emitted_comma : (names ys : List ℕ) → emitted names false (44 ∷ ys) ≡ emitted names false ys
unfolding emitted piece is_name_byte is_letter
emitted_comma names ys = refl

-- what may follow terms: no name byte and no `(`
record After (ys : List ℕ) : Type 0 where
  byte : NoByte ys
  shut : eqb (get_or ys 0 0) 40 ≡ false

after_end : After []
after_end = record { byte = end_no_byte; shut = refl }

after_close : (ys : List ℕ) → After (41 ∷ ys)
after_close ys = record { byte = close_no_byte; shut = refl }

after_following : (r : Terms) (ys : List ℕ) → After ys → After (following r ++ ys)
after_following none ys a = a
after_following (term n k r) ys a = record { byte = comma_no_byte; shut = refl }

-- a term with what follows it, and the terms to the right of one
emitted_leaf : (names n ys : List ℕ) → is_name n ≡ true → After ys → emitted names false (n ++ ys) ≡ symbol_of names n ∷ 0 ∷ emitted names false ys
emitted_leaf names n ys a s =
    emitted_name names n ys a s.byte ∙ ap (λ (b : Bool). node_entries (symbol_of names n) (not b) ++ emitted names false ys) s.shut

emitted_bracket : (names n ys : List ℕ) → is_name n ≡ true → emitted names false (n ++ 40 ∷ ys) ≡ symbol_of names n ∷ emitted names false ys
emitted_bracket names n ys a = emitted_name names n (40 ∷ ys) a open_no_byte ∙ ap (λ (l : List ℕ). symbol_of names n ∷ l) (emitted_open names ys)

mutual
  unfolding AllNames symbols_of serial_forest

  emitted_term : (k : Terms) (names n ys : List ℕ) → is_name n ≡ true → AllNames k → After ys
      → emitted names false (n ++ (bracketed k ++ ys)) ≡ symbol_of names n ∷ serial_forest (symbols_of names k) ++ 0 ∷ emitted names false ys
  emitted_term none names n ys e a s = emitted_leaf names n ys e s
  emitted_term (term m k r) names n ys e a s =
      let xs = following r ++ 41 ∷ ys in
      let f = serial_forest (symbols_of names k) in
      let g = serial_forest (symbols_of names r) in
      let u = emitted_term k names m xs a.0 a.1 (after_following r (41 ∷ ys) (after_close ys)) in
      let v = emitted_following r names (41 ∷ ys) a.2 (after_close ys) in
      ap (λ (l : List ℕ). emitted names false (n ++ l)) (brackets_after m k r ys)
      ∙ emitted_bracket names n (m ++ (bracketed k ++ xs)) e
      ∙ ap (λ (l : List ℕ). symbol_of names n ∷ l)
      (u ∙ ap (λ (l : List ℕ). symbol_of names m ∷ f ++ 0 ∷ l) (v ∙ ap (λ (l : List ℕ). g ++ l) (emitted_close names ys)))
      ∙ ap (λ (l : List ℕ). symbol_of names n ∷ symbol_of names m ∷ l) (sym (append_assoc f (0 ∷ g) (0 ∷ emitted names false ys)))

  emitted_following : (r : Terms) (names ys : List ℕ) → AllNames r → After ys
      → emitted names false (following r ++ ys) ≡ serial_forest (symbols_of names r) ++ emitted names false ys
  emitted_following none names ys a s = refl
  emitted_following (term n k r) names ys a s =
      let f = serial_forest (symbols_of names k) in
      let g = serial_forest (symbols_of names r) in
      let u = emitted_term k names n (following r ++ ys) a.0 a.1 (after_following r ys s) in
      let v = emitted_following r names ys a.2 s in
      ap (emitted names false) (comma_after n k r ys)
      ∙ emitted_comma names (n ++ (bracketed k ++ (following r ++ ys)))
      ∙ u ∙ ap (λ (l : List ℕ). symbol_of names n ∷ f ++ 0 ∷ l) v
      ∙ ap (λ (l : List ℕ). symbol_of names n ∷ l) (sym (append_assoc f (0 ∷ g) (emitted names false ys)))

-- a text, by its term
text_parts : (text : List ℕ) (w : IsTerm text) → text ≡ w.is.name ++ (bracketed w.is.inner ++ [])
text_parts text w = sym w.written ∙ text_of_lem w.is ∙ ap (λ (l : List ℕ). w.is.name ++ l) (sym (append-nil (bracketed w.is.inner)))

entries_parts : (names text : List ℕ) (w : IsTerm text)
    → entries_of names text ≡ symbol_of names w.is.name ∷ serial_forest (symbols_of names w.is.inner) ++ 0 ∷ []
unfolding entries_of serial serial_forest
entries_parts names text w = ap (λ (t : Term). serial (tree_of_term names t)) (term_from_lem text w)

emitted_end : (names : List ℕ) → emitted names false [] ≡ []
unfolding emitted
emitted_end names = refl

-- what a term gives is the entries of its tree
pub emitted_is : (names text : List ℕ) → IsTerm text → emitted names false text ≡ entries_of names text
unfolding AllNames
emitted_is names text w =
    let n = w.is.name in
    let k = w.is.inner in
    ap (emitted names false) (text_parts text w)
    ∙ emitted_term k names n [] w.names.0 w.names.1 after_end
    ∙ ap (λ (l : List ℕ). symbol_of names n ∷ serial_forest (symbols_of names k) ++ 0 ∷ l) (emitted_end names)
    ∙ sym (entries_parts names text w)
