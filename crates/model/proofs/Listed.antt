-- In a term each run of name bytes is one of its names: where no name of it is refused, every name of it is listed, and back. Then the
-- symbols that have names, and how long the text of a tree is.
use Rattle.std.specs.Prelude.{if◌then◌else◌}
use Prim.Native.Nat.{ℕ, zero, suc, ◌+◌, ◌*◌, ◌≤◌, ◌<◌, suc-le-suc}
use mathlib.Core.Path.{◌≡◌, refl, ap, sym, subst, ◌∙◌}
use mathlib.Core.Bool.{Bool, true, false, not, ◌&&◌, and_assoc, and-true as and_yes}
use mathlib.Core.List.{List, [], ◌∷◌, ◌++◌, append_assoc, append-nil}
use native.Mathlib.Omega.{arith}
use native.Mathlib.Nat.{not-suc-le-zero, le_of_suc-le-suc}
use lib.ListN.{length, get_or, length-append}
use borrow.Author.Tests.{ltb-false, le-ltb, not-false}
use Rattle.model.specs.Names.{is_name_byte, all_name_bytes, is_name, how_many_names, name_of, is_listed}
use Rattle.model.specs.Tree.{Forest, Tree, empty, node, only, serial_forest, serial, SymbolsInRange, WellFormed}
use Rattle.model.specs.Term.{Terms, Term, none, term, alone, text_of_terms, text_of, AllNames, IsTerm, run, name_begins, name_at}
use Rattle.model.specs.TermOperations.{names_of, term_of_tree, AllListed, name_ground, symbol_ground}
use Rattle.model.proofs.Choice.{if_no, if_zero, and_true, and_both}
use Rattle.model.proofs.Good.{AllBelow, below_none, below_cons, below_first, below_rest}
use Rattle.model.proofs.Bytes.{open_no_byte, close_no_byte, comma_no_byte, end_no_byte, byte_first, byte_others, name_parts, name_bytes_lem, NoByte, run_all}
use Rattle.model.proofs.Scan.{bracketed, following, text_after}
use Rattle.model.proofs.Names.{Sound, name_is}

-- ---- what follows a name

pub brackets_stop : (f : Terms) (ys : List ℕ) → NoByte ys → NoByte (bracketed f ++ ys)
brackets_stop none ys h = h
brackets_stop (term n inner right) ys h = open_no_byte

pub comma_stop : (f : Terms) (ys : List ℕ) → NoByte ys → NoByte (following f ++ ys)
comma_stop none ys h = h
comma_stop (term n inner right) ys h = comma_no_byte

-- a run begins at byte i, where the byte before the bytes is a name byte or not
abbrev pub begins : (inside : Bool) → List ℕ → ℕ → Bool
begins inside bs zero = is_name_byte (get_or bs 0 0) && not inside
begins inside bs (suc i) = name_begins bs (suc i)

pub begins_next : (inside : Bool) (b : ℕ) (bs : List ℕ) (i : ℕ) → begins inside (b ∷ bs) (suc i) ≡ begins (is_name_byte b) bs i
unfolding name_begins
begins_next inside b bs zero = refl
begins_next inside b bs (suc i) = refl

pub begins_first : (text : List ℕ) (i : ℕ) → name_begins text i ≡ begins false text i
unfolding name_begins
begins_first text zero = sym (and_yes (is_name_byte (get_or text 0 0)))
begins_first text (suc i) = refl

-- a test of a thing that is looked at only where another test holds
test_no : (a b : Bool) → (if a then b else true) ≡ true → (a && not b) ≡ false
test_no true b e = rw e
test_no false b e = refl

test_yes : (a b : Bool) → (a && not b) ≡ false → (if a then b else true) ≡ true
test_yes true b e = not-false b e
test_yes false b e = refl

module _ (names : List ℕ) where
  -- ---- the runs of name bytes, byte by byte

  -- each run that begins among the bytes is listed, where the byte before them is a name byte or not
  unfoldable fine : (inside : Bool) → List ℕ → Bool
  fine inside [] = true
  fine inside (b ∷ bs) = (if is_name_byte b && not inside then is_listed names (run (b ∷ bs)) else true) && fine (is_name_byte b) bs

  -- each name is listed
  unfoldable every : Terms → Bool
  every none = true
  every (term n inner right) = is_listed names n && (every inner && every right)

  fine_mark : (inside : Bool) (b : ℕ) (bs : List ℕ) → is_name_byte b ≡ false → fine inside (b ∷ bs) ≡ fine false bs
  unfolding fine
  fine_mark inside b bs e = rw e

  fine_stops : (ys : List ℕ) → NoByte ys → fine true ys ≡ fine false ys
  unfolding fine
  fine_stops [] h = refl
  fine_stops (b ∷ bs) h = rw h

  fine_rest : (n ys : List ℕ) → all_name_bytes n ≡ true → fine true (n ++ ys) ≡ fine true ys
  unfolding fine
  fine_rest [] ys e = refl
  fine_rest (b ∷ bs) ys e = rw (byte_first b bs e) (fine_rest bs ys (byte_others b bs e))

  fine_cons : (b : ℕ) (bs ys : List ℕ) → all_name_bytes (b ∷ bs) ≡ true → NoByte ys
      → fine false (b ∷ bs ++ ys) ≡ is_listed names (b ∷ bs) && fine false ys
  unfolding fine
  fine_cons b bs ys e h = rw (run_all (b ∷ bs) ys e h, byte_first b bs e, fine_rest bs ys (byte_others b bs e), fine_stops ys h)

  fine_name : (n ys : List ℕ) → is_name n ≡ true → NoByte ys → fine false (n ++ ys) ≡ is_listed names n && fine false ys
  fine_name n ys e h =
      let w = name_parts n e in
      rw w.is (fine_cons w.first w.others ys (rw w.is at (name_bytes_lem n e)) h)

  -- terms with something after them: their names, then what comes after
  fine_brackets : (f : Terms) (ys : List ℕ) → ((zs : List ℕ) → NoByte zs → fine false (text_of_terms f ++ zs) ≡ every f && fine false zs)
      → fine false (bracketed f ++ ys) ≡ every f && fine false ys
  unfolding every
  fine_brackets none ys h = refl
  fine_brackets (term n inner right) ys h =
      let f = term n inner right in
      fine_mark false 40 (text_of_terms f ++ 41 ∷ [] ++ ys) open_no_byte
      ∙ ap (fine false) (append_assoc (text_of_terms f) (41 ∷ []) ys)
      ∙ h (41 ∷ ys) close_no_byte
      ∙ ap (λ (t : Bool). every f && t) (fine_mark false 41 ys close_no_byte)

  fine_comma : (f : Terms) (ys : List ℕ) → fine false (text_of_terms f ++ ys) ≡ every f && fine false ys
      → fine false (following f ++ ys) ≡ every f && fine false ys
  unfolding every
  fine_comma none ys h = refl
  fine_comma (term n inner right) ys h = fine_mark false 44 (text_of_terms (term n inner right) ++ ys) comma_no_byte ∙ h

  fine_terms : (f : Terms) → AllNames f → (ys : List ℕ) → NoByte ys → fine false (text_of_terms f ++ ys) ≡ every f && fine false ys
  unfolding every AllNames text_of_terms
  fine_terms none h ys s = refl
  fine_terms (term n inner right) h ys s =
      ap (fine false) (text_after n inner right ys)
      ∙ fine_name n _ h.0 (brackets_stop inner _ (comma_stop right ys s))
      ∙ ap (λ (t : Bool). is_listed names n && t)
      (fine_brackets inner _ (fine_terms inner h.1) ∙ ap (λ (t : Bool). every inner && t) (fine_comma right ys (fine_terms right h.2 ys s)))
      ∙ ap (λ (t : Bool). is_listed names n && t) (sym (and_assoc (every inner) (every right) (fine false ys)))
      ∙ sym (and_assoc (is_listed names n) (every inner && every right) (fine false ys))

  fine_text : (t : Term) → AllNames (alone t) → fine false (text_of t) ≡ every (alone t)
  unfolding text_of fine
  fine_text t h =
      ap (fine false) (sym (append-nil (text_of_terms (alone t)))) ∙ fine_terms (alone t) h [] end_no_byte ∙ and_yes (every (alone t))

  -- ---- the runs, by the number of a byte

  fine_at : (inside : Bool) (bs : List ℕ) → fine inside bs ≡ true
      → (i : ℕ) → i < length bs → (begins inside bs i && not (is_listed names (name_at bs i))) ≡ false
  unfolding fine
  fine_at inside [] e i l = absurd (not-suc-le-zero l)
  fine_at inside (b ∷ bs) e zero l =
      let parts = and_true (if is_name_byte b && not inside then is_listed names (run (b ∷ bs)) else true) (fine (is_name_byte b) bs) e in
      test_no (is_name_byte b && not inside) (is_listed names (run (b ∷ bs))) parts.0
  fine_at inside (b ∷ bs) e (suc i) l =
      let parts = and_true (if is_name_byte b && not inside then is_listed names (run (b ∷ bs)) else true) (fine (is_name_byte b) bs) e in
      ap (λ (t : Bool). t && not (is_listed names (name_at bs i))) (begins_next inside b bs i)
      ∙ fine_at (is_name_byte b) bs parts.1 i (le_of_suc-le-suc l)

  at_fine : (inside : Bool) (bs : List ℕ) → ((i : ℕ) → i < length bs → (begins inside bs i && not (is_listed names (name_at bs i))) ≡ false)
      → fine inside bs ≡ true
  unfolding fine
  at_fine inside [] h = refl
  at_fine inside (b ∷ bs) h =
      and_both _ (fine (is_name_byte b) bs)
      (test_yes (is_name_byte b && not inside) (is_listed names (run (b ∷ bs))) (h 0 (omega arith)))
      (at_fine (is_name_byte b) bs
      (λ i l. ap (λ (t : Bool). t && not (is_listed names (name_at bs i))) (sym (begins_next inside b bs i)) ∙ h (suc i) (omega arith)))

  -- ---- every name

  every_listed_lem : (f : Terms) → every f ≡ true → AllListed names f
  unfolding every AllListed
  every_listed_lem none e = tt
  every_listed_lem (term n inner right) e =
      let p = and_true (is_listed names n) (every inner && every right) e in
      let q = and_true (every inner) (every right) p.1 in
      (p.0, every_listed_lem inner q.0, every_listed_lem right q.1)

  listed_every : (f : Terms) → AllListed names f → every f ≡ true
  unfolding every AllListed
  listed_every none h = refl
  listed_every (term n inner right) h =
      and_both (is_listed names n) (every inner && every right) h.0
      (and_both (every inner) (every right) (listed_every inner h.1) (listed_every right h.2))

  written_fine : (text : List ℕ) (w : IsTerm text) → fine false text ≡ every (alone w.is)
  written_fine text w = ap (fine false) (sym w.written) ∙ fine_text w.is w.names

-- a term none of whose names is refused: its names are listed
pub listed_names : (names text : List ℕ) (w : IsTerm text) → ((i : ℕ) → i < length text → name_ground names text i ≡ 0)
    → AllListed names (alone w.is)
unfolding name_ground
listed_names names text w h =
    every_listed_lem names (alone w.is) (sym (written_fine names text w) ∙ at_fine names false text
    (λ i l. ap (λ (t : Bool). t && not (is_listed names (name_at text i))) (sym (begins_first text i)) ∙ (if_zero _ 19 0 (h i l)).0))

-- a term whose names are listed: none of them is refused
pub names_listed : (names text : List ℕ) (w : IsTerm text) → AllListed names (alone w.is) → (i : ℕ) → i < length text → name_ground names text i ≡ 0
unfolding name_ground
names_listed names text w h i l =
    if_no _ 20 0
    (ap (λ (t : Bool). t && not (is_listed names (name_at text i))) (begins_first text i)
    ∙ fine_at names false text (written_fine names text w ∙ listed_every names (alone w.is) h) i l)

-- ---- symbols with names, and the length of a text

-- each symbol of the trees has a name
unfoldable pub AllNamed : (names : List ℕ) → Forest → Type 0
AllNamed names empty = Unit
AllNamed names (node s children right) = (1 ≤ s) × (s ≤ how_many_names names) × AllNamed names children × AllNamed names right

below_append : (n : ℕ) (xs ys : List ℕ) → AllBelow n xs → AllBelow n ys → AllBelow n (xs ++ ys)
below_append n [] ys h k = k
below_append n (x ∷ xs) ys h k = below_cons n x (xs ++ ys) (below_first n x xs h) (below_append n xs ys (below_rest n x xs h) k)

below_parts : (n : ℕ) (xs ys : List ℕ) → AllBelow n (xs ++ ys) → AllBelow n xs × AllBelow n ys
below_parts n [] ys h = (below_none n, h)
below_parts n (x ∷ xs) ys h =
    let p = below_parts n xs ys (below_rest n x (xs ++ ys) h) in
    (below_cons n x xs (below_first n x (xs ++ ys) h) p.0, p.1)

-- the symbols of trees have names just where every entry is at most the count of names
entries_named : (names : List ℕ) (f : Forest) → SymbolsInRange f → AllBelow (suc (how_many_names names)) (serial_forest f) → AllNamed names f
unfolding AllNamed SymbolsInRange serial_forest
entries_named names empty r h = tt
entries_named names (node s children right) r h =
    let n = suc (how_many_names names) in
    let p = below_parts n (s ∷ serial_forest children) (0 ∷ serial_forest right) h in (
      r.0,
      le_of_suc-le-suc (below_first n s (serial_forest children) p.0),
      entries_named names children r.2 (below_rest n s (serial_forest children) p.0),
      entries_named names right r.3 (below_rest n 0 (serial_forest right) p.1),
    )

named_entries : (names : List ℕ) (f : Forest) → AllNamed names f → AllBelow (suc (how_many_names names)) (serial_forest f)
unfolding AllNamed serial_forest
named_entries names empty a = below_none (suc (how_many_names names))
named_entries names (node s children right) a =
    let n = suc (how_many_names names) in
    below_append n (s ∷ serial_forest children) (0 ∷ serial_forest right)
    (below_cons n s (serial_forest children) (suc-le-suc a.1) (named_entries names children a.2))
    (below_cons n 0 (serial_forest right) (omega arith) (named_entries names right a.3))

-- of a well-formed list: every entry is at most the count of names just where its symbols have names
pub low_named : (names tree : List ℕ) (w : WellFormed tree) → ((i : ℕ) → i < length tree → get_or tree i 0 ≤ how_many_names names)
    → AllNamed names (only w.tree)
unfolding serial
low_named names tree w h =
    entries_named names (only w.tree) w.symbols (subst (AllBelow (suc (how_many_names names))) (sym w.written) (λ i l. suc-le-suc (h i l)))

pub named_low : (names tree : List ℕ) (w : WellFormed tree) → AllNamed names (only w.tree)
    → (i : ℕ) → i < length tree → get_or tree i 0 ≤ how_many_names names
unfolding serial
named_low names tree w a i l =
    le_of_suc-le-suc (subst (AllBelow (suc (how_many_names names))) w.written (named_entries names (only w.tree) a) i l)

-- an entry is not refused just where it is at most the count of names
pub symbol_low : (names tree : List ℕ) (i : ℕ) → symbol_ground names tree i ≡ 0 → get_or tree i 0 ≤ how_many_names names
unfolding symbol_ground
symbol_low names tree i e = ltb-false (how_many_names names) (get_or tree i 0) (if_zero _ 22 0 e).0

pub low_symbol : (names tree : List ℕ) (i : ℕ) → get_or tree i 0 ≤ how_many_names names → symbol_ground names tree i ≡ 0
unfolding symbol_ground
low_symbol names tree i l = if_no _ 23 0 (le-ltb (how_many_names names) (get_or tree i 0) l)

pub terms_length : (n : List ℕ) (inner right : Terms)
    → length (text_of_terms (term n inner right)) ≡ length n + length (bracketed inner) + length (following right)
unfolding text_of_terms
terms_length n inner right = simp length-append

brackets_length : (f : Terms) → length (bracketed f) ≤ length (following f) + 1
brackets_length none = omega arith
brackets_length (term n inner right) = simp length-append (omega arith)

name_length : (n : List ℕ) → is_name n ≡ true → length n ≤ 24
name_length n e = let w = name_parts n e in omega (arith, ap length w.is)

-- a node has 2 entries and 26 bytes at most: its name, a `(`, and the `,` or `)` after it
comma_bound : (names : List ℕ) → Sound names → (f : Forest) → AllNamed names f → length (following (names_of names f)) ≤ 13 * length (serial_forest f)
unfolding AllNamed names_of serial_forest
comma_bound names h empty a = omega arith
comma_bound names h (node s children right) a =
    omega (
      arith,
      name_length (name_of names s) (name_is names h s a.0 a.1),
      terms_length (name_of names s) (names_of names children) (names_of names right),
      brackets_length (names_of names children),
      comma_bound names h children a.2,
      comma_bound names h right a.3,
      length-append (serial_forest children) (0 ∷ serial_forest right),
    )

-- the text of a tree has at most 13 bytes for each entry: 53,248 bytes at most for 4,096 entries
pub text_bound : (names : List ℕ) → Sound names → (t : Tree) → AllNamed names (only t) → length (text_of (term_of_tree names t)) ≤ 13 * length (serial t)
unfolding text_of serial names_of
text_bound names h t a = omega (arith, comma_bound names h (only t) a)
