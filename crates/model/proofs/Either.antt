-- "Reading takes either spelling.": what is answered depends on a text, and on a names list, through its bytes in small alone.
use Rattle.std.specs.Prelude.{if◌then◌else◌}
use Prim.Native.Nat.{ℕ, zero, suc, ◌-◌}
use mathlib.Core.Path.{◌≡◌, refl, ap, sym, ◌∙◌}
use mathlib.Core.Bool.{Bool, true, false, ◌&&◌, ◌||◌, not}
use mathlib.Core.List.{List, [], ◌∷◌, ◌++◌, map, map-append}
use lib.ListN.{length, get_or, drop, length-map, get_or-map}
use lib.Dec.{eqb, ltb, leb}
use borrow.Author.Tests.{eqb-true, eqb-false, ne_eqb}
use Rattle.model.specs.Answers.{Outcome, result, refused, lent_after}
use Rattle.model.specs.Choice.{first_faulty, any_below}
use Rattle.model.specs.Tree.{Forest, empty, node, serial}
use Rattle.model.specs.Names.{is_letter, is_name_byte, is_name, lower, alike, same_name, EachAlike, Line, joined, lines_of, no_line, line_at, how_many_names, name_of, line_with, symbol_of, is_listed, line_ground, names_then}
use Rattle.model.specs.Entries.{tree_then, tree_from}
use Rattle.model.specs.Term.{Terms, none, term, Term, alone, in_brackets, after_comma, text_of_terms, text_of, AllNames, IsTerm, ScanState, due, in_name, closed, ScanStep, step, Scan, passes, breaks_at, onward, scan, break_then, term_then, name_begins, name_at, term_from}
use Rattle.model.specs.TermOperations.{fits_in, symbols_of, names_of, tree_of_term, term_of_tree, entries_of, bytes_of, name_ground, read_whole, read_named, read_term_outcome, symbol_ground, write_named, write_term_outcome, read_term_list, write_term_list}
use Rattle.model.specs.Spelling.{EitherSpelling, EitherList}
use Rattle.model.proofs.Choice.{not_both}
use Rattle.model.proofs.Lists.{same_long, same_append}
use Rattle.model.proofs.Bytes.{letter_byte, line_no_byte, close_no_byte, comma_no_byte}
use Rattle.model.proofs.Alike.{alike_lower, letter_alike, other_alike, mark_alike, same_folded, folded_same, same_refl, same_exactly, same_small, same_both, both_same, small_name}
use Rattle.model.proofs.Scan.{whole_term, term_from_lem}
use Rattle.model.proofs.Names.{symbol_alike, listed_alike}
use Rattle.model.proofs.Spelling.{begins_small, name_small}
use Rattle.model.proofs.Inverse.{read_back}

-- what is the same of a list and of it in small is the same of two lists that are alike
pub from_small : {A : Type 0} (f : List ℕ → A) → ((a : List ℕ) → f (map lower a) ≡ f a) → (a b : List ℕ) → EachAlike a b → f a ≡ f b
from_small f h a b e = sym (h a) ∙ ap f (same_folded a b ((same_exactly a b).1 e)) ∙ h b

-- ---- a text in small: 19

letter_no_mark : (b m : ℕ) → is_letter b ≡ true → is_name_byte m ≡ false → eqb b m ≡ false
letter_no_mark b m e f = ne_eqb b m (λ h. not_both (is_name_byte m) (rw h at (letter_byte b e)) f)

step_letters : (r : ScanState) (a b : ℕ) → is_letter a ≡ true → is_letter b ≡ true → step r a ≡ step r b
unfolding step
step_letters (due d) a b f g = rw (f, g)
step_letters (in_name d n) a b f g = rw (letter_byte a f, letter_byte b g)
step_letters (closed zero) a b f g = refl
step_letters (closed (suc d)) a b f g =
    rw (letter_no_mark a 44 f comma_no_byte, letter_no_mark b 44 g comma_no_byte, letter_no_mark a 41 f close_no_byte, letter_no_mark b 41 g close_no_byte)

-- each byte leads to the same state
step_small : (r : ScanState) (b : ℕ) → step r (lower b) ≡ step r b
step_small r b = go (is_letter b) refl
  where
    e : is_letter (lower b) ≡ is_letter b
    e = letter_alike (lower b) b (alike_lower b)

    go : (t : Bool) → is_letter b ≡ t → step r (lower b) ≡ step r b
    go true f = step_letters r (lower b) b (e ∙ f) f
    go false f = ap (step r) (other_alike (lower b) b (alike_lower b) (e ∙ f))

scan_small : (r : ScanState) (place : ℕ) (bs : List ℕ) → scan r place (map lower bs) ≡ scan r place bs
unfolding scan
scan_small r place [] = refl
scan_small r place (b ∷ bs) =
    ap (λ (s : ScanStep). onward (λ next. scan next (suc place) (map lower bs)) s place) (step_small r b)
    ∙ ap (λ (rest : ScanState → Scan). onward rest (step r b) place) (λ i next. scan_small next (suc place) bs i)

-- ---- a text in small: 20

ground_small : (names text : List ℕ) (i : ℕ) → name_ground names (map lower text) i ≡ name_ground names text i
unfolding name_ground
ground_small names text i = rw (begins_small text i, name_small text i, listed_alike names (map lower (name_at text i)) (name_at text i) (same_small (name_at text i)))

-- ---- a text in small: its tree

-- terms with every name in small
unfoldable small : Terms → Terms
small none = none
small (term n inner right) = term (map lower n) (small inner) (small right)

small_brackets : (f : Terms) (text : List ℕ) → in_brackets (small f) (map lower text) ≡ map lower (in_brackets f text)
unfolding small lower
small_brackets none text = refl
small_brackets (term n inner right) text = ap (λ (l : List ℕ). 40 ∷ l) (sym (map-append lower text (41 ∷ [])))

small_comma : (f : Terms) (text : List ℕ) → after_comma (small f) (map lower text) ≡ map lower (after_comma f text)
unfolding small lower
small_comma none text = refl
small_comma (term n inner right) text = refl

small_text : (f : Terms) → text_of_terms (small f) ≡ map lower (text_of_terms f)
unfolding small text_of_terms
small_text none = refl
small_text (term n inner right) =
    let brackets = in_brackets inner (text_of_terms inner) in
    let comma = after_comma right (text_of_terms right) in
    ap (λ (l : List ℕ). map lower n ++ in_brackets (small inner) l ++ after_comma (small right) (text_of_terms (small right))) (small_text inner)
    ∙ ap (λ (l : List ℕ). map lower n ++ in_brackets (small inner) (map lower (text_of_terms inner)) ++ after_comma (small right) l) (small_text right)
    ∙ ap (λ (l : List ℕ). map lower n ++ l ++ after_comma (small right) (map lower (text_of_terms right))) (small_brackets inner (text_of_terms inner))
    ∙ ap (λ (l : List ℕ). map lower n ++ map lower brackets ++ l) (small_comma right (text_of_terms right))
    ∙ ap (λ (l : List ℕ). l ++ map lower comma) (sym (map-append lower n brackets))
    ∙ sym (map-append lower (n ++ brackets) comma)

small_names : (f : Terms) → AllNames f → AllNames (small f)
unfolding small AllNames
small_names none h = tt
small_names (term n inner right) h = (small_name n ∙ h.0, small_names inner h.1, small_names right h.2)

small_symbols : (names : List ℕ) (f : Terms) → symbols_of names (small f) ≡ symbols_of names f
unfolding small symbols_of
small_symbols names none = refl
small_symbols names (term n inner right) =
    rw (symbol_alike names (map lower n) n (same_small n), small_symbols names inner, small_symbols names right)

abbrev small_term : Term → Term
small_term t = record { name = map lower t.name; inner = small t.inner }

term_small : (text : List ℕ) → IsTerm text → IsTerm (map lower text)
unfolding small text_of AllNames
term_small text w =
    record {
      is = small_term w.is;
      names = small_names (alone w.is) w.names;
      written = small_text (alone w.is) ∙ ap (map lower) w.written;
    }

pub entries_small : (names text : List ℕ) → IsTerm text → entries_of names (map lower text) ≡ entries_of names text
unfolding entries_of term_small
entries_small names text w =
    let t = w.is in
    ap (λ (x : Term). serial (tree_of_term names x)) (term_from_lem (map lower text) (term_small text w))
    ∙ ap serial (λ i. record { symbol = symbol_alike names (map lower t.name) t.name (same_small t.name) i; children = small_symbols names t.inner i })
    ∙ ap (λ (x : Term). serial (tree_of_term names x)) (sym (term_from_lem text w))

-- ---- a text in small: the operation

pub read_small : (names : List ℕ) (room : ℕ) (text : List ℕ) → read_term_outcome names (map lower text) room ≡ read_term_outcome names text room
unfolding read_term_outcome term_then
read_small names room text =
    ap (names_then names)
    (ap (λ (n : ℕ). if ltb 65536 n then refused 18 0 else break_then (scan (due 0) 0 (map lower text)) (read_whole 4096 names (map lower text) room)) (length-map text lower)
    ∙ ap (λ (s : Scan). if ltb 65536 (length text) then refused 18 0 else break_then s (read_whole 4096 names (map lower text) room)) (scan_small (due 0) 0 text)
    ∙ ap (λ (o : Outcome). if ltb 65536 (length text) then refused 18 0 else o) (go (scan (due 0) 0 text) refl))
  where
    fits : List ℕ → Outcome
    fits xs = fits_in 4096 (length xs) room

    go : (s : Scan) → scan (due 0) 0 text ≡ s → break_then s (read_whole 4096 names (map lower text) room) ≡ break_then s (read_whole 4096 names text room)
    go passes f =
        ap (λ (n : ℕ). first_faulty n (name_ground names (map lower text)) (fits (entries_of names (map lower text)))) (length-map text lower)
        ∙ ap (λ (g : ℕ → ℕ). first_faulty (length text) g (fits (entries_of names (map lower text)))) (λ i k. ground_small names text k i)
        ∙ ap (λ (xs : List ℕ). first_faulty (length text) (name_ground names text) (fits xs)) (entries_small names text (whole_term text f))
    go (breaks_at p) f = refl

list_small : (names tree text : List ℕ) → read_term_list names (map lower text) tree ≡ read_term_list names text tree
unfolding read_term_list
list_small names tree text =
    ap (λ (o : Outcome). lent_after o (entries_of names (map lower text)) tree) (read_small names (length tree) text)
    ∙ go (read_term_outcome names text (length tree)) refl
  where
    go : (o : Outcome) → read_term_outcome names text (length tree) ≡ o
        → lent_after o (entries_of names (map lower text)) tree ≡ lent_after o (entries_of names text) tree
    go (result n) f =
        ap (λ (xs : List ℕ). xs ++ drop (length xs) tree) (entries_small names text (read_back names text (length tree) n f).0.well)
    go (refused k p) f = refl

-- texts that are alike are read alike
pub either_spelling : EitherSpelling
either_spelling names text other tree e = (
  from_small (λ (x : List ℕ). read_term_outcome names x (length tree)) (read_small names (length tree)) text other e,
  from_small (λ (x : List ℕ). read_term_list names x tree) (list_small names tree) text other e,
)

-- ---- a names list in small: its lines

-- a line in small
abbrev pub small_line : Line → Line
small_line l = record { bytes = map lower l.bytes; ended = l.ended }

ten_small : (b : ℕ) → eqb (lower b) 10 ≡ eqb b 10
unfolding lower
ten_small b = go (eqb b 10) refl
  where
    go : (t : Bool) → eqb b 10 ≡ t → eqb (lower b) 10 ≡ t
    go true e = ap (λ (x : ℕ). eqb (lower x) 10) (eqb-true b 10 e)
    go false e =
        ne_eqb (lower b) 10
        (λ h. eqb-false b 10 e (sym (mark_alike (lower b) b (alike_lower b) (ap is_name_byte h ∙ line_no_byte)) ∙ h))

pub lines_small : (names : List ℕ) → lines_of (map lower names) ≡ map small_line (lines_of names)
unfolding lines_of
lines_small [] = refl
lines_small (b ∷ bs) =
    rw (ten_small b, lines_small bs) (go (eqb b 10) (lines_of bs))
  where
    go : (t : Bool) (ls : List Line)
        → (if t then record { bytes = []; ended = true } ∷ map small_line ls else joined (lower b) (map small_line ls))
        ≡ map small_line (if t then record { bytes = []; ended = true } ∷ ls else joined b ls)
    go true ls = refl
    go false [] = refl
    go false (l ∷ ls) = refl

line_small : (names : List ℕ) (k : ℕ) → line_at (map lower names) k ≡ small_line (line_at names k)
line_small names k = ap (λ (ls : List Line). get_or ls k no_line) (lines_small names) ∙ get_or-map small_line (lines_of names) k no_line

many_small : (names : List ℕ) → how_many_names (map lower names) ≡ how_many_names names
many_small names = ap length (lines_small names) ∙ length-map (lines_of names) small_line

with_small : (ls : List Line) (n : List ℕ) → line_with (map small_line ls) n ≡ line_with ls n
unfolding line_with
with_small [] n = refl
with_small (l ∷ ls) n = rw (both_same (map lower l.bytes) l.bytes n (same_small l.bytes), with_small ls n)

find_small : (names n : List ℕ) → line_with (lines_of (map lower names)) n ≡ line_with (lines_of names) n
find_small names n = ap (λ (ls : List Line). line_with ls n) (lines_small names) ∙ with_small (lines_of names) n

symbol_small : (names n : List ℕ) → symbol_of (map lower names) n ≡ symbol_of names n
unfolding symbol_of
symbol_small names n = ap suc (find_small names n)

listed_small : (names n : List ℕ) → is_listed (map lower names) n ≡ is_listed names n
unfolding is_listed
listed_small names n = rw (find_small names n, many_small names)

-- ---- a names list in small: 17

equal_small : (names : List ℕ) (j k : ℕ)
    → same_name (line_at (map lower names) j).bytes (line_at (map lower names) k).bytes ≡ same_name (line_at names j).bytes (line_at names k).bytes
equal_small names j k =
    let a = (line_at names j).bytes in
    let b = (line_at names k).bytes in
    (λ i. same_name (line_small names j i).bytes (line_small names k i).bytes)
    ∙ both_same (map lower a) a (map lower b) (same_small a)
    ∙ same_both (map lower b) b a (same_small b)

line_ground_small : (names : List ℕ) (k : ℕ) → line_ground (map lower names) k ≡ line_ground names k
unfolding line_ground
line_ground_small names k =
    let name : is_name (line_at (map lower names) k).bytes ≡ is_name (line_at names k).bytes =
    ap (λ (l : Line). is_name l.bytes) (line_small names k) ∙ small_name (line_at names k).bytes in
    λ i. if not (name i)
    || any_below k (λ j. equal_small names j k i)
    || leb 255 k
    || not (line_small names k i).ended
    then 17 else 0

names_small : (o : Outcome) (names : List ℕ) → names_then (map lower names) o ≡ names_then names o
unfolding names_then
names_small o names =
    λ i. if eqb (length-map names lower i) 0 then refused 17 0 else
    first_faulty (many_small names i) (λ k. line_ground_small names k i) o

-- ---- a names list in small: reading and writing

symbols_list_small : (names : List ℕ) (f : Terms) → symbols_of (map lower names) f ≡ symbols_of names f
unfolding symbols_of
symbols_list_small names none = refl
symbols_list_small names (term n inner right) =
    λ i. node (symbol_small names n i) (symbols_list_small names inner i) (symbols_list_small names right i)

names_list_small : (names : List ℕ) (f : Forest) → names_of (map lower names) f ≡ small (names_of names f)
unfolding names_of small name_of
names_list_small names empty = refl
names_list_small names (node s children right) =
    λ i. term (line_small names (s - 1) i).bytes (names_list_small names children i) (names_list_small names right i)

entries_list_small : (text names : List ℕ) → entries_of (map lower names) text ≡ entries_of names text
unfolding entries_of
entries_list_small text names =
    let t = term_from text in
    λ i. serial record { symbol = symbol_small names t.name i; children = symbols_list_small names t.inner i }

bytes_list_small : (tree names : List ℕ) → bytes_of (map lower names) tree ≡ map lower (bytes_of names tree)
unfolding bytes_of name_of small text_of
bytes_list_small tree names =
    let t = tree_from tree in
    (λ i. text_of record { name = (line_small names (t.symbol - 1) i).bytes; inner = names_list_small names t.children i })
    ∙ small_text (alone (term_of_tree names t))

read_list_small : (text : List ℕ) (room : ℕ) (names : List ℕ) → read_term_outcome (map lower names) text room ≡ read_term_outcome names text room
unfolding read_term_outcome name_ground
read_list_small text room names =
    names_small (read_named 4096 (map lower names) text room) names
    ∙ (λ i. names_then names
    (if ltb 65536 (length text) then refused 18 0 else
    term_then text
    (first_faulty (length text) (λ k. if name_begins text k && not (listed_small names (name_at text k) i) then 20 else 0)
    (fits_in 4096 (length (entries_list_small text names i)) room))))

write_list_small : (tree : List ℕ) (room : ℕ) (names : List ℕ) → write_term_outcome (map lower names) tree room ≡ write_term_outcome names tree room
unfolding write_term_outcome symbol_ground
write_list_small tree room names =
    let long : length (bytes_of (map lower names) tree) ≡ length (bytes_of names tree) =
    ap length (bytes_list_small tree names) ∙ length-map (bytes_of names tree) lower in
    names_small (write_named (map lower names) tree room) names
    ∙ (λ i. names_then names
    (tree_then tree
    (first_faulty (length tree) (λ k. if ltb (many_small names i) (get_or tree k 0) then 23 else 0)
    (if ltb room (long i) then refused 24 (long i) else result (long i)))))

-- with names lists that are alike, terms are read alike, and written but for the spelling
pub either_list : EitherList
unfolding read_term_list write_term_list
either_list names other text tree e =
    let read = from_small (λ (x : List ℕ). read_term_outcome x text (length tree)) (read_list_small text (length tree)) names other e in
    let write = from_small (λ (x : List ℕ). write_term_outcome x tree (length text)) (write_list_small tree (length text)) names other e in
    let entries = from_small (λ (x : List ℕ). entries_of x text) (entries_list_small text) names other e in
    let bytes : same_name (bytes_of names tree) (bytes_of other tree) ≡ true =
    folded_same (bytes_of names tree) (bytes_of other tree)
    (sym (bytes_list_small tree names) ∙ ap (λ (x : List ℕ). bytes_of x tree) (same_folded names other ((same_exactly names other).1 e)) ∙ bytes_list_small tree other) in (
      read,
      (λ i. lent_after (read i) (entries i) tree),
      write,
      (same_exactly _ _).0 (rw (← write) (go (write_term_outcome names tree (length text)) bytes)),
    )
  where
    go : (o : Outcome) → same_name (bytes_of names tree) (bytes_of other tree) ≡ true
        → same_name (lent_after o (bytes_of names tree) text) (lent_after o (bytes_of other tree) text) ≡ true
    go (result n) h =
        rw (same_long alike (bytes_of names tree) (bytes_of other tree) h)
        (same_append alike (bytes_of names tree) (bytes_of other tree) (drop (length (bytes_of other tree)) text) (drop (length (bytes_of other tree)) text) h (same_refl _))
    go (refused k p) h = same_refl text
