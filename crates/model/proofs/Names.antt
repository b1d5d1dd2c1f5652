-- Laws of names lists: which are taken, the names in them, and symbols and names there and back. When two names are equal is used only
-- through the laws of Alike.
use Rattle.std.specs.Prelude.{if◌then◌else◌}
use Prim.Native.Nat.{ℕ, zero, suc, ◌+◌, ◌-◌, ◌≤◌, ◌<◌}
use mathlib.Core.Path.{◌≡◌, refl, ap, sym, ◌∙◌}
use mathlib.Core.Bool.{Bool, true, false, not, ◌||◌}
use mathlib.Core.List.{List, [], ◌∷◌, ◌++◌, map}
use mathlib.Core.Logic.{◌↔◌}
use native.Mathlib.Omega.{arith}
use native.Mathlib.Nat.{not-suc-le-zero, le_of_suc-le-suc}
use lib.ListN
use lib.ListN.{length, get_or, length-map}
use lib.Dec.{eqb, ltb, leb}
use borrow.Author.Tests.{eqb-true, ltb-true, lt-ltb, leb-false, lt-leb, eqb-false, ne_eqb, not-false}
use Rattle.model.specs.Answers.{Outcome, result, refused}
use Rattle.model.specs.Choice.{any_below}
use Rattle.model.specs.Names.{all_name_bytes, is_name, same_name, bytes_of_names, IsNamesList, Line, joined, lines_of, no_line, line_at, how_many_names, name_of, line_with, symbol_of, is_listed, line_ground, names_then}
use Rattle.model.proofs.Choice.{if_no, if_result, if_zero, one_place, or_false, not_both, no_fault, no_fault_back, any_false, any_none}
use Rattle.model.proofs.Counting.{get_d_map}
use Rattle.model.proofs.Bytes.{byte_not_ten, byte_first, byte_others, name_bytes_lem}
use Rattle.model.proofs.Alike.{same_refl, same_sym, same_trans, same_both}

-- ---- the lists that are taken

-- "1 to 255 names, each followed by byte 10"; "No name stands twice."
pub record Sound (names : List ℕ) : Type 0 where
  pub some : 0 < how_many_names names
  pub few : how_many_names names ≤ 255
  pub line_name : (k : ℕ) → k < how_many_names names → is_name (line_at names k).bytes ≡ true
  pub line_ended : (k : ℕ) → k < how_many_names names → (line_at names k).ended ≡ true
  pub apart : (j k : ℕ) → j < k → k < how_many_names names → same_name (line_at names j).bytes (line_at names k).bytes ≡ false

-- a list is empty just where it has no line
pub no_lines : (names : List ℕ) → 0 < length (lines_of names) → length names ≡ 0 → ⊥
unfolding lines_of
no_lines [] l e = not-suc-le-zero l
no_lines (b ∷ bs) l e = omega arith

pub some_lines : (names : List ℕ) → (length names ≡ 0 → ⊥) → 0 < length (lines_of names)
unfolding lines_of
some_lines [] h = absurd (h refl)
some_lines (b ∷ bs) h = go (eqb b 10) (lines_of bs)
  where
    go : (t : Bool) (ls : List Line) → 0 < length (if t then record { bytes = []; ended = true } ∷ ls else joined b ls)
    go true ls = omega arith
    go false [] = omega arith
    go false (l ∷ ls) = omega arith

-- what a line without a ground is
pub record SoundLine (names : List ℕ) (k : ℕ) : Type 0 where
  pub name : is_name (line_at names k).bytes ≡ true
  pub apart : (j : ℕ) → j < k → same_name (line_at names j).bytes (line_at names k).bytes ≡ false
  pub few : k < 255
  pub ended : (line_at names k).ended ≡ true

pub line_clear : (names : List ℕ) (k : ℕ) → SoundLine names k → line_ground names k ≡ 0
unfolding line_ground
line_clear names k s =
    rw (
      s.name,
      any_none k (λ j. same_name (line_at names j).bytes (line_at names k).bytes) s.apart,
      lt-leb 255 k s.few,
      s.ended,
    )

pub clear_line : (names : List ℕ) (k : ℕ) → line_ground names k ≡ 0 → SoundLine names k
unfolding line_ground
clear_line names k e =
    let equal : ℕ → Bool = λ j. same_name (line_at names j).bytes (line_at names k).bytes in
    let p = if_zero (not (is_name (line_at names k).bytes) || any_below k equal || leb 255 k || not (line_at names k).ended) 16 0 e in
    let q = or_false (not (is_name (line_at names k).bytes) || any_below k equal || leb 255 k) (not (line_at names k).ended) p.0 in
    let r = or_false (not (is_name (line_at names k).bytes) || any_below k equal) (leb 255 k) q.0 in
    let t = or_false (not (is_name (line_at names k).bytes)) (any_below k equal) r.0 in
    record {
      name = not-false (is_name (line_at names k).bytes) t.0;
      apart = any_false k equal t.1;
      few = leb-false 255 k r.1;
      ended = not-false (line_at names k).ended q.1;
    }

-- a list is sound just where it has lines, each without a ground
pub sound_line : (names : List ℕ) → Sound names → (k : ℕ) → k < how_many_names names → SoundLine names k
sound_line names s k l =
    record { name = s.line_name k l; apart = λ j m. s.apart j k m l; few = omega (arith, s.few); ended = s.line_ended k l }

pub lines_sound : (names : List ℕ) → 0 < how_many_names names → ((k : ℕ) → k < how_many_names names → SoundLine names k) → Sound names
lines_sound names some line =
    record {
      some = some;
      few = omega (arith, (line (how_many_names names - 1) (omega arith)).few);
      line_name = λ k l. (line k l).name;
      line_ended = λ k l. (line k l).ended;
      apart = λ j k m l. (line k l).apart j m;
    }

-- a sound list is taken
pub names_taken : (names : List ℕ) → Sound names → (o : Outcome) → names_then names o ≡ o
unfolding names_then
names_taken names s o =
    if_no (eqb (length names) 0) (refused 17 0) _ (ne_eqb (length names) 0 (no_lines names s.some))
    ∙ no_fault (how_many_names names) (line_ground names) o (λ k l. line_clear names k (sound_line names s k l))

-- a list that is taken is sound
pub names_back : (names : List ℕ) (t : ℕ) (o : Outcome) → names_then names o ≡ result t → Sound names × (o ≡ result t)
unfolding names_then
names_back names t o e =
    let p = if_result (eqb (length names) 0) 17 0 t _ e in
    let q = no_fault_back (how_many_names names) t (line_ground names) o p.1 in
    (lines_sound names (some_lines names (eqb-false (length names) 0 p.0)) (λ k l. clear_line names k (q.0 k l)), q.1)

-- ---- a list is sound exactly if it is a names list

-- the line that a name is, with byte 10 after it
abbrev line_of : List ℕ → Line
line_of n = record { bytes = n; ended = true }

-- name bytes before byte 10 are the first line
pub first_ended : (n ys : List ℕ) → all_name_bytes n ≡ true → lines_of (n ++ 10 ∷ ys) ≡ record { bytes = n; ended = true } ∷ lines_of ys
unfolding lines_of
first_ended [] ys e = refl
first_ended (b ∷ n) ys e = rw (byte_not_ten b (byte_first b n e), first_ended n ys (byte_others b n e))

lines_written : (ns : List (List ℕ)) → ((k : ℕ) → k < length ns → is_name (get_or ns k []) ≡ true) → lines_of (bytes_of_names ns) ≡ map line_of ns
unfolding lines_of bytes_of_names
lines_written [] h = refl
lines_written (n ∷ ns) h =
    first_ended n (bytes_of_names ns) (name_bytes_lem n (h 0 (omega arith)))
    ∙ ap (λ (ls : List Line). line_of n ∷ ls) (lines_written ns (λ k l. h (suc k) (omega arith)))

module _ (names : List ℕ) (w : IsNamesList names) where
  lines_are : lines_of names ≡ map line_of w.lines
  lines_are = ap lines_of (sym w.written) ∙ lines_written w.lines w.named

  -- its names are its lines in order: so it is a names list in one way
  pub list_lines : w.lines ≡ map (λ (l : Line). l.bytes) (lines_of names)
  list_lines = sym (ap (map (λ (l : Line). l.bytes)) lines_are ∙ same w.lines)
    where
      same : (ns : List (List ℕ)) → map (λ (l : Line). l.bytes) (map line_of ns) ≡ ns
      same [] = refl
      same (n ∷ ns) = ap (λ (x : List (List ℕ)). n ∷ x) (same ns)

  pub list_count : how_many_names names ≡ length w.lines
  list_count = ap length lines_are ∙ length-map w.lines line_of

  line_is : (k : ℕ) → k < length w.lines → line_at names k ≡ line_of (get_or w.lines k [])
  line_is k l = ap (λ (ls : List Line). get_or ls k no_line) lines_are ∙ get_d_map line_of w.lines k [] no_line l

  -- "Line k (from 0) names symbol k + 1."
  pub list_name : (k : ℕ) → k < length w.lines → name_of names (k + 1) ≡ get_or w.lines k []
  unfolding name_of
  list_name k l = let e : k + 1 - 1 ≡ k = omega arith in ap (λ (i : ℕ). (line_at names i).bytes) e ∙ ap (λ (x : Line). x.bytes) (line_is k l)

  -- a names list is sound
  pub list_sound : Sound names
  list_sound =
      let within : (k : ℕ) → k < how_many_names names → k < length w.lines = λ k l. rw list_count at l in
      record {
        some = rw list_count w.some;
        few = rw list_count w.few;
        line_name = λ k l. rw (line_is k (within k l)) (w.named k (within k l));
        line_ended = λ k l. rw (line_is k (within k l));
        apart = λ j k m l. rw (line_is j (omega (arith, within k l)), line_is k (within k l)) (w.apart j k m (within k l));
      }

-- lines that have byte 10 after them, written
written_lines : (names : List ℕ) → ((k : ℕ) → k < how_many_names names → (line_at names k).ended ≡ true)
    → bytes_of_names (map (λ (l : Line). l.bytes) (lines_of names)) ≡ names
unfolding lines_of bytes_of_names
written_lines [] h = refl
written_lines (b ∷ bs) h = go (eqb b 10) (eqb-true b 10) (lines_of bs) h (written_lines bs)
  where
    go : (t : Bool) → (t ≡ true → b ≡ 10) → (ls : List Line)
        → ((k : ℕ) → k < length (if t then line_of [] ∷ ls else joined b ls) → (get_or (if t then line_of [] ∷ ls else joined b ls) k no_line).ended ≡ true)
        → (((k : ℕ) → k < length ls → (get_or ls k no_line).ended ≡ true) → bytes_of_names (map (λ (l : Line). l.bytes) ls) ≡ bs)
        → bytes_of_names (map (λ (l : Line). l.bytes) (if t then line_of [] ∷ ls else joined b ls)) ≡ b ∷ bs
    go true e ls h ih = rw (e refl, ih (λ k l. h (suc k) (omega arith)))
    go false e [] h ih = absurd (not_both false (h 0 (omega arith)) refl)
    go false e (x ∷ ls) h ih = ap (λ (l : List ℕ). b ∷ l) (ih on)
      where
        on : (k : ℕ) → k < suc (length ls) → (get_or (x ∷ ls) k no_line).ended ≡ true
        on zero l = h 0 (omega arith)
        on (suc k) l = h (suc k) l

-- a sound list is a names list
pub names_list : (names : List ℕ) → Sound names → IsNamesList names
names_list names s =
    let bytes : Line → List ℕ = λ l. l.bytes in
    let count = length-map (lines_of names) bytes in
    let name : (k : ℕ) → get_or (map bytes (lines_of names)) k [] ≡ (line_at names k).bytes = λ k. ListN.get_or-map bytes (lines_of names) k no_line in
    record {
      lines = map bytes (lines_of names);
      some = rw count s.some;
      few = rw count s.few;
      named = λ k l. rw (name k) (s.line_name k (rw count at l));
      apart = λ j k m l. rw (name j, name k) (s.apart j k m (rw count at l));
      written = written_lines names s.line_ended;
    }

-- 17 is refused exactly where it is no names list
pub names_exactly : (names : List ℕ) → IsNamesList names ↔ ((o : Outcome) → names_then names o ≡ o)
names_exactly names =
    (λ w. names_taken names (list_sound names w), λ h. names_list names (names_back names 0 (result 0) (h (result 0))).0)

-- ---- symbols and names

-- the first line with the name
pub line_first : (ls : List Line) (n : List ℕ) (k : ℕ) → k < length ls → same_name (get_or ls k no_line).bytes n ≡ true
    → ((j : ℕ) → j < k → same_name (get_or ls j no_line).bytes n ≡ false) → line_with ls n ≡ k
unfolding line_with
line_first [] n k l e h = absurd (not-suc-le-zero l)
line_first (x ∷ ls) n zero l e h = rw e
line_first (x ∷ ls) n (suc k) l e h = rw (h 0 (omega arith)) (ap suc (line_first ls n k (le_of_suc-le-suc l) e (λ j m. h (suc j) (omega arith))))

-- no line has the name
pub line_none : (ls : List Line) (n : List ℕ) → ((k : ℕ) → k < length ls → same_name (get_or ls k no_line).bytes n ≡ false) → line_with ls n ≡ length ls
unfolding line_with
line_none [] n h = refl
line_none (x ∷ ls) n h = rw (h 0 (omega arith)) (ap suc (line_none ls n (λ k l. h (suc k) (omega arith))))

line_found : (ls : List Line) (n : List ℕ) → line_with ls n < length ls → same_name (get_or ls (line_with ls n) no_line).bytes n ≡ true
unfolding line_with
line_found [] n l = absurd (not-suc-le-zero l)
line_found (x ∷ ls) n l = go (same_name x.bytes n) refl l (line_found ls n)
  where
    go : (t : Bool) → same_name x.bytes n ≡ t → (if t then 0 else suc (line_with ls n)) < suc (length ls)
        → (line_with ls n < length ls → same_name (get_or ls (line_with ls n) no_line).bytes n ≡ true)
        → same_name (get_or (x ∷ ls) (if t then 0 else suc (line_with ls n)) no_line).bytes n ≡ true
    go true e m ih = e
    go false e m ih = ih (le_of_suc-le-suc m)

-- a name that is equal to a line's is listed, and has that line's symbol
pub listed_line : (names : List ℕ) → Sound names → (n : List ℕ) (k : ℕ) → k < how_many_names names → same_name (line_at names k).bytes n ≡ true
    → (symbol_of names n ≡ suc k) × (is_listed names n ≡ true)
unfolding symbol_of is_listed
listed_line names h n k l e =
    let other : (j : ℕ) → j < k → same_name (line_at names j).bytes n ≡ false =
    λ j i. sym (same_both (line_at names k).bytes n (line_at names j).bytes e) ∙ h.apart j k i l in
    let f = line_first (lines_of names) n k l e other in
    (ap suc f, lt-ltb (line_with (lines_of names) n) (how_many_names names) (omega (arith, f)))

-- a symbol's name is listed, and has that symbol
pub symbol_of_name : (names : List ℕ) → Sound names → (s : ℕ) → 1 ≤ s → s ≤ how_many_names names
    → (symbol_of names (name_of names s) ≡ s) × (is_listed names (name_of names s) ≡ true)
unfolding name_of
symbol_of_name names h s l m =
    let p = listed_line names h (line_at names (s - 1)).bytes (s - 1) (omega arith) (same_refl (line_at names (s - 1)).bytes) in
    (omega (arith, p.0), p.1)

-- one line at most is equal to a name
pub one_line : (names : List ℕ) → Sound names → (n : List ℕ) (j k : ℕ) → j < how_many_names names → k < how_many_names names
    → same_name (line_at names j).bytes n ≡ true → same_name (line_at names k).bytes n ≡ true → j ≡ k
one_line names s n j k l m e f = one_place j k (λ d. apart j k d m e f) (λ d. apart k j d l f e)
  where
    apart : (i h : ℕ) → i < h → h < how_many_names names → same_name (line_at names i).bytes n ≡ true → same_name (line_at names h).bytes n ≡ true → ⊥
    apart i h d m e f =
        not_both (same_name (line_at names i).bytes (line_at names h).bytes) (same_trans _ n _ e (same_sym (line_at names h).bytes n f)) (s.apart i h d m)

-- either spelling of a name has the same line, the same symbol, and is listed or not
line_alike : (ls : List Line) (a b : List ℕ) → same_name a b ≡ true → line_with ls a ≡ line_with ls b
unfolding line_with
line_alike [] a b e = refl
line_alike (x ∷ ls) a b e = rw (same_both a b x.bytes e, line_alike ls a b e)

pub symbol_alike : (names a b : List ℕ) → same_name a b ≡ true → symbol_of names a ≡ symbol_of names b
unfolding symbol_of
symbol_alike names a b e = ap suc (line_alike (lines_of names) a b e)

pub listed_alike : (names a b : List ℕ) → same_name a b ≡ true → is_listed names a ≡ is_listed names b
unfolding is_listed
listed_alike names a b e = ap (λ (k : ℕ). ltb k (how_many_names names)) (line_alike (lines_of names) a b e)

-- a listed name has a symbol, whose name is equal to it
pub name_of_symbol : (names n : List ℕ) → is_listed names n ≡ true
    → (same_name (name_of names (symbol_of names n)) n ≡ true) × (1 ≤ symbol_of names n) × (symbol_of names n ≤ how_many_names names)
unfolding symbol_of name_of is_listed
name_of_symbol names n e =
    let l : line_with (lines_of names) n < how_many_names names = ltb-true (line_with (lines_of names) n) (how_many_names names) e in
    let k : suc (line_with (lines_of names) n) - 1 ≡ line_with (lines_of names) n = omega arith in
    (ap (λ (i : ℕ). same_name (line_at names i).bytes n) k ∙ line_found (lines_of names) n l, omega arith, omega arith)

-- the name of a symbol is one
pub name_is : (names : List ℕ) → Sound names → (s : ℕ) → 1 ≤ s → s ≤ how_many_names names → is_name (name_of names s) ≡ true
unfolding name_of
name_is names h s l m = h.line_name (s - 1) (omega arith)
