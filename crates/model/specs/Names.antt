-- Names, when two are equal, names lists, and refusal 17. Assumes nothing: these are definitions.
use Rattle.std.specs.Prelude.{ℕ, suc, ◌+◌, ◌-◌, ◌≤◌, ◌<◌, ◌≡◌, Bool, true, false, ◌&&◌, ◌||◌, not, List, [], ◌∷◌, ◌++◌, length, get_or, eqb, ltb, leb, if◌then◌else◌}
use Rattle.model.specs.Answers.{Outcome, refused}
use Rattle.model.specs.Choice.{first_faulty, any_below}
use Rattle.model.specs.Table.{same_by}

-- from low to high, both taken in
abbrev pub between : (low high b : ℕ) → Bool
between low high b = leb low b && leb b high

-- "an ASCII letter": A to Z, a to z
unfoldable pub is_letter : ℕ → Bool
is_letter b = between 65 90 b || between 97 122 b

-- "letters, digits, `-` or `_`"
unfoldable pub is_name_byte : ℕ → Bool
is_name_byte b = is_letter b || between 48 57 b || eqb b 45 || eqb b 95

unfoldable pub all_name_bytes : List ℕ → Bool
all_name_bytes [] = true
all_name_bytes (b ∷ bs) = is_name_byte b && all_name_bytes bs

-- "A name is 1 to 24 bytes: an ASCII letter, then letters, digits, `-` or `_`."
unfoldable pub is_name : List ℕ → Bool
is_name [] = false
is_name (b ∷ bs) = is_letter b && all_name_bytes bs && leb (length (b ∷ bs)) 24

-- a capital letter, A to Z, as the small one; any other byte as it is
unfoldable pub lower : ℕ → ℕ
lower b = if between 65 90 b then b + 32 else b

-- the same byte, or one ASCII letter in its two cases, A and a to Z and z (no other pair of bytes: the law `alike_pairs`)
unfoldable pub alike : (a b : ℕ) → Bool
alike a b = eqb (lower a) (lower b)

-- "Two names shall be equal if they differ only in the case of ASCII letters." (request (a)): they are equally long, and alike byte by byte.
-- "equal names" below are these
abbrev pub same_name : List ℕ → List ℕ → Bool
same_name a b = same_by alike a b

-- any two lists of bytes so compared, place by place (the law `same_exactly`)
pub record EachAlike (a b : List ℕ) : Type 0 where
  pub long : length a ≡ length b
  pub at : (i : ℕ) → i < length a → alike (get_or a i 0) (get_or b i 0) ≡ true

-- names, "each followed by byte 10"
unfoldable pub bytes_of_names : List (List ℕ) → List ℕ
bytes_of_names [] = []
bytes_of_names (n ∷ ns) = n ++ 10 ∷ bytes_of_names ns

-- "A names list is bytes: 1 to 255 names, each followed by byte 10."; "No name stands twice."
pub record IsNamesList (names : List ℕ) : Type 0 where
  pub lines : List (List ℕ)
  pub some : 1 ≤ length lines
  pub few : length lines ≤ 255
  pub named : (k : ℕ) → k < length lines → is_name (get_or lines k []) ≡ true
  pub apart : (j k : ℕ) → j < k → k < length lines → same_name (get_or lines j []) (get_or lines k []) ≡ false
  pub written : bytes_of_names lines ≡ names

-- Any bytes by lines (of a names list, its names: the law `list_lines`). A line: its bytes before byte 10, and whether byte 10 follows them
pub record Line : Type 0 where
  pub bytes : List ℕ
  pub ended : Bool

-- a byte, other than 10, before the lines
abbrev pub joined : ℕ → List Line → List Line
joined b [] = record { bytes = b ∷ []; ended = false } ∷ []
joined b (l ∷ ls) = record { bytes = b ∷ l.bytes; ended = l.ended } ∷ ls

-- the lines in order; bytes after the last byte 10, where there are any, are a line too
unfoldable pub lines_of : List ℕ → List Line
lines_of [] = []
lines_of (b ∷ bs) = if eqb b 10 then record { bytes = []; ended = true } ∷ lines_of bs else joined b (lines_of bs)

abbrev pub no_line : Line
no_line = record { bytes = []; ended = false }

abbrev pub line_at : List ℕ → ℕ → Line
line_at names k = get_or (lines_of names) k no_line

abbrev pub how_many_names : List ℕ → ℕ
how_many_names names = length (lines_of names)

-- "Line k (from 0) names symbol k + 1.": the name of a symbol
unfoldable pub name_of : List ℕ → ℕ → List ℕ
name_of names s = (line_at names (s - 1)).bytes

-- the number of the first line whose name is equal; where there is none, the count of lines
unfoldable pub line_with : List Line → List ℕ → ℕ
line_with [] n = 0
line_with (l ∷ ls) n = if same_name l.bytes n then 0 else suc (line_with ls n)

-- the symbol of a name that is listed
unfoldable pub symbol_of : List ℕ → List ℕ → ℕ
symbol_of names n = suc (line_with (lines_of names) n)

unfoldable pub is_listed : List ℕ → List ℕ → Bool
is_listed names n = ltb (line_with (lines_of names) n) (how_many_names names)

-- "A name is 1 to 24 bytes"; "No name stands twice."; "of equal names the later line is faulty, and so are a 256th line and a last line
-- without byte 10"
unfoldable pub line_ground : List ℕ → ℕ → ℕ
line_ground names k =
    if not (is_name (line_at names k).bytes)
    || any_below k (λ j. same_name (line_at names j).bytes (line_at names k).bytes)
    || leb 255 k
    || not (line_at names k).ended
    then 17 else 0

-- "A names list against the rules above is 17, the place being its first faulty line, or 0 if it is empty" (what the place is: the law
-- `names_place`); where it keeps to the rules (the law `names_exactly`), what follows
unfoldable pub names_then : List ℕ → Outcome → Outcome
names_then names otherwise =
    if eqb (length names) 0 then refused 17 0 else
    first_faulty (how_many_names names) (line_ground names) otherwise
