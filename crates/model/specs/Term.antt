-- Terms: their grammar, the text of a term, and where a text stops being one. Assumes nothing: these are definitions.
use Rattle.std.specs.Prelude.{ℕ, zero, suc, ◌≡◌, Bool, true, false, ◌&&◌, not, List, [], ◌∷◌, ◌++◌, get_or, drop, eqb, ltb, if◌then◌else◌}
use Rattle.model.specs.Answers.{Outcome, refused}
use Rattle.model.specs.Table.{same_list}
use Rattle.model.specs.Names.{is_letter, is_name_byte, is_name}

-- terms from left to right: none, or a first term (its name and the terms in its brackets) and the terms to its right
pub data Terms : Type 0 where
  none : Terms
  term : (name : List ℕ) (inner right : Terms) → Terms

pub record Term : Type 0 where
  pub name : List ℕ
  pub inner : Terms

-- the term alone
abbrev pub alone : Term → Terms
alone t = term t.name t.inner none

-- "followed by `(`, one or more terms with `,` between them, and `)`": nothing where there are none. "It holds no blanks, and `a()` is not
-- a term."
abbrev pub in_brackets : Terms → List ℕ → List ℕ
in_brackets none text = []
in_brackets (term n inner right) text = 40 ∷ text ++ 41 ∷ []

-- "with `,` between them": nothing where no term follows
abbrev pub after_comma : Terms → List ℕ → List ℕ
after_comma none text = []
after_comma (term n inner right) text = 44 ∷ text

-- "A term is a name, or a name followed by `(`, one or more terms with `,` between them, and `)`."
unfoldable pub text_of_terms : Terms → List ℕ
text_of_terms none = []
text_of_terms (term n inner right) = n ++ in_brackets inner (text_of_terms inner) ++ after_comma right (text_of_terms right)

unfoldable pub text_of : Term → List ℕ
text_of t = text_of_terms (alone t)

-- every name in the terms is one
unfoldable pub AllNames : Terms → Type 0
AllNames none = Unit
AllNames (term n inner right) = (is_name n ≡ true) × AllNames inner × AllNames right

-- the text is a term (once more, by texts alone: the law `term_sentence`)
pub record IsTerm (text : List ℕ) : Type 0 where
  pub is : Term
  pub names : AllNames (alone is)
  pub written : text_of is ≡ text

-- Reading a text byte by byte. `depth` brackets are open, and: a name is due; `bytes` bytes of a name are read; a bracket has just been closed
pub data ScanState : Type 0 where
  due : (depth : ℕ) → ScanState
  in_name : (depth bytes : ℕ) → ScanState
  closed : (depth : ℕ) → ScanState

pub data ScanStep : Type 0 where
  goes_on : ScanState → ScanStep
  stops : ScanStep

-- after a whole term: `,` or `)` where a bracket is open
abbrev pub after_term : (depth b : ℕ) → ScanStep
after_term zero b = stops
after_term (suc depth) b = if eqb b 44 then goes_on (due (suc depth)) else if eqb b 41 then goes_on (closed depth) else stops

unfoldable pub step : ScanState → ℕ → ScanStep
step (due depth) b = if is_letter b then goes_on (in_name depth 1) else stops
step (in_name depth bytes) b =
    if is_name_byte b then (if ltb bytes 24 then goes_on (in_name depth (suc bytes)) else stops) else
    if eqb b 40 then goes_on (due (suc depth)) else after_term depth b
step (closed depth) b = after_term depth b

-- the text may end here
abbrev pub may_end : ScanState → Bool
may_end (due depth) = false
may_end (in_name depth bytes) = eqb depth 0
may_end (closed depth) = eqb depth 0

-- the text passes for a term, or it stops being one at a place
pub data Scan : Type 0 where
  passes : Scan
  breaks_at : (place : ℕ) → Scan

abbrev pub onward : (ScanState → Scan) → ScanStep → ℕ → Scan
onward rest (goes_on r) place = rest r
onward rest stops place = breaks_at place

unfoldable pub scan : ScanState → (place : ℕ) → List ℕ → Scan
scan r place [] = if may_end r then passes else breaks_at place
scan r place (b ∷ bs) = onward (λ next. scan next (suc place) bs) (step r b) place

abbrev pub break_then : Scan → Outcome → Outcome
break_then passes otherwise = otherwise
break_then (breaks_at place) otherwise = refused 19 place

-- "A text that is no term is 19, the place being the first byte with which no term can go on, or the text's length if it ends too soon" (the
-- laws `scan_whole` and `scan_place` say that this is so); where it is a term, what follows
unfoldable pub term_then : List ℕ → Outcome → Outcome
term_then text otherwise = break_then (scan (due 0) 0 text) otherwise

-- the longest run of name bytes at the front
unfoldable pub run : List ℕ → List ℕ
run [] = []
run (b ∷ bs) = if is_name_byte b then b ∷ run bs else []

-- in a term, a name begins where a name byte does not follow another one, and is the run from there
unfoldable pub name_begins : List ℕ → ℕ → Bool
name_begins text zero = is_name_byte (get_or text 0 0)
name_begins text (suc i) = is_name_byte (get_or text (suc i) 0) && not (is_name_byte (get_or text i 0))

abbrev pub name_at : List ℕ → ℕ → List ℕ
name_at text i = run (drop i text)

-- Reading the term of a text. The bytes are taken from the last. What is seen: the name being read with the terms in its brackets, the
-- terms to its right, and for each bracket that is open the terms to the right of it
pub record Seen : Type 0 where
  pub name : List ℕ
  pub inner : Terms
  pub right : Terms
  pub outside : List Terms

abbrev pub nearest : List Terms → Terms
nearest [] = none
nearest (f ∷ fs) = f

abbrev pub others : List Terms → List Terms
others [] = []
others (f ∷ fs) = fs

-- a name byte, `)`, `(`, and `,`: a term has no other byte
unfoldable pub before : ℕ → Seen → Seen
before b s =
    if is_name_byte b then record { name = b ∷ s.name; inner = s.inner; right = s.right; outside = s.outside } else
    if eqb b 41 then record { name = []; inner = none; right = none; outside = s.right ∷ s.outside } else
    if eqb b 40 then record { name = []; inner = term s.name s.inner s.right; right = nearest s.outside; outside = others s.outside } else
    record { name = []; inner = none; right = term s.name s.inner s.right; outside = s.outside }

unfoldable pub seen_from : List ℕ → Seen
seen_from [] = record { name = []; inner = none; right = none; outside = [] }
seen_from (b ∷ bs) = before b (seen_from bs)

abbrev pub seen_term : Seen → Term
seen_term s = record { name = s.name; inner = s.inner }

-- the term whose text this is: a term's text is read as the term (the law `term_of`); where what is seen has another text, no name and
-- no terms
unfoldable pub term_from : List ℕ → Term
term_from text =
    let t = seen_term (seen_from text) in
    if same_list (text_of t) text then t else record { name = []; inner = none }
