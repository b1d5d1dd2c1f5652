-- Terms read and written, checked by computation against "The operations and what they turn away": answers, lists, the order of the
-- refusals, and limits from both sides; 21 at its real size by the laws. Texts stand as texts, so that no byte's number is taken on trust.
use Rattle.std.specs.Prelude.{if◌then◌else◌}
use Prim.Native.Nat.{ℕ, zero, suc, ◌+◌, ◌*◌, ◌/◌, ◌%◌}
use mathlib.Core.Path.{◌≡◌, refl, ap, sym, ◌∙◌}
use mathlib.Core.Bool.{Bool, false, ◌&&◌, not}
use mathlib.Core.List.{List, [], ◌∷◌, ◌++◌, append-nil, map}
use native.Mathlib.Omega.{arith}
use lib.ListN.{length, get_or, replicate, length-append}
use lib.Dec.{eqb}
use Rattle.model.specs.Answers.{Outcome, result, refused}
use Rattle.model.specs.Choice.{refuse_on, first_faulty, any_below}
use Rattle.model.specs.Text.{ascii}
use Rattle.model.specs.Table.{same_by}
use Rattle.model.specs.Tree.{serial_forest, serial}
use Rattle.model.specs.Names.{IsNamesList, is_letter, is_name_byte, all_name_bytes, is_name, lower, alike, lines_of, name_of, line_with, symbol_of, is_listed, line_ground, names_then}
use Rattle.model.specs.Entries.{open_after, entry_ground, ends_too_soon, form_then, tree_then, levels_of, tree_from}
use Rattle.model.specs.Term.{Terms, none, term, Term, alone, AllNames, IsTerm, text_of_terms, text_of, step, scan, term_then, run, name_begins, before, seen_from, term_from}
use Rattle.model.specs.TermOperations.{symbols_of, names_of, tree_of_term, AllListed, entries_of, bytes_of, name_ground, read_term_within, read_term_outcome, symbol_ground, write_term_outcome, read_term_list, write_term_list}
use Rattle.model.specs.Spelling.{spelt, respelt_from, respelt}
use Rattle.model.specs.Inverse.{Readable}
use Rattle.model.specs.TermRefusals.{read21}
use Rattle.model.proofs.Scan.{term_of}
use Rattle.model.proofs.Names.{names_list, names_back}
use Rattle.model.proofs.Inverse.{read_exactly}
use Rattle.model.proofs.TermRefusals.{read_refuses}

-- ---- the bytes of names

-- of the bytes below n, in order, those with the property
unfoldable pub bytes_with : (ℕ → Bool) → ℕ → List ℕ
bytes_with p zero = []
bytes_with p (suc n) = bytes_with p n ++ (if p n then n ∷ [] else [])

letters : List ℕ
letters = ascii "ABCDEFGHIJKLMNOPQRSTUVWXYZabcdefghijklmnopqrstuvwxyz"

name_bytes : List ℕ
name_bytes = ascii "-0123456789ABCDEFGHIJKLMNOPQRSTUVWXYZ_abcdefghijklmnopqrstuvwxyz"

-- "an ASCII letter"
letter_bytes : bytes_with is_letter 256 ≡ letters
unfolding ascii letters bytes_with is_letter
letter_bytes = refl

-- "letters, digits, `-` or `_`"
name_bytes_lem : bytes_with is_name_byte 256 ≡ name_bytes
unfolding ascii name_bytes bytes_with is_letter is_name_byte
name_bytes_lem = refl

-- ---- the bytes that are alike

-- of the pairs of a with a byte below n, those that are alike and not the same, one after another
unfoldable pairs_with : (a n : ℕ) → List ℕ
pairs_with a zero = []
pairs_with a (suc n) = pairs_with a n ++ (if alike a n && not (eqb a n) then a ∷ n ∷ [] else [])

-- the same for each a below n
unfoldable pairs : ℕ → List ℕ
pairs zero = []
pairs (suc n) = pairs n ++ pairs_with n 256

-- "differ only in the case of ASCII letters": of all 256 times 256 pairs (each byte is alike to itself: the law `alike_refl`)
alike_pairs : pairs 256 ≡ ascii "AaBbCcDdEeFfGgHhIiJjKkLlMmNnOoPpQqRrSsTtUuVvWwXxYyZzaAbBcCdDeEfFgGhHiIjJkKlLmMnNoOpPqQrRsStTuUvVwWxXyYzZ"
unfolding ascii pairs pairs_with lower alike
alike_pairs = refl

-- ---- where bytes may stand

-- the outcome is a refusal at the place
abbrev refused_at : ℕ → Outcome → Bool
refused_at place (result n) = false
refused_at place (refused number p) = eqb p place

-- the bytes that may stand in a names list between the texts: with any other the first line is faulty
unfoldable named : (before after : List ℕ) → List ℕ
named before after = bytes_with (λ b. not (refused_at 0 (names_then (before ++ b ∷ after) (result 0)))) 256

-- the bytes with which a term can go on after a text
unfoldable goes_on : List ℕ → List ℕ
goes_on text = bytes_with (λ b. not (refused_at (length text) (term_then (text ++ b ∷ []) (result 0)))) 256

-- a name of 24 bytes
long : List ℕ
long = ascii "abcdefghijklmnopqrstu_-9"

-- "an ASCII letter, then letters, digits, `-` or `_`"; "1 to 24 bytes"
name_places : (named [] (ascii "\n") ≡ letters) × (named [] (ascii "a\n") ≡ letters)
    × (named (ascii "a") (ascii "\n") ≡ ascii "\n" ++ name_bytes) × (named (ascii "a") (ascii "b\n") ≡ ascii "\n" ++ name_bytes)
    × (named long (ascii "\n") ≡ ascii "\n")
unfolding ascii letters name_bytes long bytes_with named refuse_on first_faulty any_below same_by is_letter is_name_byte all_name_bytes is_name lower alike lines_of line_ground names_then
name_places = (refl, refl, refl, refl, refl)

-- "A term is a name, or a name followed by `(`, one or more terms with `,` between them, and `)`. It holds no blanks": where a name is due; in
-- a name, with brackets open or not; where a name has 24 bytes; and after `)`
term_places : (goes_on [] ≡ letters) × (goes_on (ascii "a(") ≡ letters) × (goes_on (ascii "a(a,") ≡ letters)
    × (goes_on (ascii "a") ≡ ascii "(" ++ name_bytes) × (goes_on (ascii "a(a") ≡ ascii "()," ++ name_bytes)
    × (goes_on long ≡ ascii "(") × (goes_on (ascii "a(" ++ long) ≡ ascii "(),")
    × (goes_on (ascii "a(a)") ≡ []) × (goes_on (ascii "a(a(a)") ≡ ascii "),")
unfolding ascii letters name_bytes long bytes_with goes_on is_letter is_name_byte step scan term_then
term_places = (refl, refl, refl, refl, refl, refl, refl, refl, refl)

-- ---- answers and lists

-- a term read, or a tree written, into a lent list; the answer due, and what the lent list is then to hold
data Example : Type 0 where
  reads : (names text tree : List ℕ) (answer : Outcome) (after : List ℕ) → Example
  writes : (names tree text : List ℕ) (answer : Outcome) (after : List ℕ) → Example

abbrev given : Example → Outcome × List ℕ
given (reads names text tree answer after) = (read_term_outcome names text (length tree), read_term_list names text tree)
given (writes names tree text answer after) = (write_term_outcome names tree (length text), write_term_list names tree text)

abbrev due : Example → Outcome × List ℕ
due (reads names text tree answer after) = (answer, after)
due (writes names tree text answer after) = (answer, after)

-- the names `a` and `b`, each followed by byte 10
unfoldable pub ab : List ℕ
ab = ascii "a\nb\n"

-- two entries or bytes that stay
two : List ℕ
two = 7 ∷ 7 ∷ []

-- the names `Probe` and `b-X_9`
probe : List ℕ
probe = ascii "Probe\nb-X_9\n"

examples : List Example
examples =
    -- lists longer than needed, as long, and shorter; an empty one
    reads ab (ascii "a(a,a)") (replicate 7 7) (result 6) (1 ∷ 1 ∷ 0 ∷ 1 ∷ 0 ∷ 0 ∷ 7 ∷ [])
    ∷ reads ab (ascii "b(b(a),a)") (replicate 8 7) (result 8) (2 ∷ 2 ∷ 1 ∷ 0 ∷ 0 ∷ 1 ∷ 0 ∷ 0 ∷ [])
    ∷ reads ab (ascii "a(a,a)") (replicate 5 7) (refused 22 6) (replicate 5 7)
    ∷ reads ab (ascii "b") two (result 2) (2 ∷ 0 ∷ [])
    ∷ reads ab (ascii "b") [] (refused 22 2) []
    ∷ writes ab (1 ∷ 1 ∷ 0 ∷ 2 ∷ 0 ∷ 0 ∷ []) (replicate 7 7) (result 6) (ascii "a(a,b)" ++ 7 ∷ [])
    ∷ writes ab (2 ∷ 2 ∷ 1 ∷ 0 ∷ 0 ∷ 1 ∷ 0 ∷ 0 ∷ []) (replicate 9 7) (result 9) (ascii "b(b(a),a)")
    ∷ writes ab (1 ∷ 1 ∷ 0 ∷ 2 ∷ 0 ∷ 0 ∷ []) (replicate 5 7) (refused 24 6) (replicate 5 7)
    ∷ writes ab (1 ∷ 0 ∷ []) [] (refused 24 1) []
    ∷ writes ab (2 ∷ 2 ∷ 1 ∷ 0 ∷ 0 ∷ 1 ∷ 0 ∷ 0 ∷ []) two (refused 24 9) two
    -- a name that begins another one
    ∷ reads (ascii "a\nA1\naB_9-\naB\n") (ascii "A1(aB,aB_9-)") (replicate 6 7) (result 6) (2 ∷ 4 ∷ 0 ∷ 3 ∷ 0 ∷ 0 ∷ [])
    ∷ writes (ascii "a\nA1\naB_9-\naB\n") (2 ∷ 4 ∷ 0 ∷ 3 ∷ 0 ∷ 0 ∷ []) (replicate 12 7) (result 12) (ascii "A1(aB,aB_9-)")
    -- either spelling is read, in lists of either; what is written is in the list's
    ∷ reads probe (ascii "pROBE(B-x_9,Probe)") (replicate 7 7) (result 6) (1 ∷ 2 ∷ 0 ∷ 1 ∷ 0 ∷ 0 ∷ 7 ∷ [])
    ∷ reads (ascii "probe\nB-X_9\n") (ascii "pROBE(B-x_9,Probe)") (replicate 7 7) (result 6) (1 ∷ 2 ∷ 0 ∷ 1 ∷ 0 ∷ 0 ∷ 7 ∷ [])
    ∷ writes probe (1 ∷ 2 ∷ 0 ∷ 1 ∷ 0 ∷ 0 ∷ []) (replicate 19 7) (result 18) (ascii "Probe(b-X_9,Probe)" ++ 7 ∷ [])
    ∷ reads ab (ascii "B(A,cc(dD),C)") two (refused 20 4) two
    ∷ reads ab (ascii "B(A,B") two (refused 19 5) two
    -- but no other byte for another: `-` and `_`, `p` and `0`, `m` and `-`; `[` and `{`, `@` and `` ` `` stand in no name
    ∷ reads (ascii "a-\na_\n") (ascii "A_") two (result 2) (2 ∷ 0 ∷ [])
    ∷ reads (ascii "a-\n") (ascii "A_") two (refused 20 0) two
    ∷ reads (ascii "a0\n") (ascii "AP") two (refused 20 0) two
    ∷ reads (ascii "am\n") (ascii "A-") two (refused 20 0) two
    ∷ reads ab (ascii "A[") two (refused 19 1) two
    ∷ reads ab (ascii "A{") two (refused 19 1) two
    ∷ reads ab (ascii "@") two (refused 19 0) two
    -- 19: the text ends too soon; a byte with which no term can go on
    ∷ reads ab [] two (refused 19 0) two
    ∷ reads ab (ascii "a(") two (refused 19 2) two
    ∷ reads ab (ascii "a(b") two (refused 19 3) two
    ∷ reads ab (ascii "a()") two (refused 19 2) two
    ∷ reads ab (ascii "a(,b)") two (refused 19 2) two
    ∷ reads ab (ascii "a(b,)") two (refused 19 4) two
    ∷ reads ab (ascii "(a)") two (refused 19 0) two
    ∷ reads ab (ascii "a,b") two (refused 19 1) two
    ∷ reads ab (ascii "a)b") two (refused 19 1) two
    ∷ reads ab (ascii "a(b)(b)") two (refused 19 4) two
    ∷ reads ab (ascii "a a") two (refused 19 1) two
    ∷ reads ab (ascii " a") two (refused 19 0) two
    ∷ reads ab (ascii "a(b, b)") two (refused 19 4) two
    ∷ reads ab (ascii "a\n") two (refused 19 1) two
    ∷ reads ab (ascii "1a") two (refused 19 0) two
    ∷ reads ab (ascii "-a") two (refused 19 0) two
    ∷ reads ab (ascii "_a") two (refused 19 0) two
    ∷ reads ab (ascii "a\0") two (refused 19 1) two
    -- 20: the earliest name that is not listed
    ∷ reads ab (ascii "c") two (refused 20 0) two
    ∷ reads ab (ascii "b(a,cc(dd),c)") two (refused 20 4) two
    -- 13 and 23
    ∷ writes ab [] two (refused 13 0) two
    ∷ writes ab (0 ∷ []) two (refused 13 0) two
    ∷ writes ab (1 ∷ 0 ∷ 0 ∷ []) two (refused 13 2) two
    ∷ writes ab (1 ∷ 2 ∷ 0 ∷ []) two (refused 13 3) two
    ∷ writes ab (256 ∷ []) two (refused 13 0) two
    ∷ writes ab (1 ∷ 2 ∷ 0 ∷ 3 ∷ 0 ∷ 4 ∷ 0 ∷ 0 ∷ []) two (refused 23 3) two
    -- 17: none; byte 10 alone; no letter first; an empty line; a last line without byte 10; of equal names the later; the first faulty line
    ∷ reads [] (ascii "a") two (refused 17 0) two
    ∷ reads (ascii "\n") (ascii "a") two (refused 17 0) two
    ∷ reads (ascii "-\na\n") (ascii "a") two (refused 17 0) two
    ∷ reads (ascii "_a\na\n") (ascii "a") two (refused 17 0) two
    ∷ reads (ascii "1a\na\n") (ascii "a") two (refused 17 0) two
    ∷ reads (ascii "a\nb\r\n") (ascii "a") two (refused 17 1) two
    ∷ reads (ascii "a") (ascii "a") two (refused 17 0) two
    ∷ reads (ascii "\na\n") (ascii "a") two (refused 17 0) two
    ∷ writes (ascii "a\n\n") (1 ∷ 0 ∷ []) two (refused 17 1) two
    ∷ writes (ascii "a\nb") (1 ∷ 0 ∷ []) two (refused 17 1) two
    ∷ reads (ascii "a\nb\na\n") (ascii "a") two (refused 17 2) two
    ∷ reads (ascii "a\na\n1\n") (ascii "a") two (refused 17 1) two
    ∷ reads (ascii "f\nb\nF\n") (ascii "b") two (refused 17 2) two
    ∷ writes (ascii "pROBE\nProbe\n") (1 ∷ 0 ∷ []) two (refused 17 1) two
    ∷ reads (long ++ ascii "\nABCDEFGHIJKLMNOPQRSTU_-9\n") (ascii "a") two (refused 17 1) two
    -- names of 24 bytes, and of 25
    ∷ reads (ascii "a\n" ++ long ++ ascii "\n") long two (result 2) (2 ∷ 0 ∷ [])
    ∷ reads (ascii "a\n" ++ long ++ ascii "\n") (ascii "ABCDEFGHIJKLMNOPQRSTU_-9") two (result 2) (2 ∷ 0 ∷ [])
    ∷ reads (ascii "a\n" ++ long ++ ascii "x\n") (ascii "a") two (refused 17 1) two
    ∷ reads ab (long ++ ascii "x") two (refused 19 24) two
    -- the order of the refusals: two grounds hold, the earlier one decides
    ∷ reads [] (ascii "a(") [] (refused 17 0) []
    ∷ reads ab (ascii "c(") [] (refused 19 2) []
    ∷ reads ab (ascii "c") [] (refused 20 0) []
    ∷ writes [] (0 ∷ []) [] (refused 17 0) []
    ∷ writes ab (3 ∷ 0 ∷ 0 ∷ []) [] (refused 13 2) []
    ∷ writes ab (3 ∷ 0 ∷ []) [] (refused 23 0) []
    ∷ []

term_examples : map given examples ≡ map due examples
unfolding examples ascii ab two probe long refuse_on first_faulty any_below same_by serial_forest serial is_letter is_name_byte all_name_bytes is_name lower alike lines_of name_of line_with symbol_of is_listed line_ground names_then open_after entry_ground ends_too_soon form_then tree_then levels_of tree_from text_of_terms text_of step scan term_then run name_begins before seen_from term_from symbols_of names_of entries_of bytes_of name_ground read_term_outcome symbol_ground write_term_outcome read_term_list write_term_list
term_examples = refl

-- the text in the list's spelling: each name, and no other byte; a name not listed stays, and so does what begins in one
respelt_examples : map (respelt probe) (ascii "pROBE(B-x_9,Probe)" ∷ ascii "b-X_9(Probe)" ∷ ascii "c(PROBE),[B-X_9" ∷ ascii "PROBEs(b-x_)" ∷ ascii "" ∷ [])
    ≡ ascii "Probe(b-X_9,Probe)" ∷ ascii "b-X_9(Probe)" ∷ ascii "c(Probe),[b-X_9" ∷ ascii "PROBEs(b-x_)" ∷ ascii "" ∷ []
unfolding ascii probe same_by is_letter is_name_byte lower alike lines_of name_of line_with symbol_of is_listed run spelt respelt_from
respelt_examples = refl

-- ---- limits from both sides, with a later ground that holds too

-- a text n times
unfoldable pub times : ℕ → List ℕ → List ℕ
times zero text = []
times (suc n) text = text ++ times n text

-- n names of two letters
unfoldable many_names : ℕ → List ℕ
many_names zero = []
many_names (suc n) = many_names n ++ small (n / 26) ∷ small (n % 26) ∷ ascii "\n"
  where
    small : ℕ → ℕ
    small k = get_or (ascii "abcdefghijklmnopqrstuvwxyz") k 0

limits : List Example
limits =
    -- a text of 65,537 bytes, and of 65,536
    reads [] (times 65537 (ascii "a")) two (refused 17 0) two
    ∷ reads ab (times 65537 (ascii "a")) two (refused 18 0) two
    ∷ reads ab (times 65536 (ascii "a")) two (refused 19 24) two
    -- a list of 4,097 entries, and of 4,096
    ∷ writes [] (replicate 4097 0) two (refused 17 0) two
    ∷ writes ab (replicate 4097 0) two (refused 12 0) two
    ∷ writes ab (replicate 4096 0) two (refused 13 0) two
    -- 255 names, and 256
    ∷ reads (many_names 255) (ascii "ju") two (result 2) (255 ∷ 0 ∷ [])
    ∷ reads (many_names 256) (ascii "ju") two (refused 17 255) two
    ∷ []

limit_examples : map given limits ≡ map due limits
unfolding limits times many_names ascii ab two refuse_on first_faulty any_below same_by serial_forest serial is_letter is_name_byte all_name_bytes is_name lower alike lines_of line_with symbol_of is_listed line_ground names_then open_after entry_ground form_then tree_then text_of_terms text_of step scan term_then run name_begins before seen_from term_from symbols_of entries_of name_ground read_term_outcome write_term_outcome read_term_list write_term_list
limit_examples = refl

-- 21: a term of 9 bytes whose tree has 8 entries, with a limit for the entries. `read_term_outcome` is the use at 4,096, where the shortest text
-- that is refused has 4,098 bytes, too many to compute with (below: `tree_4096` and `tree_4098`)
abbrev within : (limit room : ℕ) → List ℕ → Outcome
within limit room text = read_term_within limit ab text room

entry_limit :
    -- the limit is met; it is passed
    (within 8 8 (ascii "b(b(a),a)") ≡ result 8) × (within 7 8 (ascii "b(b(a),a)") ≡ refused 21 0) × (within 2 8 (ascii "b(b(a),a)") ≡ refused 21 0)
    -- 21 comes before 22, and after 20
    × (within 8 7 (ascii "b(b(a),a)") ≡ refused 22 8) × (within 7 7 (ascii "b(b(a),a)") ≡ refused 21 0) × (within 7 7 (ascii "b(b(a),c)") ≡ refused 20 7)
unfolding ascii ab refuse_on first_faulty any_below same_by serial_forest serial is_letter is_name_byte all_name_bytes is_name lower alike lines_of line_with symbol_of is_listed line_ground names_then text_of_terms text_of step scan term_then run name_begins before seen_from term_from symbols_of entries_of name_ground
entry_limit = (refl, refl, refl, refl, refl, refl)

-- ---- 21 at its real size, by the laws: a name with n + 1 leaves in its brackets, `a(a,..,a)`

unfoldable pub leaves : ℕ → Terms
leaves zero = none
leaves (suc n) = term (ascii "a") none (leaves n)

abbrev pub wide : ℕ → Term
wide n = record { name = ascii "a"; inner = leaves (suc n) }

-- its text, and how long that is
leaves_text : (n : ℕ) → text_of_terms (leaves (suc n)) ≡ times n (ascii "a,") ++ ascii "a"
unfolding ascii leaves times text_of_terms
leaves_text zero = refl
leaves_text (suc n) = ap (λ (x : List ℕ). ascii "a," ++ x) (leaves_text n)

wide_text : (n : ℕ) → text_of (wide n) ≡ ascii "a(" ++ (times n (ascii "a,") ++ ascii "a" ++ ascii ")")
unfolding ascii leaves text_of text_of_terms
wide_text n = append-nil _ ∙ ap (λ (x : List ℕ). ascii "a(" ++ (x ++ ascii ")")) (leaves_text n)

times_length : (n : ℕ) → length (times n (ascii "a,")) ≡ n * 2
unfolding ascii times
times_length zero = refl
times_length (suc n) = omega (arith, times_length n)

wide_length : (n : ℕ) → length (text_of (wide n)) ≡ n * 2 + 4
unfolding ascii
wide_length n =
    ap length (wide_text n)
    ∙ omega (
      arith,
      times_length n,
      length-append (times n (ascii "a,")) (ascii "a"),
      length-append (times n (ascii "a,") ++ ascii "a") (ascii ")"),
    )

-- its names are names, and listed
leaves_names : (n : ℕ) → AllNames (leaves n)
unfolding ascii leaves AllNames is_name all_name_bytes is_letter
leaves_names zero = tt
leaves_names (suc n) = (refl, tt, leaves_names n)

leaves_listed : (n : ℕ) → AllListed ab (leaves n)
unfolding ascii ab leaves AllListed is_listed lines_of line_with lower alike same_by
leaves_listed zero = tt
leaves_listed (suc n) = (refl, tt, leaves_listed n)

wide_names : (n : ℕ) → AllNames (alone (wide n))
unfolding ascii AllNames is_name all_name_bytes is_letter
wide_names n = (refl, leaves_names (suc n), tt)

wide_listed : (n : ℕ) → AllListed ab (alone (wide n))
unfolding ascii ab AllListed is_listed lines_of line_with lower alike same_by
wide_listed n = (refl, leaves_listed (suc n), tt)

wide_term : (n : ℕ) → IsTerm (text_of (wide n))
wide_term n = record { is = wide n; names = wide_names n; written = refl }

-- its entries
leaves_entries : (n : ℕ) → length (serial_forest (symbols_of ab (leaves n))) ≡ n * 2
unfolding leaves serial_forest symbols_of
leaves_entries zero = refl
leaves_entries (suc n) = omega (arith, leaves_entries n)

wide_entries : (n : ℕ) → length (entries_of ab (text_of (wide n))) ≡ n * 2 + 4
unfolding entries_of serial serial_forest symbols_of
wide_entries n =
    ap (λ (t : Term). length (serial (tree_of_term ab t))) (term_of (wide n) (wide_names n))
    ∙ omega (arith, leaves_entries (suc n), length-append (serial_forest (symbols_of ab (leaves (suc n)))) (0 ∷ []))

ab_list : IsNamesList ab
unfolding ascii ab refuse_on first_faulty any_below same_by is_letter is_name_byte all_name_bytes is_name lower alike lines_of line_ground names_then
ab_list = names_list ab (names_back ab 0 (result 0) refl).0

-- 2,048 names, so 4,096 entries, are taken; 2,049 are 21 at 0
tree_4096 : read_term_outcome ab (text_of (wide 2046)) 4096 ≡ result 4096
unfolding wide_term
tree_4096 =
    let e = wide_entries 2046 in
    let r : Readable ab (text_of (wide 2046)) = record {
      list = ab_list;
      short = omega (arith, wide_length 2046);
      well = wide_term 2046;
      listed = wide_listed 2046;
      few = omega (arith, e);
    } in
    (read_exactly ab (text_of (wide 2046)) 4096 4096).1 (r, sym e, omega arith)

pub tree_4098 : read_term_outcome ab (text_of (wide 2047)) 4096 ≡ refused 21 0
unfolding wide_term
tree_4098 =
    (read_refuses ab (text_of (wide 2047)) 4096 21 0).1
    (read21 refl refl ab_list (omega (arith, wide_length 2047)) (wide_term 2047) (wide_listed 2047) (omega (arith, wide_entries 2047)))
