-- The lines of a names list, taken one after another. Assumes nothing.
use Rattle.std.specs.Prelude.{if◌then◌else◌, Result, Ok, Err}
use Prim.Native.Nat.{ℕ, suc, ◌+◌, ◌-◌, ◌*◌, ◌/◌, ◌<◌, ◌≤◌}
use mathlib.Core.Path.{◌≡◌, refl, sym, ap, ap₂, ◌∙◌}
use mathlib.Core.Bool.{Bool, true, false, ◌&&◌, ◌||◌, not, and-true as and_yes, and-false, or-true}
use mathlib.Core.List.{List, [], ◌∷◌, ◌++◌, map, append_assoc, append-nil, head-eq_of_cons-eq, tail-eq_of_cons-eq}
use native.Mathlib.Omega.{arith}
use native.Mathlib.Nat.{pos_of_ne-zero}
use lib.ListN.{length, get_or, set, take, drop, length-append, length-drop, length-set, drop_of_length-le, replicate, length-replicate, get_or-replicate}
use lib.Seq.{drop-drop, drop_at, take_at, drop-cons, get_or-drop, get_or-set_same, get_or-set_other}
use lib.Dec.{eqb, ltb, leb}
use borrow.Author.Tests.{eqb-true, eqb-false, ltb-true, lt-ltb, le-ltb, ltb-false, le-leb, lt-leb, eq-eqb, ne_eqb}
use Rattle.model.specs.Answers.{Outcome, refused, refused_by}
use Rattle.model.specs.Choice.{any_below}
use Rattle.model.specs.Names.{is_letter, all_name_bytes, is_name, alike, same_name, Line, joined, lines_of, no_line, line_at, how_many_names, line_with, symbol_of, is_listed, line_ground, names_then}
use Rattle.model.proofs.Choice.{and_true, no_fault, fault_refused, none_more, any_none, any_true, is_false, not_both}
use Rattle.model.proofs.Bytes.{letter_byte, name_bytes_lem, IsName, name_parts, name_made, byte_others}
use Rattle.model.proofs.Alike.{same_folded, same_sym, same_trans}
use Rattle.model.proofs.Names.{some_lines, no_lines, line_first, line_none}
use Rattle.words.specs.Words.{is_inner}
use Rattle.chains.specs.Chains.{Clear}
use Rattle.std.specs.Prelude.{Some, None, Option}
use Rattle.std.specs.Option.{is_some}
use Rattle.chains.proofs.First.{first_none, first_is, apart}
use Rattle.chains.proofs.Chains.{chained, chains_begin}
use Rattle.model.proofs.Lists.{drop_next, same_long}
use Rattle.names.proofs.Bytes.{caseless_small, inner_first, inner_others, byte_inner, name_inner, outer_no_byte, inner_not_ten, stretch_inner, stretch_split, stretch_all, stretch_named}
use Rattle.names.specs.NamesIndex.{name_end, name_found, caseless, all_inner, stretch, OnlyListBytes, mix_words, bucket_at, hash_of, bucket_of, Stands, NamesIndexed, Started, NamesAnswer}
use Rattle.model.specs.declared.Refusal.{Refusal}

pub name_short : (n : List ℕ) → is_name n ≡ true → length n ≤ 24
name_short n e = let p = name_parts n e in omega (arith, p.short, ap length p.is)

-- ---- the first line

-- bytes from `-` to `z` alone
first_open : (n : List ℕ) → all_inner n ≡ true → (line_at n 0).ended ≡ false
unfolding lines_of
first_open [] e = refl
first_open (b ∷ n) e = rw (inner_not_ten b (inner_first b n e)) (go (lines_of n) (first_open n (inner_others b n e)))
  where
    go : (ls : List Line) → (get_or ls 0 no_line).ended ≡ false → (get_or (joined b ls) 0 no_line).ended ≡ false
    go [] h = refl
    go (l ∷ ls) h = h

-- such bytes before a byte that is none of them, and not byte 10
first_bad : (n : List ℕ) (y : ℕ) (ys : List ℕ) → all_inner n ≡ true → is_inner y ≡ false → eqb y 10 ≡ false
    → all_name_bytes (line_at (n ++ y ∷ ys) 0).bytes ≡ false
unfolding lines_of all_name_bytes
first_bad [] y ys e f g = rw g (go (lines_of ys))
  where
    go : (ls : List Line) → all_name_bytes (get_or (joined y ls) 0 no_line).bytes ≡ false
    go [] = rw (outer_no_byte y f)
    go (l ∷ ls) = rw (outer_no_byte y f)
first_bad (b ∷ n) y ys e f g = rw (inner_not_ten b (inner_first b n e)) (go (lines_of (n ++ y ∷ ys)) (first_bad n y ys (inner_others b n e) f g))
  where
    go : (ls : List Line) → all_name_bytes (get_or ls 0 no_line).bytes ≡ false → all_name_bytes (get_or (joined b ls) 0 no_line).bytes ≡ false
    go [] h = let z : ◌≡◌ {A = ℕ} 0 1 = cc in absurd (omega arith)
    go (l ∷ ls) h = rw (h, and-false)

-- such bytes before byte 10
first_inner : (n ys : List ℕ) → all_inner n ≡ true → lines_of (n ++ 10 ∷ ys) ≡ record { bytes = n; ended = true } ∷ lines_of ys
unfolding lines_of
first_inner [] ys e = refl
first_inner (b ∷ n) ys e = rw (inner_not_ten b (inner_first b n e), first_inner n ys (inner_others b n e))

-- a first line with byte 10 after it: the bytes after that, and the lines after it
record Split (xs : List ℕ) (ls : List Line) : Type 0 where
  rest : List ℕ
  is : xs ≡ (get_or ls 0 no_line).bytes ++ 10 ∷ rest
  lines : ls ≡ get_or ls 0 no_line ∷ lines_of rest

line_split : (xs : List ℕ) → (line_at xs 0).ended ≡ true → Split xs (lines_of xs)
unfolding lines_of
line_split [] e = let z : ◌≡◌ {A = ℕ} 0 1 = cc in absurd (omega arith)
line_split (b ∷ bs) e = go (eqb b 10) refl (lines_of bs) refl (line_split bs) e
  where
    go : (t : Bool) → eqb b 10 ≡ t → (ls : List Line) → lines_of bs ≡ ls → ((get_or ls 0 no_line).ended ≡ true → Split bs ls)
        → (get_or (if t then record { bytes = []; ended = true } ∷ ls else joined b ls) 0 no_line).ended ≡ true
        → Split (b ∷ bs) (if t then record { bytes = []; ended = true } ∷ ls else joined b ls)
    go true q ls f ih e = record { rest = bs; is = ap (λ (x : ℕ). x ∷ bs) (eqb-true b 10 q); lines = ap (λ (x : List Line). record { bytes = []; ended = true } ∷ x) (sym f) }
    go false q [] f ih e = let z : ◌≡◌ {A = ℕ} 0 1 = cc in absurd (omega arith)
    go false q (l ∷ ls) f ih e =
        let s = ih e in
        record {
          rest = s.rest;
          is = ap (λ (x : List ℕ). b ∷ x) s.is;
          lines = ap (λ (x : List Line). record { bytes = b ∷ l.bytes; ended = l.ended } ∷ x) (tail-eq_of_cons-eq s.lines);
        }

-- ---- the line that begins at a place

stretch_more : (l : List ℕ) (i : ℕ) → i < length l → is_inner (get_or l i 0) ≡ true → stretch (drop i l) ≡ get_or l i 0 ∷ stretch (drop (i + 1) l)
unfolding stretch
stretch_more l i lt e = rw (drop_next l i lt, e)

-- where the stretch ends
module _ (names : List ℕ) (at end : ℕ) (l : end ≡ at + length (stretch (drop at names))) where
  rest_is : drop at names ≡ stretch (drop at names) ++ drop end names
  rest_is = (stretch_split (drop at names)).0 ∙ ap (λ (x : List ℕ). stretch (drop at names) ++ x) (drop-drop (length (stretch (drop at names))) at names ∙ ap (λ (i : ℕ). drop i names) (sym l))

  end_byte : is_inner (get_or names end 0) ≡ false
  end_byte = ap (λ (i : ℕ). is_inner (get_or names i 0)) l ∙ sym (ap (λ (x : ℕ). is_inner x) (get_or-drop at names (length (stretch (drop at names))) 0)) ∙ (stretch_split (drop at names)).1

  -- at the list's end
  end_open : end ≡ length names → None ≡ name_end names at
  unfolding name_end
  end_open e =
      let r : drop at names ≡ stretch (drop at names) = rest_is ∙ ap (λ (x : List ℕ). stretch (drop at names) ++ x) (drop_of_length-le names {i = end} (omega arith)) ∙ append-nil (stretch (drop at names)) in
      let f : (line_at (drop at names) 0).ended ≡ false = ap (λ (x : List ℕ). (line_at x 0).ended) r ∙ first_open (stretch (drop at names)) (stretch_inner (drop at names)) in
      rw (f, and-false)

  -- before another byte than 10
  end_bad : end < length names → (get_or names end 0 ≡ 10 → ⊥) → None ≡ name_end names at
  unfolding name_end
  end_bad m ne =
      let r : drop at names ≡ stretch (drop at names) ++ get_or names end 0 ∷ drop (suc end) names = rest_is ∙ ap (λ (x : List ℕ). stretch (drop at names) ++ x) (drop-cons names end 0 m) in
      let f : all_name_bytes (line_at (drop at names) 0).bytes ≡ false =
      ap (λ (x : List ℕ). all_name_bytes (line_at x 0).bytes) r
      ∙ first_bad (stretch (drop at names)) (get_or names end 0) (drop (suc end) names) (stretch_inner (drop at names)) end_byte (ne_eqb (get_or names end 0) 10 ne) in
      let g : is_name (line_at (drop at names) 0).bytes ≡ false = is_false (is_name (line_at (drop at names) 0).bytes) (λ h. not_both (all_name_bytes (line_at (drop at names) 0).bytes) (name_bytes_lem (line_at (drop at names) 0).bytes h) f) in
      rw g

  -- by what was found of the byte there
  pub end_other : end ≤ length names → ltb end (length names) && eqb (get_or names end 0) 10 ≡ false → None ≡ name_end names at
  end_other m e = go (ltb end (length names)) refl e
    where
      go : (t : Bool) → ltb end (length names) ≡ t → t && eqb (get_or names end 0) 10 ≡ false → None ≡ name_end names at
      go true f g = end_bad (ltb-true end (length names) f) (eqb-false (get_or names end 0) 10 g)
      go false f g = let k = ltb-false end (length names) f in end_open (omega arith)

  -- the part that is looked at
  pub part_stretch : take (end - at) (drop at names) ≡ stretch (drop at names)
  part_stretch = ap (λ (x : List ℕ). take (end - at) x) rest_is ∙ take_at (stretch (drop at names)) (drop end names) (end - at) (omega arith)

  pub part_named : OnlyListBytes 0 names → all_name_bytes (take (end - at) (drop at names)) ≡ true
  part_named o =
      ap all_name_bytes part_stretch
      ∙ stretch_named (drop at names) (λ i k. rw (get_or-drop at names i 0) (o.at (at + i) (omega arith) (omega (arith, length-drop at names))))

  pub ten_there : ltb end (length names) && eqb (get_or names end 0) 10 ≡ true → (end < length names) × (get_or names end 0 ≡ 10)
  ten_there e = let p = and_true (ltb end (length names)) (eqb (get_or names end 0) 10) e in (ltb-true end (length names) p.0, eqb-true (get_or names end 0) 10 p.1)

  -- before byte 10
  module _ (t : (end < length names) × (get_or names end 0 ≡ 10)) where
    m : end < length names
    m = t.0

    ten : get_or names end 0 ≡ 10
    ten = t.1

    line_is : line_at (drop at names) 0 ≡ record { bytes = stretch (drop at names); ended = true }
    line_is =
        let r : drop at names ≡ stretch (drop at names) ++ 10 ∷ drop (suc end) names =
        rest_is ∙ ap (λ (x : List ℕ). stretch (drop at names) ++ x) (drop-cons names end 0 m ∙ ap (λ (x : ℕ). x ∷ drop (suc end) names) ten) in
        ap (λ (x : List ℕ). line_at x 0) r ∙ ap (λ (x : List Line). get_or x 0 no_line) (first_inner (stretch (drop at names)) (drop (suc end) names) (stretch_inner (drop at names)))

    ended_by : name_end names at ≡ (if is_name (stretch (drop at names)) then Some end else None)
    unfolding name_end
    ended_by = rw (line_is, and_yes, l)

    no_end_lem : is_name (stretch (drop at names)) ≡ false → None ≡ name_end names at
    no_end_lem f = sym (rw f at ended_by)

    pub end_long : 24 < length (take (end - at) (drop at names)) → None ≡ name_end names at
    end_long h = no_end_lem (is_false (is_name (stretch (drop at names))) (λ e. let p = ap length part_stretch in absurd (omega (arith, name_short (stretch (drop at names)) e))))

    pub end_unnamed : all_name_bytes (take (end - at) (drop at names)) ≡ false → None ≡ name_end names at
    end_unnamed h =
        no_end_lem (is_false (is_name (stretch (drop at names))) (λ e. not_both (all_name_bytes (stretch (drop at names))) (name_bytes_lem (stretch (drop at names)) e) (rw part_stretch at h)))

    pub end_name : length (take (end - at) (drop at names)) ≤ 24 → all_name_bytes (take (end - at) (drop at names)) ≡ true → is_letter (get_or names at 0) ≡ true → Some end ≡ name_end names at
    end_name h a e =
        let q = stretch_more names at (omega (arith, l)) (byte_inner (get_or names at 0) (letter_byte (get_or names at 0) e)) in
        let c = byte_others (get_or names at 0) (stretch (drop (at + 1) names)) (rw q at (rw part_stretch at a)) in
        let n = ap length q in
        let o = ap length part_stretch in
        let f : is_name (stretch (drop at names)) ≡ true =
        ap (λ (x : List ℕ). is_name x) q ∙ name_made (get_or names at 0) (stretch (drop (at + 1) names)) e c (omega (arith, n, l)) in
        sym (rw f at ended_by)

    pub end_no_letter : is_letter (get_or names at 0) ≡ false → None ≡ name_end names at
    end_no_letter e = no_end_lem (is_false (is_name (stretch (drop at names))) (λ t. go (name_parts (stretch (drop at names)) t)))
      where
        go : IsName (stretch (drop at names)) → ⊥
        go p =
            let r : p.first ∷ (p.others ++ drop end names) ≡ get_or names at 0 ∷ drop (at + 1) names =
            ap (λ (x : List ℕ). x ++ drop end names) (sym p.is) ∙ sym rest_is ∙ drop_next names at (omega (arith, l)) in
            not_both (is_letter (get_or names at 0)) (ap (λ (x : ℕ). is_letter x) (sym (head-eq_of_cons-eq r)) ∙ p.letter) e

-- ---- the lines taken so far

-- a name that is found on no line is on none of them
pub found_none : (names : List ℕ) (n : ℕ) (name : List ℕ) → name_found names n name ≡ None → (k : ℕ) → k < n → same_name (line_at names k).bytes name ≡ false
found_none names n name e k l = is_false (same_name (line_at names k).bytes name) (first_none (λ j. same_name (line_at names j).bytes name) n e k l)

-- the first n lines are without fault, and the next one begins at `at`
pub record Sofar (seed : ℕ) (names starts heads next : List ℕ) (n at : ℕ) : Type 0 where
  pub known : NamesIndexed seed names starts heads next n
  pub at_is : get_or starts n 0 ≡ at
  pub within : at ≤ length names
  pub small : at ≤ 25 * n
  pub lines : (j : ℕ) → line_at names (n + j) ≡ line_at (drop at names) j
  pub left : how_many_names names ≡ n + how_many_names (drop at names)
  pub sound : (k : ℕ) → k < n → line_ground names k ≡ 0

-- before the first line
pub begins : (seed : ℕ) (names starts heads next : List ℕ) → Started starts → Clear 512 256 heads next → Sofar seed names starts heads next 0 0
begins seed names starts heads next s z = record {
  known = record {
    lined = record { few = omega arith; long = s.long; stands = λ k l. absurd (omega arith) };
    chains = chains_begin (bucket_of seed names) z;
    apart = λ j k m l. absurd (omega arith);
  };
  at_is = s.first;
  within = omega arith;
  small = omega arith;
  lines = λ j. ap (λ (i : ℕ). line_at names i) (let e : 0 + j ≡ j = omega arith in e);
  left = omega arith;
  sound = λ k l. absurd (omega arith);
}

module _ {seed : ℕ} {names starts heads next : List ℕ} {n at : ℕ} (s : Sofar seed names starts heads next n at) (l : at < length names) where
  some_left : n < how_many_names names
  some_left =
      let d : length (drop at names) ≡ length names - at = length-drop at names in
      omega (arith, s.left, some_lines (drop at names) (λ e. omega (arith, d)))

  here : line_at names n ≡ line_at (drop at names) 0
  here = ap (λ (i : ℕ). line_at names i) (let e : n ≡ n + 0 = omega arith in e) ∙ s.lines 0

  -- line n is the first faulty one
  faulty : line_ground names n ≡ 17 → (o : Outcome) → refused 17 n ≡ names_then names o
  unfolding names_then
  faulty g o =
      let none : eqb (length names) 0 ≡ false = ne_eqb (length names) 0 (λ e. omega arith) in
      rw none (fault_refused (how_many_names names) n 17 (line_ground names) o some_left s.sound g (omega arith))

  ground : (a b c d : Bool) → not (is_name (line_at names n).bytes) ≡ a → any_below n (λ j. same_name (line_at names j).bytes (line_at names n).bytes) ≡ b → leb 255 n ≡ c → not (line_at names n).ended ≡ d
      → line_ground names n ≡ (if a || b || c || d then 17 else 0)
  unfolding line_ground
  ground a b c d p q r t = rw (p, q, r, t)

  pub too_many_lem : 255 ≤ n → (o : Outcome) → refused 17 n ≡ names_then names o
  too_many_lem h = faulty (rw (or-true) at (ground _ _ true _ refl refl (le-leb 255 n h) refl))

  pub no_name : name_end names at ≡ None → (o : Outcome) → refused 17 n ≡ names_then names o
  unfolding name_end
  no_name e = faulty (go (is_name (line_at names n).bytes) (line_at names n).ended refl refl e')
    where
      e' : (if is_name (line_at names n).bytes && (line_at names n).ended then Some (at + length (line_at (drop at names) 0).bytes) else None) ≡ None
      e' = rw (here) e

      go : (a b : Bool) → is_name (line_at names n).bytes ≡ a → (line_at names n).ended ≡ b
          → (if a && b then Some (at + length (line_at (drop at names) 0).bytes) else None) ≡ None → line_ground names n ≡ 17
      go true true p q f = apart _ f
      go true false p q f = rw (or-true) at (ground _ _ _ true refl refl refl (ap (λ (t : Bool). not t) q))
      go false b p q f = ground true _ _ _ (ap (λ (t : Bool). not t) p) refl refl refl

  -- the line is a name, and ends before byte 10
  module _ (end : ℕ) (e : name_end names at ≡ Some end) where
    found_by_lem : (t : Bool) (x : ℕ) → (if t then Some x else None) ≡ Some end → (t ≡ true) × (x ≡ end)
    found_by_lem true x f = (refl, cc)
    found_by_lem false x f = apart end (sym f)

    tests : ((is_name (line_at (drop at names) 0).bytes && (line_at (drop at names) 0).ended) ≡ true) × (at + length (line_at (drop at names) 0).bytes ≡ end)
    unfolding name_end
    tests = found_by_lem _ _ e

    is_name_lem : is_name (line_at names n).bytes ≡ true
    is_name_lem = rw (here) (and_true (is_name (line_at (drop at names) 0).bytes) (line_at (drop at names) 0).ended tests.0).0

    is_ended : (line_at names n).ended ≡ true
    is_ended = rw (here) (and_true (is_name (line_at (drop at names) 0).bytes) (line_at (drop at names) 0).ended tests.0).1

    end_is : end ≡ at + length (line_at names n).bytes
    end_is = rw (here) (sym tests.1)

    split : Split (drop at names) (lines_of (drop at names))
    split = line_split (drop at names) (and_true (is_name (line_at (drop at names) 0).bytes) (line_at (drop at names) 0).ended tests.0).1

    spot : drop at names ≡ (line_at names n).bytes ++ 10 ∷ split.rest
    spot = rw (here) split.is

    short : length (line_at names n).bytes ≤ 24
    short = name_short (line_at names n).bytes is_name_lem

    pub fits : (end + 1 ≤ length names) × (at ≤ end)
    fits =
        let a = ap length spot in
        let b = length-append (line_at names n).bytes (10 ∷ split.rest) in
        let c = length-drop at names in
        (omega (arith, end_is), omega (arith, end_is))

    pub short_end : end + 1 ≤ 25 * (n + 1)
    short_end = omega (arith, s.small, end_is, short)

    rest_after : split.rest ≡ drop (end + 1) names
    rest_after =
        let b : length ((line_at names n).bytes ++ (10 ∷ [])) ≡ length (line_at names n).bytes + 1 = length-append (line_at names n).bytes (10 ∷ []) in
        sym (drop_at ((line_at names n).bytes ++ (10 ∷ [])) split.rest (length (line_at names n).bytes + 1) b)
        ∙ ap (λ (x : List ℕ). drop (length (line_at names n).bytes + 1) x) (append_assoc (line_at names n).bytes (10 ∷ []) split.rest ∙ sym spot)
        ∙ drop-drop (length (line_at names n).bytes + 1) at names
        ∙ ap (λ (i : ℕ). drop i names) (let z : at + (length (line_at names n).bytes + 1) ≡ end + 1 = omega (arith, end_is) in z)

    lines_after : lines_of (drop at names) ≡ line_at names n ∷ lines_of (drop (end + 1) names)
    lines_after = split.lines ∙ ap (λ (x : Line). x ∷ lines_of split.rest) (sym here) ∙ ap (λ (x : List ℕ). line_at names n ∷ lines_of x) rest_after

    pub part_is : take (end - at) (drop at names) ≡ (line_at names n).bytes
    part_is = ap (λ (x : List ℕ). take (end - at) x) spot ∙ take_at (line_at names n).bytes (10 ∷ split.rest) (end - at) (omega (arith, end_is))

    inner : all_inner (line_at names n).bytes ≡ true
    inner = name_inner (line_at names n).bytes (name_bytes_lem (line_at names n).bytes is_name_lem)

    -- it is the stretch there
    pub stretch_part : stretch (drop at names) ≡ take (end - at) (drop at names)
    stretch_part = ap stretch spot ∙ stretch_all (line_at names n).bytes (10 ∷ split.rest) inner refl ∙ sym part_is

    pub part_inner : all_inner (take (end - at) (drop at names)) ≡ true
    part_inner = ap all_inner part_is ∙ inner

    -- its bucket
    pub part_bucket : {b : ℕ} → b ≡ hash_of seed (stretch (drop at names)) → b ≡ hash_of seed (take (end - at) (drop at names))
    part_bucket q = q ∙ ap (hash_of seed) stretch_part

    -- the name stands on an earlier line
    pub again : (f : Option ℕ) → f ≡ name_found names n (take (end - at) (drop at names)) → is_some f ≡ true → (o : Outcome) → refused 17 n ≡ names_then names o
    again None p t = let z : ◌≡◌ {A = ℕ} 0 1 = cc in absurd (omega arith)
    again (Some k) p t =
        let g = first_is (λ j. same_name (line_at names j).bytes (line_at names n).bytes) n k (rw (part_is) at (sym p)) in
        faulty (rw (or-true) at (ground _ true _ _ refl (any_true n k (λ j. same_name (line_at names j).bytes (line_at names n).bytes) g.0 g.1) refl refl))

    pub on_none : (f : Option ℕ) → f ≡ name_found names n (take (end - at) (drop at names)) → is_some f ≡ false → name_found names n (take (end - at) (drop at names)) ≡ None
    on_none None p t = sym p
    on_none (Some k) p t = let z : ◌≡◌ {A = ℕ} 0 1 = cc in absurd (omega arith)

    -- it stands on none
    module _ (few : n < 255) (b : ℕ) (q : b ≡ hash_of seed (take (end - at) (drop at names))) (lt : b < 512) (none : name_found names n (take (end - at) (drop at names)) ≡ None) where
      new : (j : ℕ) → j < n → same_name (line_at names j).bytes (line_at names n).bytes ≡ false
      new = found_none names n (line_at names n).bytes (rw (part_is) at none)

      stands_more : (k : ℕ) → k < n + 1 → (t : Bool) → ltb k n ≡ t
          → Stands names (get_or (set starts (n + 1) (end + 1)) k 0) (get_or (set starts (n + 1) (end + 1)) (k + 1) 0) (line_at names k).bytes
      stands_more k m true p =
          let below = ltb-true k n p in
          rw (get_or-set_other starts (n + 1) k (end + 1) 0 (λ h. omega arith), get_or-set_other starts (n + 1) (k + 1) (end + 1) 0 (λ h. omega arith)) (s.known.lined.stands k below)
      stands_more k m false p =
          let same : k ≡ n = omega (arith, ltb-false k n p) in
          rw (same, get_or-set_other starts (n + 1) n (end + 1) 0 (λ h. omega arith), get_or-set_same starts (n + 1) (end + 1) 0 (omega (arith, s.known.lined.long)), s.at_is) (record {
            ends = omega (arith, end_is);
            within = fits.0;
            part = ap (λ (i : ℕ). take i (drop at names)) (let z : length (line_at names n).bytes ≡ end - at = omega (arith, end_is) in z) ∙ part_is;
            named = is_name_lem;
          })

      apart_more : (j k : ℕ) → j < k → k < n + 1 → (t : Bool) → ltb k n ≡ t → same_name (line_at names j).bytes (line_at names k).bytes ≡ false
      apart_more j k m i true p = s.known.apart j k m (ltb-true k n p)
      apart_more j k m i false p = let same : k ≡ n = omega (arith, ltb-false k n p) in rw same (new j (omega arith))

      pub entered : Sofar seed names (set starts (n + 1) (end + 1)) (set heads b (n + 1)) (set next n (get_or heads b 0)) (n + 1) (end + 1)
      entered = record {
        known = record {
          lined = record { few = omega arith; long = length-set starts (n + 1) (end + 1) ∙ s.known.lined.long; stands = λ k m. stands_more k m (ltb k n) refl };
          chains = chained s.known.chains b (rw (part_is) at q) lt (omega arith);
          apart = λ j k m i. apart_more j k m i (ltb k n) refl;
        };
        at_is = get_or-set_same starts (n + 1) (end + 1) 0 (omega (arith, s.known.lined.long));
        within = fits.0;
        small = short_end;
        lines = λ j.
            ap (λ (i : ℕ). line_at names i) (let z : n + 1 + j ≡ n + suc j = omega arith in z)
            ∙ s.lines (suc j) ∙ ap (λ (x : List Line). get_or x (suc j) no_line) lines_after;
        left = let a = ap length lines_after in omega (arith, s.left);
        sound = none_more n (line_ground names) s.sound
            (ground false false false false (ap (λ (t : Bool). not t) is_name_lem)
            (any_none n (λ j. same_name (line_at names j).bytes (line_at names n).bytes) new) (lt-leb 255 n few) (ap (λ (t : Bool). not t) is_ended));
      }

-- all lines are taken
module _ {seed : ℕ} {names starts heads next : List ℕ} {n at : ℕ} (s : Sofar seed names starts heads next n at) (ge : length names ≤ at) where
  pub all_taken : n ≡ how_many_names names
  unfolding lines_of
  all_taken = let a = ap length (ap (λ (x : List ℕ). lines_of x) (drop_of_length-le names {i = at} ge)) in omega (arith, s.left)

  pub no_lines_at_all : n ≡ 0 → (o : Outcome) → refused 17 0 ≡ names_then names o
  unfolding names_then
  no_lines_at_all z o = rw (eq-eqb (length names) 0 (omega (arith, s.small)))

  pub all_sound : (n ≡ 0 → ⊥) → (o : Outcome) → o ≡ names_then names o
  unfolding names_then
  all_sound nz o =
      let some : eqb (length names) 0 ≡ false = ne_eqb (length names) 0 (no_lines names (omega (arith, all_taken, pos_of_ne-zero nz))) in
      rw some (sym (no_fault (how_many_names names) (line_ground names) o (λ k l. s.sound k (omega (arith, all_taken)))))

-- ---- the search for a name

-- the line that a chain is walked for
abbrev pub sought : (names name : List ℕ) → ℕ → Bool
sought names name k = same_name (line_at names k).bytes name

-- equal names have equal buckets
pub same_bucket : (seed : ℕ) (a b : List ℕ) → same_name a b ≡ true → hash_of seed a ≡ hash_of seed b
unfolding hash_of
same_bucket seed a b e =
    ap₂ (λ (n : ℕ) (x : List ℕ). bucket_at (mix_words (n / 8) seed x)) (same_long alike a b e) (sym (caseless_small a) ∙ ap (map caseless) (same_folded a b e) ∙ caseless_small b)

-- it is in the name's bucket
pub name_bucket : (seed : ℕ) (names name : List ℕ) (b : ℕ) → b ≡ hash_of seed name → (k : ℕ) → sought names name k ≡ true → bucket_of seed names k ≡ b
name_bucket seed names name b e k t = same_bucket seed (line_at names k).bytes name t ∙ sym e

-- no earlier line has the name
pub no_earlier : {seed : ℕ} {names starts heads next : List ℕ} {n : ℕ} → NamesIndexed seed names starts heads next n → (name : List ℕ) (p : ℕ) → p < n → sought names name p ≡ true
    → (k : ℕ) → k < p → sought names name k ≡ true → ⊥
no_earlier {names = names} x name p l t k m u =
    not_both (same_name (line_at names k).bytes (line_at names p).bytes)
    (same_trans (line_at names k).bytes name (line_at names p).bytes u (same_sym (line_at names p).bytes name t))
    (x.apart k p m l)

-- a name found among all lines is listed, and its symbol is 1 more than the line; one that is not found is not listed
pub found_listed : (names name : List ℕ) (n k : ℕ) → n ≡ how_many_names names → name_found names n name ≡ Some k → (is_listed names name ≡ true) × (symbol_of names name ≡ k + 1) × (k < n)
unfolding is_listed symbol_of
found_listed names name n k e f =
    let g = first_is (λ j. same_name (line_at names j).bytes name) n k f in
    let w = line_first (lines_of names) name k (omega (arith, g.0)) g.1 (λ j l. is_false (same_name (line_at names j).bytes name) (g.2 j l)) in
    (lt-ltb (line_with (lines_of names) name) (how_many_names names) (omega (arith, g.0)), omega arith, g.0)

pub not_found_listed : (names name : List ℕ) (n : ℕ) → n ≡ how_many_names names → name_found names n name ≡ None → is_listed names name ≡ false
unfolding is_listed
not_found_listed names name n e f =
    let w = line_none (lines_of names) name (λ k l. found_none names n name f k (omega arith)) in
    le-ltb (line_with (lines_of names) name) (how_many_names names) (omega arith)

-- ---- the answer

-- a faulty line, and what follows from 'the list keeps to the rules'
pub faulty_line : {seed : ℕ} {names starts heads next : List ℕ} {r : Refusal} (k : ℕ) → refused_by r ≡ refused 17 k
    → ((o : Outcome) → refused 17 k ≡ names_then names o) → NamesAnswer seed names starts heads next (Err r)
faulty_line {r = r} k e d = record { decided = λ o. e ∙ d o; count = λ n h. never h; known = λ n h. never h }
  where
    never : {A : Type 0} {n : ℕ} → (let x : Result ℕ Refusal = Err r in x ≡ Ok n) → A
    never h = let z : ◌≡◌ {A = ℕ} 0 1 = cc in absurd (omega arith)

pub sound_list : {seed : ℕ} {names starts heads next : List ℕ} {n at : ℕ} → Sofar seed names starts heads next n at → length names ≤ at → (n ≡ 0 → ⊥)
    → NamesAnswer seed names starts heads next (Ok n)
sound_list {n = n} s ge nz = record {
  decided = all_sound s ge nz;
  count = λ m h. sym (same h) ∙ all_taken s ge;
  known = λ m h. rw (sym (same h)) s.known;
}
  where
    same : {m : ℕ} → (let r : Result ℕ Refusal = Ok n in r ≡ Ok m) → n ≡ m
    same h = cc

-- ---- arrays as they are made

pub fresh : Started (replicate 256 0) × Clear 512 256 (replicate 512 0) (replicate 256 0)
fresh = (
  record { long = length-replicate {A = ℕ} 256 0; first = get_or-replicate {A = ℕ} 256 0 0 0 (omega arith) },
  record { heads_long = length-replicate {A = ℕ} 512 0; next_long = length-replicate {A = ℕ} 256 0; none = λ b lt. get_or-replicate {A = ℕ} 512 b 0 0 lt },
)
