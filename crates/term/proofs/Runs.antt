-- The names in a text, found one after another, and their grounds for 20. Assumes nothing.
use Rattle.std.specs.Prelude.{if◌then◌else◌}
use Prim.Native.Nat.{ℕ, zero, suc, ◌+◌, ◌-◌, ◌<◌, ◌≤◌}
use mathlib.Core.Path.{◌≡◌, refl, sym, ap, ◌∙◌}
use mathlib.Core.Bool.{Bool, true, false, ◌&&◌, not, and-false}
use mathlib.Core.List.{List, [], ◌∷◌, ◌++◌}
use native.Mathlib.Omega.{arith}
use native.Mathlib.Numerals.{add-one}
use lib.ListN.{length, get_or, take, drop, length-append, length-drop, get_or-append}
use lib.Seq.{drop-drop, get_or-drop, take_at}
use lib.Dec.{eqb, ltb}
use borrow.Author.Tests.{ltb-true, ltb-false}
use Rattle.model.specs.Names.{is_name_byte, all_name_bytes, symbol_of, is_listed, how_many_names}
use Rattle.model.specs.Term.{run, name_begins, name_at}
use Rattle.model.specs.TermOperations.{name_ground}
use Rattle.model.proofs.Bytes.{NoByte, end_no_byte, byte_first, byte_others, run_bytes}
use Rattle.model.proofs.Lists.{drop_next}
use Rattle.std.specs.Prelude.{Some, None}
use Rattle.names.specs.NamesIndex.{name_found}
use Rattle.names.proofs.Lines.{found_listed, not_found_listed}
use Rattle.term.specs.Emit.{node_entries, emitted}
use Rattle.term.proofs.Tokens.{emitted_run, emitted_other}

-- ---- runs of name bytes

run_more : (l : List ℕ) (i : ℕ) → i < length l → is_name_byte (get_or l i 0) ≡ true → run (drop i l) ≡ get_or l i 0 ∷ run (drop (i + 1) l)
unfolding run
run_more l i lt e = rw (drop_next l i lt, e)

-- a run, and what comes after it
run_split : (xs : List ℕ) → (xs ≡ run xs ++ drop (length (run xs)) xs) × (is_name_byte (get_or xs (length (run xs)) 0) ≡ false)
unfolding run
run_split [] = (refl, end_no_byte)
run_split (b ∷ bs) = go (is_name_byte b) refl (run_split bs)
  where
    go : (t : Bool) → is_name_byte b ≡ t → (bs ≡ run bs ++ drop (length (run bs)) bs) × (is_name_byte (get_or bs (length (run bs)) 0) ≡ false)
        → ((b ∷ bs) ≡ (if t then b ∷ run bs else []) ++ drop (length (if t then b ∷ run bs else [])) (b ∷ bs))
        × (is_name_byte (get_or (b ∷ bs) (length (if t then b ∷ run bs else [])) 0) ≡ false)
    go true e h = (ap (λ (x : List ℕ). b ∷ x) h.0, h.1)
    go false e h = (refl, e)

pub run_within : (text : List ℕ) (i : ℕ) → i ≤ length text → i + length (run (drop i text)) ≤ length text
run_within text i l =
    let a = ap length (run_split (drop i text)).0 in
    omega (arith, a, length-append (run (drop i text)) (drop (length (run (drop i text))) (drop i text)), length-drop i text)

module _ (text : List ℕ) (i end : ℕ) (q : end ≡ i + length (run (drop i text))) where
  pub rest_is : drop i text ≡ run (drop i text) ++ drop end text
  rest_is = (run_split (drop i text)).0 ∙ ap (λ (x : List ℕ). run (drop i text) ++ x) (drop-drop (length (run (drop i text))) i text ∙ ap (λ (k : ℕ). drop k text) (sym q))

  pub end_byte : is_name_byte (get_or text end 0) ≡ false
  end_byte = ap (λ (k : ℕ). is_name_byte (get_or text k 0)) q ∙ sym (ap (λ (x : ℕ). is_name_byte x) (get_or-drop i text (length (run (drop i text))) 0)) ∙ (run_split (drop i text)).1

-- a name byte here begins a name
abbrev pub Fresh : List ℕ → ℕ → Type 0
Fresh text i = is_name_byte (get_or text i 0) ≡ true → name_begins text i ≡ true

pub fresh_first : (text : List ℕ) → Fresh text 0
unfolding name_begins
fresh_first text e = e

begins_not : (text : List ℕ) (i : ℕ) → is_name_byte (get_or text i 0) ≡ false → name_begins text i ≡ false
unfolding name_begins
begins_not text zero e = e
begins_not text (suc i) e = rw e

inside_not : (text : List ℕ) (i : ℕ) → is_name_byte (get_or text i 0) ≡ true → name_begins text (suc i) ≡ false
unfolding name_begins
inside_not text i e = rw (e, and-false)

-- 20 by its two tests
ground_by : (names text : List ℕ) (i : ℕ) (a b : Bool) → name_begins text i ≡ a → is_listed names (name_at text i) ≡ b → name_ground names text i ≡ (if a && not b then 20 else 0)
unfolding name_ground
ground_by names text i a b e f = rw (e, f)

no_begin : (names text : List ℕ) (i : ℕ) → name_begins text i ≡ false → name_ground names text i ≡ 0
no_begin names text i e = ground_by names text i false _ e refl

-- a byte that is no name byte
module _ (names text : List ℕ) (i : ℕ) (l : i < length text) (e : is_name_byte (get_or text i 0) ≡ false) where
  pub other_ground : name_ground names text i ≡ 0
  other_ground = no_begin names text i (begins_not text i e)

  pub other_fresh : Fresh text (i + 1)
  unfolding name_begins
  other_fresh = rw (add-one i) (λ f. rw (e, f))

  pub other_entries : emitted names false (drop i text) ≡ (if eqb (get_or text i 0) 41 then 0 ∷ [] else []) ++ emitted names false (drop (i + 1) text)
  other_entries = ap (λ (x : List ℕ). emitted names false x) (drop_next text i l) ∙ emitted_other names (get_or text i 0) (drop (i + 1) text) e

-- a run of name bytes
module _ (names text : List ℕ) (i end : ℕ) (l : i < length text) (e : is_name_byte (get_or text i 0) ≡ true) (q : end ≡ i + length (run (drop i text))) where
  pub run_is : run (drop i text) ≡ get_or text i 0 ∷ run (drop (i + 1) text)
  run_is = run_more text i l e

  pub longer : i < end
  longer = omega (arith, q, ap length run_is)

  pub part_is : take (end - i) (drop i text) ≡ name_at text i
  part_is = ap (λ (x : List ℕ). take (end - i) x) (rest_is text i end q) ∙ take_at (run (drop i text)) (drop end text) (end - i) (omega arith)

  -- its bytes are name bytes
  pub part_clean : all_name_bytes (take (end - i) (drop i text)) ≡ true
  part_clean = ap all_name_bytes part_is ∙ run_bytes (drop i text)

  pub after_byte : NoByte (drop end text)
  after_byte = ap (λ (x : ℕ). is_name_byte x) (get_or-drop end text 0 0 ∙ ap (λ (j : ℕ). get_or text j 0) (let z : end + 0 ≡ end = omega arith in z)) ∙ end_byte text i end q

  pub run_clean : all_name_bytes (get_or text i 0 ∷ run (drop (i + 1) text)) ≡ true
  run_clean = ap (λ (x : List ℕ). all_name_bytes x) (sym run_is) ∙ run_bytes (drop i text)

  pub run_whole : drop i text ≡ (get_or text i 0 ∷ run (drop (i + 1) text)) ++ drop end text
  run_whole = rest_is text i end q ∙ ap (λ (x : List ℕ). x ++ drop end text) run_is

  pub run_entries : emitted names false (drop i text) ≡ node_entries (symbol_of names (name_at text i)) (not (eqb (get_or text end 0) 40)) ++ emitted names false (drop end text)
  run_entries =
      let z : get_or (drop end text) 0 0 ≡ get_or text end 0 = get_or-drop end text 0 0 ∙ ap (λ (j : ℕ). get_or text j 0) (let z : end + 0 ≡ end = omega arith in z) in
      ap (λ (x : List ℕ). emitted names false x) run_whole
      ∙ emitted_run names (get_or text i 0) (run (drop (i + 1) text)) (drop end text) run_clean after_byte
      ∙ ap (λ (x : ℕ). node_entries (symbol_of names (get_or text i 0 ∷ run (drop (i + 1) text))) (not (eqb x 40)) ++ emitted names false (drop end text)) z
      ∙ ap (λ (x : List ℕ). node_entries (symbol_of names x) (not (eqb (get_or text end 0) 40)) ++ emitted names false (drop end text)) (sym run_is)

  all_bytes : (xs : List ℕ) (k : ℕ) → all_name_bytes xs ≡ true → k < length xs → is_name_byte (get_or xs k 0) ≡ true
  all_bytes [] k a m = absurd (omega arith)
  all_bytes (x ∷ xs) zero a m = byte_first x xs a
  all_bytes (x ∷ xs) (suc k) a m = all_bytes xs k (byte_others x xs a) (omega arith)

  in_run : (j : ℕ) → i ≤ j → j < end → is_name_byte (get_or text j 0) ≡ true
  in_run j ge m =
      let k : i + (j - i) ≡ j = omega arith in
      let a = get_or-drop i text (j - i) 0 in
      let b = ap (λ (x : List ℕ). get_or x (j - i) 0) (rest_is text i end q) in
      let c = get_or-append (run (drop i text)) (drop end text) 0 (j - i) (omega (arith, q)) in
      ap (λ (x : ℕ). is_name_byte x) (ap (λ (x : ℕ). get_or text x 0) (sym k) ∙ sym a ∙ b ∙ c) ∙ all_bytes (run (drop i text)) (j - i) (run_bytes (drop i text)) (omega (arith, q))

  -- no other name begins in it
  pub run_grounds : name_ground names text i ≡ 0 → ((j : ℕ) → j < i → name_ground names text j ≡ 0) → (j : ℕ) → j < end → name_ground names text j ≡ 0
  run_grounds g s j m = go (ltb j i) refl (ltb i j) refl
    where
      go : (t : Bool) → ltb j i ≡ t → (u : Bool) → ltb i j ≡ u → name_ground names text j ≡ 0
      go true p u r = s j (ltb-true j i p)
      go false p true r =
          let lt = ltb-true i j r in
          let z : j ≡ suc (j - 1) = omega arith in
          rw z (no_begin names text (suc (j - 1)) (inside_not text (j - 1) (in_run (j - 1) (omega arith) (omega arith))))
      go false p false r = let z : j ≡ i = omega (arith, ltb-false j i p, ltb-false i j r) in rw z g

  -- by what is found for it
  pub listed_ground : (n k : ℕ) → n ≡ how_many_names names → name_found names n (take (end - i) (drop i text)) ≡ Some k
      → (name_ground names text i ≡ 0) × (symbol_of names (name_at text i) ≡ k + 1) × (k < n)
  listed_ground n k c f =
      let g = found_listed names (name_at text i) n k c (rw (part_is) at f) in
      (ground_by names text i _ true refl g.0 ∙ ap (λ (t : Bool). if t then 20 else 0) (and-false (name_begins text i)), g.1, g.2)

  pub unlisted_ground : (n : ℕ) → n ≡ how_many_names names → Fresh text i → name_found names n (take (end - i) (drop i text)) ≡ None → name_ground names text i ≡ 20
  unlisted_ground n c h f = ground_by names text i true false (h e) (not_found_listed names (name_at text i) n c (rw (part_is) at f))
