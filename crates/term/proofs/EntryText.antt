-- The bytes of an entry, by what stands before it, and the bytes of the entries from a place on. Assumes nothing.
use Rattle.std.specs.Prelude.{if◌then◌else◌}
use Prim.Native.Nat.{ℕ, suc, ◌+◌, ◌-◌, ◌*◌, ◌<◌, ◌≤◌}
use mathlib.Core.Path.{◌≡◌, refl, sym, ap, subst, ◌∙◌}
use mathlib.Core.Bool.{Bool, true, false}
use mathlib.Core.List.{List, [], ◌∷◌, ◌++◌}
use mathlib.Core.Logic.{◌⊎◌, inl, inr}
use native.Mathlib.Omega.{arith}
use native.Mathlib.Nat.{pos_of_ne-zero}
use lib.ListN.{length, get_or, drop, set, length-append}
use lib.Dec.{eqb}
use borrow.Author.Tests.{eq-eqb, ne_eqb, eqb-true, eqb-false}
use Rattle.model.specs.Names.{name_of, line_at}
use Rattle.names.specs.NamesIndex.{Lined}
use Rattle.names.proofs.Lines as lines
use Rattle.term.specs.Emit.{entry_text, entries_text, closing, mark_after}
use Rattle.term.specs.Written.{Put, Front, EntriesNamed}
use Rattle.model.proofs.Writing.{Writing, writing_first, piece_fits, writing_last}
use Rattle.term.proofs.Pieces.{piece_put, put_one, put_both}

-- what the first entry gives
module _ (names : List ℕ) (e : ℕ) where
  pub first_bar : e ≡ 0 → entry_text names 0 e ≡ []
  unfolding entry_text
  first_bar p = rw (eq-eqb e 0 p)

  pub first_name : (e ≡ 0 → ⊥) → entry_text names 0 e ≡ name_of names e
  unfolding entry_text
  first_name p = rw (ne_eqb e 0 p)

-- what an entry gives after another one
module _ (names : List ℕ) (before e : ℕ) where
  pub after_bar : e ≡ 0 → before ≡ 0 → entry_text names (mark_after before) e ≡ 41 ∷ []
  unfolding entry_text
  after_bar p q = rw (eq-eqb e 0 p, eq-eqb before 0 q)

  pub after_leaf : e ≡ 0 → (before ≡ 0 → ⊥) → entry_text names (mark_after before) e ≡ []
  unfolding entry_text
  after_leaf p q = rw (eq-eqb e 0 p, ne_eqb before 0 q)

  pub after_name : (e ≡ 0 → ⊥) → entry_text names (mark_after before) e ≡ mark_after before ∷ name_of names e
  unfolding entry_text
  after_name p = rw (ne_eqb e 0 p) (go (eqb before 0))
    where
      go : (t : Bool) → (if eqb (if t then 44 else 40) 0 then [] else (if t then 44 else 40) ∷ []) ++ name_of names e ≡ (if t then 44 else 40) ∷ name_of names e
      go true = refl
      go false = refl

-- the name on a symbol's line
pub name_line : (names : List ℕ) (e w : ℕ) → w ≡ e → (line_at names (w - 1)).bytes ≡ name_of names e
unfolding name_of
name_line names e w h = rw h

-- it has at most 24 bytes
pub name_short : {names starts : List ℕ} {n : ℕ} → Lined names starts n → (e : ℕ) → (e ≡ 0 → ⊥) → e ≤ n → length (name_of names e) ≤ 24
unfolding name_of
name_short {names} {starts} {n} x e ne l = lines.name_short (line_at names (e - 1)).bytes (x.stands (e - 1) (omega (arith, pos_of_ne-zero ne))).named

-- ---- the length by lines

-- after a separator
module _ (names : List ℕ) (mark e : ℕ) where
  letter_close : e ≡ 0 → mark ≡ 44 → entry_text names mark e ≡ 41 ∷ []
  unfolding entry_text
  letter_close p q = rw (eq-eqb e 0 p, eq-eqb mark 44 q)

  letter_bar : e ≡ 0 → (mark ≡ 44 → ⊥) → entry_text names mark e ≡ []
  unfolding entry_text
  letter_bar p q = rw (eq-eqb e 0 p, ne_eqb mark 44 q)

  letter_mark : (e ≡ 0 → ⊥) → (mark ≡ 0 → ⊥) → entry_text names mark e ≡ mark ∷ name_of names e
  unfolding entry_text
  letter_mark p q = rw (ne_eqb e 0 p, ne_eqb mark 0 q)

pub mark_some : (e : ℕ) → mark_after e ≡ 0 → ⊥
mark_some e = go (eqb e 0)
  where
    go : (t : Bool) → ◌≡◌ {A = ℕ} (if t then 44 else 40) 0 → ⊥
    go true h = omega arith
    go false h = omega arith

-- what is added for a bar after a bar
module _ (mark e : ℕ) where
  pub closing_one : e ≡ 0 → mark ≡ 44 → closing mark e ≡ 1
  unfolding closing
  closing_one p q = rw (eq-eqb e 0 p, eq-eqb mark 44 q)

  pub closing_none : e ≡ 0 → (mark ≡ 44 → ⊥) → closing mark e ≡ 0
  unfolding closing
  closing_none p q = rw (eq-eqb e 0 p, ne_eqb mark 44 q)

  pub closing_name : (e ≡ 0 → ⊥) → closing mark e ≡ 0
  unfolding closing
  closing_name p = rw (ne_eqb e 0 p)

-- after a separator an entry gives as many bytes as its line has, from its start to the next, and a bar none, or one where it closes
module _ {names starts : List ℕ} {n : ℕ} (x : Lined names starts n) (e : ℕ) (few : e ≤ n) {next from : ℕ}
    (to : next ≡ get_or starts e 0) (begins : from ≡ get_or starts (e - 1) 0) where
  line_bar : e ≡ 0 → next ≡ from
  line_bar p = to ∙ ap (λ (k : ℕ). get_or starts k 0) (let z : e ≡ e - 1 = omega arith in z) ∙ sym begins

  line_name : (e ≡ 0 → ⊥) → (next ≡ from + length (name_of names e) + 1) × (length (name_of names e) ≤ 24)
  unfolding name_of
  line_name p =
      let l = pos_of_ne-zero p in
      let s = x.stands (e - 1) (omega arith) in
      let z = ap (λ (k : ℕ). get_or starts k 0) (let y : e ≡ e - 1 + 1 = omega arith in y) in
      (omega (arith, to, begins, z, s.ends), lines.name_short (line_at names (e - 1)).bytes s.named)

  pub line_length : (mark : ℕ) → (mark ≡ 0 → ⊥) → {c : ℕ} → c ≡ closing mark e
      → (next - from + c ≡ length (entry_text names mark e)) × (next - from + c ≤ 25)
  line_length mark m {c} h = go (eqb e 0) (eqb mark 44) (eqb-true e 0) (eqb-false e 0) (eqb-true mark 44) (eqb-false mark 44)
    where
      go : (s t : Bool) → (s ≡ true → e ≡ 0) → (s ≡ false → e ≡ 0 → ⊥) → (t ≡ true → mark ≡ 44) → (t ≡ false → mark ≡ 44 → ⊥)
          → (next - from + c ≡ length (entry_text names mark e)) × (next - from + c ≤ 25)
      go true true a b p q =
          let f = ap length (letter_close names mark e (a refl) (p refl)) in
          let k = closing_one mark e (a refl) (p refl) in
          (omega (arith, line_bar (a refl), f, h, k), omega (arith, line_bar (a refl), h, k))
      go true false a b p q =
          let f = ap length (letter_bar names mark e (a refl) (q refl)) in
          let k = closing_none mark e (a refl) (q refl) in
          (omega (arith, line_bar (a refl), f, h, k), omega (arith, line_bar (a refl), h, k))
      go false t a b p q =
          let f = ap length (letter_mark names mark e (b refl) m) in
          let k = closing_name mark e (b refl) in
          let l = line_name (b refl) in
          (omega (arith, l.0, f, h, k), omega (arith, l.0, l.1, h, k))

-- ---- the entries in turn

-- the first entry, and the others
pub entries_first : (names tree : List ℕ) (first : ℕ) (rest : List ℕ) → tree ≡ first ∷ rest → entries_text names 0 tree ≡ entry_text names 0 first ++ entries_text names (mark_after first) rest
unfolding entries_text
entries_first names tree first rest e = ap (entries_text names 0) e

pub entries_none : (names tree : List ℕ) → length tree ≡ 0 → entries_text names 0 tree ≡ []
unfolding entries_text
entries_none names [] e = refl
entries_none names (x ∷ xs) e = absurd (omega arith)

-- the entries that still come, each with the one before it, are the symbols of names
pub record Paired (n : ℕ) (befores es : List ℕ) : Type 0 where
  pub before : ℕ
  pub pairs : befores ≡ before ∷ es
  pub named : (i : ℕ) → i < length es → get_or es i 0 ≤ n

paired_first : {n : ℕ} {tree : List ℕ} → EntriesNamed n tree → (first : ℕ) (rest : List ℕ) → tree ≡ first ∷ rest → Paired n tree rest
paired_first {n} x first rest e = record {
  before = first;
  pairs = e;
  named = λ i l. let k = ap length e in subst (λ (t : List ℕ). get_or t (suc i) 0 ≤ n) e (x.named (suc i) (omega arith));
}

module _ {n : ℕ} {befores es befores' es' : List ℕ} {b e : ℕ} (x : Paired n befores es) (s : (befores ≡ b ∷ befores') × (es ≡ e ∷ es')) where
  same_before : x.before ≡ b
  same_before = let p = sym x.pairs ∙ s.0 in cc

  paired_next : Paired n befores' es'
  paired_next = record {
    before = e;
    pairs = let p = sym x.pairs ∙ s.0 in cc;
    named = λ i l. let k = ap length s.1 in subst (λ (t : List ℕ). get_or t (suc i) 0 ≤ n) s.1 (x.named (suc i) (omega arith));
  }

  pub entry_named : e ≤ n
  entry_named = let k = ap length s.1 in subst (λ (t : List ℕ). get_or t 0 0 ≤ n) s.1 (x.named 0 (omega arith))

  next_text : (names : List ℕ) → entries_text names (mark_after x.before) es ≡ entry_text names (mark_after b) e ++ entries_text names (mark_after e) es'
  unfolding entries_text
  next_text names = ap (λ (k : ℕ). entries_text names (mark_after k) es) same_before ∙ ap (entries_text names (mark_after b)) s.1

-- at the end nothing is left
none_left : {n : ℕ} {befores es : List ℕ} (x : Paired n befores es) → (befores ≡ []) ⊎ (es ≡ []) → es ≡ []
none_left x (inl e) = let p = sym x.pairs ∙ e in cc
none_left x (inr e) = e

no_text : (names : List ℕ) (mark : ℕ) {es : List ℕ} → es ≡ [] → entries_text names mark es ≡ []
unfolding entries_text
no_text names mark e = ap (entries_text names mark) e

-- the lengths of the entries so far
pub record Summed (names : List ℕ) (n total sum : ℕ) (befores es : List ℕ) : Type 0 where
  pub paired : Paired n befores es
  pub sums : sum + length (entries_text names (mark_after paired.before) es) ≡ total
  pub small : sum + 25 * length es ≤ 102400

pub sum_first : {n : ℕ} (names tree : List ℕ) → EntriesNamed n tree → (first : ℕ) (rest : List ℕ) → tree ≡ first ∷ rest → (k : ℕ) → (k ≡ length (entry_text names 0 first)) × (k ≤ 25)
    → Summed names n (length (entries_text names 0 tree)) k tree rest
unfolding paired_first
sum_first names tree x first rest e k g =
    let a = ap length (entries_first names tree first rest e) in
    let l = ap length e in
    record {
      paired = paired_first x first rest e;
      sums = omega (arith, g.0, a, length-append (entry_text names 0 first) (entries_text names (mark_after first) rest));
      small = omega (arith, g.1, l, x.few);
    }

pub sum_next : {names befores es befores' es' : List ℕ} {n total sum b e : ℕ} (x : Summed names n total sum befores es) (s : (befores ≡ b ∷ befores') × (es ≡ e ∷ es')) (k : ℕ)
    → (k ≡ length (entry_text names (mark_after b) e)) × (k ≤ 25) → Summed names n total (sum + k) befores' es'
unfolding paired_next
sum_next {names} {befores} {es} {befores'} {es'} {n} {total} {sum} {b} {e} x s k g =
    let a = ap length (next_text x.paired s names) in
    let c = length-append (entry_text names (mark_after b) e) (entries_text names (mark_after e) es') in
    let l = ap length s.1 in
    record { paired = paired_next x.paired s; sums = omega (arith, x.sums, g.0); small = omega (arith, x.small, g.1) }

pub sum_last : {names befores es : List ℕ} {n total sum : ℕ} (x : Summed names n total sum befores es) → (befores ≡ []) ⊎ (es ≡ []) → sum ≡ total
sum_last {names} x e = let a = ap length (no_text names (mark_after x.paired.before) (none_left x.paired e)) in omega (arith, x.sums)

-- the bytes of the entries so far are written
pub record Lettered (names : List ℕ) (n : ℕ) (all old new : List ℕ) (at : ℕ) (befores es : List ℕ) : Type 0 where
  pub paired : Paired n befores es
  pub writes : Writing old new all (entries_text names (mark_after paired.before) es) at

pub letter_first : {n : ℕ} (names tree old new : List ℕ) → EntriesNamed n tree → (first : ℕ) (rest : List ℕ) (at : ℕ) → tree ≡ first ∷ rest → length (entries_text names 0 tree) ≤ length old
    → Put old new (entry_text names 0 first) 0 at → Lettered names n (entries_text names 0 tree) old new at tree rest
unfolding paired_first
letter_first names tree old new x first rest at e l p = record {
  paired = paired_first x first rest e;
  writes =
      piece_put (entry_text names 0 first) (entries_text names (mark_after first) rest)
      (subst (λ (x : List ℕ). Writing old old (entries_text names 0 tree) x 0) (entries_first names tree first rest e) (writing_first old (entries_text names 0 tree) l)) new at p;
}

pub first_fits : (names tree : List ℕ) (first : ℕ) (rest : List ℕ) → tree ≡ first ∷ rest → {n : ℕ} → length (entries_text names 0 tree) ≤ n → length (entry_text names 0 first) ≤ n
first_fits names tree first rest e l =
    let a = ap length (entries_first names tree first rest e) in
    omega (arith, length-append (entry_text names 0 first) (entries_text names (mark_after first) rest))

pub letter_none : (names tree old : List ℕ) → length tree ≡ 0 → Front old old (entries_text names 0 tree)
letter_none names tree old e = record { holds = ap (λ (t : List ℕ). t ++ drop (length t) old) (sym (entries_none names tree e)) }

module _ {names all old new befores es befores' es' : List ℕ} {n at b e : ℕ} (x : Lettered names n all old new at befores es) (s : (befores ≡ b ∷ befores') × (es ≡ e ∷ es')) where
  next_entry : Writing old new all (entry_text names (mark_after b) e ++ entries_text names (mark_after e) es') at
  next_entry = rw (next_text x.paired s names) at x.writes

  pub letter_fits : at + length (entry_text names (mark_after b) e) ≤ length new
  letter_fits = piece_fits (entry_text names (mark_after b) e) (entries_text names (mark_after e) es') next_entry

  pub letter_put : (new' : List ℕ) (next : ℕ) → Put new new' (entry_text names (mark_after b) e) at next → Lettered names n all old new' next befores' es'
  unfolding paired_next
  letter_put new' next p = record {
    paired = paired_next x.paired s;
    writes = piece_put (entry_text names (mark_after b) e) (entries_text names (mark_after e) es') next_entry new' next p;
  }

pub letter_last : {names all old new befores es : List ℕ} {n at : ℕ} (x : Lettered names n all old new at befores es) → (befores ≡ []) ⊎ (es ≡ []) → Front old new all
letter_last {names} x e = record { holds = writing_last (rw (no_text names (mark_after x.paired.before) (none_left x.paired e)) at x.writes) }

-- a mark, then a name
pub marked : (old new name : List ℕ) (at mark next : ℕ) → at + length (mark ∷ name) ≤ length old → Put (set old at mark) new name (at + 1) next → Put old new (mark ∷ name) at next
marked old new name at mark next l p = put_both old (set old at mark) new (mark ∷ []) name at (at + 1) next (omega arith) (put_one old at mark (omega arith)) p
