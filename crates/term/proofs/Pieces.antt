-- Pieces put at a place of a lent list. Assumes nothing.
use Prim.Native.Nat.{ℕ, ◌+◌, ◌<◌, ◌≤◌}
use mathlib.Core.Path.{◌≡◌, refl, sym, ap, ◌∙◌}
use mathlib.Core.List.{List, [], ◌∷◌, ◌++◌, append_assoc, append-nil}
use native.Mathlib.Omega.{arith}
use lib.ListN.{length, take, drop, set, length-append, length-drop, take-append-drop}
use lib.Seq.{length-take-le, drop_at, take_at, drop-drop}
use Rattle.model.proofs.Writing.{Writing, piece_written, one_set}
use Rattle.term.specs.Written.{Put}

-- a piece put at the next place
pub piece_put : {old new all : List ℕ} {at : ℕ} (piece rest : List ℕ) → Writing old new all (piece ++ rest) at → (new' : List ℕ) (next : ℕ) → Put new new' piece at next
    → Writing old new' all rest next
piece_put piece rest w new' next p = piece_written piece rest w new' next p.holds p.after

-- one item
pub put_one : (old : List ℕ) (at x : ℕ) → at < length old → Put old (set old at x) (x ∷ []) at (at + 1)
put_one old at x l = record { holds = one_set old at x l; after = refl }

-- nothing
pub put_none : (old : List ℕ) (at : ℕ) → at ≤ length old → Put old old [] at at
put_none old at l =
    let z : at + 0 ≡ at = omega arith in
    record { holds = sym (ap (λ (x : List ℕ). x ++ drop (at + 0) old) (append-nil (take at old)) ∙ ap (λ (i : ℕ). take at old ++ drop i old) z ∙ take-append-drop at old); after = omega arith }

-- one piece after another
pub put_both : (old mid new p q : List ℕ) (at a b : ℕ) → at + length p ≤ length old → Put old mid p at a → Put mid new q a b → Put old new (p ++ q) at b
put_both old mid new p q at a b l x y =
    let n = length-append p q in
    record { holds = y.holds ∙ ap (λ (u : List ℕ). u ++ q ++ drop (a + length q) mid) front ∙ ap (λ (u : List ℕ). take at old ++ p ++ q ++ u) back ∙ ap (λ (u : List ℕ). u ++ drop (at + length (p ++ q)) old) (append_assoc (take at old) p q); after = omega (arith, x.after, y.after) }
  where
    long : length (take at old ++ p) ≡ a
    long = length-append (take at old) p ∙ (let z : length (take at old) + length p ≡ a = omega (arith, length-take-le at old (omega arith), x.after) in z)

    front : take a mid ≡ take at old ++ p
    front = ap (λ (u : List ℕ). take a u) x.holds ∙ take_at (take at old ++ p) (drop (at + length p) old) a long

    back : drop (a + length q) mid ≡ drop (at + length (p ++ q)) old
    back =
        sym (drop-drop (length q) a mid)
        ∙ ap (λ (u : List ℕ). drop (length q) (drop a u)) x.holds
        ∙ ap (λ (u : List ℕ). drop (length q) u) (drop_at (take at old ++ p) (drop (at + length p) old) a long)
        ∙ drop-drop (length q) (at + length p) old
        ∙ ap (λ (i : ℕ). drop i old) (let z : at + length p + length q ≡ at + length (p ++ q) = omega (arith, length-append p q) in z)

-- the length stays
pub put_length : {old new piece : List ℕ} {at next : ℕ} → Put old new piece at next → at + length piece ≤ length old → length new ≡ length old
put_length {old} {new} {piece} {at} p l =
    let a = ap length p.holds in
    let b = length-append (take at old ++ piece) (drop (at + length piece) old) in
    let c = length-append (take at old) piece in
    let d = length-take-le at old (omega arith) in
    let e = length-drop (at + length piece) old in
    omega arith
