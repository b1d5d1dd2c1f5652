-- The entries that are kept while a text is read, and how they come to the front of the lent list. Assumes nothing.
use Rattle.std.specs.Prelude.{if◌then◌else◌}
use Prim.Native.Nat.{ℕ, zero, suc, ◌+◌, ◌<◌, ◌≤◌}
use mathlib.Core.Path.{◌≡◌, refl, sym, ap, ◌∙◌}
use mathlib.Core.List.{List, [], ◌∷◌, ◌++◌}
use native.Mathlib.Omega.{arith}
use lib.ListN.{length, get_or, set, take, drop, replicate}
use lib.Seq.{length-take-le}
use lib.Dec.{eqb, eqb-suc-zero, eqb-zero-suc, eqb-suc-suc}
use Rattle.model.proofs.Lists.{drop_next}
use Rattle.model.proofs.Writing.{Writing, writing_length, piece_written, one_set}
use Rattle.term.specs.Pass.{SymbolPut, Holds}

-- ---- the first entries put at the front of the lent list

module _ (entries old : List ℕ) (count : ℕ) (f : count ≤ length entries) (w : count ≤ length old) where
  taken_length : length (take count entries) ≡ count
  taken_length = length-take-le count entries f

  pub front_next : (new : List ℕ) (i : ℕ) → Writing old new (take count entries) (drop i (take count entries)) i → i < length (take count entries)
      → Writing old (set new i (get_or (take count entries) i 0)) (take count entries) (drop (i + 1) (take count entries)) (i + 1)
  front_next new i x l =
      let e = get_or (take count entries) i 0 in
      let rest = drop (i + 1) (take count entries) in
      let y : Writing old new (take count entries) ((e ∷ []) ++ rest) i = rw (drop_next (take count entries) i l) at x in
      piece_written (e ∷ []) rest y (set new i e) (i + 1) (one_set new i e (omega (arith, writing_length x, taken_length))) refl

-- ---- the entries kept so far, with a symbol and so many bars more

zeros_at : (bars k : ℕ) → get_or {A = ℕ} (replicate bars 0) k 0 ≡ 0
zeros_at zero k = refl
zeros_at (suc b) zero = refl
zeros_at (suc b) (suc k) = zeros_at b k

pieces_at : (done : List ℕ) (s bars k : ℕ) → get_or (done ++ (s ∷ replicate bars 0)) k 0 ≡ (if eqb k (length done) then s else get_or done k 0)
pieces_at [] s bars zero = refl
pieces_at [] s bars (suc k) = rw (eqb-suc-zero k) (zeros_at bars k)
pieces_at (x ∷ done) s bars zero = rw (eqb-zero-suc (length done))
pieces_at (x ∷ done) s bars (suc k) = rw (eqb-suc-suc k (length done)) (pieces_at done s bars k)

pub kept_more : (entries new done : List ℕ) (at s bars : ℕ) → length done ≡ at → Holds entries done → SymbolPut entries new at s → Holds new (done ++ (s ∷ replicate bars 0))
kept_more entries new done at s bars e h p = record {
  long = p.long;
  same = λ k l. p.holds k l ∙ ap (λ (y : ℕ). if eqb k at then s else y) (h.same k l) ∙ ap (λ (j : ℕ). if eqb k j then s else get_or done k 0) (sym e) ∙ sym (pieces_at done s bars k);
}
