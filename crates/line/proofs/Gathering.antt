-- Answers put one after another. Assumes nothing.
use Prim.Native.Nat.{ℕ, ◌+◌, ◌-◌, ◌<◌, ◌≤◌}
use mathlib.Core.Path.{◌≡◌, refl, sym, ap, ◌∙◌}
use mathlib.Core.List.{List, [], ◌++◌}
use native.Mathlib.Omega.{arith}
use lib.ListN.{length, take, drop, length-append}
use lib.Seq.{length-take-le, take-append-le, take-append-add, drop-drop, take-add}
use Rattle.line.specs.Held.{part, held_after, put_for}
use Rattle.line.specs.Feeding.{Holds, Prints}
use Rattle.line.specs.declared.Line.{Line}
use Rattle.line.proofs.Output.{held_more, put_more}

part_none : (bytes : List ℕ) (from : ℕ) → part bytes from from ≡ []
part_none bytes from = let e : from - from ≡ 0 = omega arith in rw e

part_both : (bytes : List ℕ) (from i next : ℕ) → from ≤ i → i ≤ next → part bytes from next ≡ part bytes from i ++ part bytes i next
part_both bytes from i next a b =
    let e : next - from ≡ (i - from) + (next - i) = omega arith in
    let f : from + (i - from) ≡ i = omega arith in
    ap (λ (k : ℕ). take k (drop from bytes)) e
    ∙ take-add (i - from) (next - i) (drop from bytes)
    ∙ ap (λ (l : List ℕ). part bytes from i ++ take (next - i) l) (drop-drop (i - from) from bytes ∙ ap (λ (k : ℕ). drop k bytes) f)

-- bytes put behind those that stand there
take_behind : (out ys rest : List ℕ) (n c : ℕ) → n ≤ length out → c ≤ length ys → take (n + c) (take n out ++ (ys ++ rest)) ≡ take n out ++ take c ys
take_behind out ys rest n c l m =
    ap (λ (k : ℕ). take (k + c) (take n out ++ (ys ++ rest))) (sym (length-take-le n out l))
    ∙ take-append-add (take n out) (ys ++ rest) c
    ∙ ap (λ (d : List ℕ). take n out ++ d) (take-append-le c ys rest m)

fits_behind : (out ys rest : List ℕ) (n c : ℕ) → n ≤ length out → c ≤ length ys → n + c ≤ length (take n out ++ (ys ++ rest))
fits_behind out ys rest n c l m = simp (length-append, length-take-le n out l) (omega arith)

-- the bytes up to i are fed, and the list begins with what they put
pub record Gathers (states : ℕ) (rows accepting names bytes : List ℕ) (from : ℕ) (line₀ : Line) (out : List ℕ) (line : Line) (i n : ℕ) : Type 0 where
  pub after : from ≤ i
  pub within : i ≤ length bytes
  pub counted : n ≤ length out
  pub moved : 0 < n → from < i
  pub prints : (held : List ℕ) → Holds held line₀ → Prints states rows accepting names held (part bytes from i) line out n

pub gathers_first : (states : ℕ) (rows accepting names bytes : List ℕ) (from : ℕ) (out : List ℕ) (line : Line) → from ≤ length bytes
    → Gathers states rows accepting names bytes from line out line from 0
unfolding held_after put_for
gathers_first states rows accepting names bytes from out line l = record {
  after = omega arith;
  within = l;
  counted = omega arith;
  moved = λ z. absurd (omega arith);
  prints = λ held x. rw (part_none bytes from) (record { holds = x; puts = record { within = omega arith; front = refl } });
}

module _ {states : ℕ} {rows accepting names bytes : List ℕ} {from : ℕ} {line₀ : Line} {out : List ℕ} {line : Line} {i n : ℕ}
    (g : Gathers states rows accepting names bytes from line₀ out line i n) where
  pub gathers_more : (line' : Line) (ys rest : List ℕ) (next c : ℕ) → i < next → next ≤ length bytes → c ≤ length ys
      → ((held : List ℕ) → Holds held line → Prints states rows accepting names held (part bytes i next) line' ys c)
      → Gathers states rows accepting names bytes from line₀ (take n out ++ (ys ++ rest)) line' next (n + c)
  gathers_more line' ys rest next c m l w f = record {
    after = omega (arith, g.after);
    within = l;
    counted = fits_behind out ys rest n c g.counted w;
    moved = λ z. omega (arith, g.after);
    prints = λ held x.
        let p = g.prints held x in
        let q = f (held_after held (part bytes from i)) p.holds in
        rw (part_both bytes from i next g.after (omega arith))
        (record {
          holds = rw (held_more held (part bytes from i) (part bytes i next)) q.holds;
          puts = record {
            within = fits_behind out ys rest n c g.counted w;
            front =
                take_behind out ys rest n c g.counted w
                ∙ ap (λ (d : List ℕ). d ++ take c ys) p.puts.front
                ∙ ap (λ (d : List ℕ). put_for states rows accepting names held (part bytes from i) ++ d) q.puts.front
                ∙ sym (put_more states rows accepting names held (part bytes from i) (part bytes i next));
          };
        });
  }
