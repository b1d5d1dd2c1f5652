-- The leading zeros of c - 1 and its length in bits make 64, and c - 1 is below 2 to its length.
use Prim.Native.Nat.{ℕ, ◌-◌, ◌^◌, ◌<◌, ◌≤◌}
use native.Mathlib.Omega.{arith}
use lib.Count.{count_leading_zeros, leading_length}
use mathlib.Core.Path.{◌≡◌, sym, subst}
use Rattle.counts.proofs.bits_of.Goals as goal

length-holds : (c : ℕ) → 0 < c → c < 2 ^ 64 → (c ≤ 2 ^ (64 - count_leading_zeros 64 (c - 1))) × (64 - count_leading_zeros 64 (c - 1) ≤ 64)
length-holds c p h =
    let s = leading_length 64 (c - 1) (omega arith) in
    let e : 64 - count_leading_zeros 64 (c - 1) ≡ s.0 = omega (arith, s.1) in
    (subst (λ (n : ℕ). c ≤ 2 ^ n) (sym e) (omega (arith, s.2)), omega arith)

pub returns : goal.returns
returns c = rw c.from.ensures (length-holds c.args.c c.requires c.ranges.c.fits)
