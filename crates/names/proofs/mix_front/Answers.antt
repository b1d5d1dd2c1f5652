use Prim.Native.Nat.{ℕ, zero, suc, ◌*◌, ◌%◌, ◌^◌, ◌<◌}
use mathlib.Core.Path.{◌≡◌, refl, ap, ◌∙◌}
use native.Mathlib.Omega.{arith}
use lib.Bits.{bit_or}
use Rattle.names.specs.NamesIndex.{mixed}
use Rattle.names.proofs.mix_front.Goals as goal

-- so many bytes, as a number of bits
shifted : (n : ℕ) → n < 8 → (1 * 2 ^ (8 * n) % 18446744073709551616 ≡ 256 ^ n) × (0 < 256 ^ n)
shifted zero l = (refl, omega arith)
shifted (suc zero) l = (refl, omega arith)
shifted (suc (suc zero)) l = (refl, omega arith)
shifted (suc (suc (suc zero))) l = (refl, omega arith)
shifted (suc (suc (suc (suc zero)))) l = (refl, omega arith)
shifted (suc (suc (suc (suc (suc zero))))) l = (refl, omega arith)
shifted (suc (suc (suc (suc (suc (suc zero)))))) l = (refl, omega arith)
shifted (suc (suc (suc (suc (suc (suc (suc zero))))))) l = (refl, omega arith)
shifted (suc (suc (suc (suc (suc (suc (suc (suc n)))))))) l = absurd (omega arith)

pub returns : goal.returns
returns c =
    c.mix.ensures ∙ ap (λ (k : ℕ). mixed c.args.h (bit_or c.args.w 0x2020_2020_2020_2020 % k)) (shifted c.args.n c.requires).0
