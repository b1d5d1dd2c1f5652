-- Laws of counts of at most 64 bits. Assumes nothing.
use Rattle.std.specs.Prelude.{Option, Some, None}
use Rattle.std.specs.Option.{unwrap_or}
use Prim.Native.Nat.{ℕ, ◌+◌, ◌<◌, ◌≤◌, min}
use mathlib.Core.Path.{◌≡◌}
use native.Mathlib.Omega.{arith}
use Rattle.counts.specs.Marks.{top, ceiling}
use Rattle.counts.specs.Kept.{Is}

-- ---- what a kept count tells

-- the count that is stored is the number kept to 64 bits
pub kept_low : (k : Option ℕ) (n : ℕ) → Is k n → unwrap_or k top ≡ min n top
kept_low (Some x) n i = omega (arith, i)
kept_low None n i = omega (arith, i)

-- with 2^64 for nothing it is the number kept to 2^64
pub kept_whole : (k : Option ℕ) (n : ℕ) → Is k n → unwrap_or k ceiling ≡ min n ceiling
kept_whole (Some x) n i = omega (arith, i)
kept_whole None n i = omega (arith, i)

-- a count is the number; nothing says that the number is beyond 64 bits
pub kept_within : {x n : ℕ} → Is (Some x) n → x ≡ n
kept_within i = i.1

pub kept_beyond : {n : ℕ} → Is None n → top < n
kept_beyond i = omega (arith, i)

-- ---- kept counts made

-- numbers that are the same up to 2^64 are kept alike
pub is_same : (k : Option ℕ) (m n : ℕ) → Is k m → min m ceiling ≡ min n ceiling → Is k n
is_same (Some x) m n i e = (omega (arith, i, e), omega (arith, i, e))
is_same None m n i e = λ l. i (omega (arith, e, l))

-- a sum of kept counts is the sum, kept
pub kept_plus : (a b k : Option ℕ) (m n : ℕ) → Is a m → Is b n → Is k (unwrap_or a ceiling + unwrap_or b ceiling) → Is k (m + n)
kept_plus a b k m n i j h = is_same k _ (m + n) h (omega (arith, kept_whole a m i, kept_whole b n j))

-- a kept count on the way to a number that is no less
pub kept_on : (k : Option ℕ) {m q n : ℕ} → Is k m → k ≡ Some q → m ≡ n → (q < ceiling) × (q ≡ n)
kept_on k i e s = let j = rw e at i in omega (arith, j, s)

pub kept_broken : (k r : Option ℕ) {m n : ℕ} → Is k m → k ≡ None → m ≤ n → r ≡ None → Is r n
kept_broken k r i e l z = let j = rw e at i in rw z (λ h. j (omega arith))

pub kept_end : (r : Option ℕ) {q n : ℕ} → r ≡ Some q → (q < ceiling) × (q ≡ n) → Is r n
kept_end r e j = rw e (omega (arith, j), j.1)
