-- Numbers chained by bucket: each has a bucket, and in each bucket is a chain of numbers, the last first. Assumes nothing: these are definitions.
use Rattle.std.specs.Prelude.{ℕ, ◌-◌, ◌<◌, ◌≤◌, ◌≡◌, List, length, get_or}

-- p is 1 more than the last number below n in bucket b, or 0 where there is none
pub record Link (bucket : ℕ → ℕ) (b n p : ℕ) : Type 0 where
  pub within : p ≤ n
  pub mine : 0 < p → bucket (p - 1) ≡ b
  pub gap : (k : ℕ) → p ≤ k → k < n → bucket k ≡ b → ⊥

-- the numbers below n are chained: `size` buckets, and room for `room` numbers
pub record Chains (bucket : ℕ → ℕ) (size room n : ℕ) (heads next : List ℕ) : Type 0 where
  pub heads_long : length heads ≡ size
  pub next_long : length next ≡ room
  pub heads_link : (b : ℕ) → b < size → Link bucket b n (get_or heads b 0)
  pub next_link : (r : ℕ) → r < n → Link bucket (bucket r) r (get_or next r 0)

-- chains of no numbers
pub record Clear (size room : ℕ) (heads next : List ℕ) : Type 0 where
  pub heads_long : length heads ≡ size
  pub next_long : length next ≡ room
  pub none : (b : ℕ) → b < size → get_or heads b 0 ≡ 0
