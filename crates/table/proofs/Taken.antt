-- Laws of the rows' check: rows taken with one multiplier or another. Assumes nothing.
use Prim.Native.Nat.{ℕ, ◌≤◌}
use mathlib.Core.Path.{◌≡◌, refl}
use mathlib.Core.List.{List}
use native.Mathlib.Omega.{arith}
use lib.ListN.{length, take, length-take, length-map}
use Rattle.model.specs.Table.{how_many_rows}
use Rattle.model.specs.Check.{row_ground}
use Rattle.chains.specs.First.{AllFine}
use Rattle.rows.specs.Words.{next_in}
use Rattle.index.specs.Hash.{Multiplier}
use Rattle.index.specs.Taken.{Takeable, AllTaken}
use Rattle.table.specs.Checked.{Empty, CrowdReady}

-- with empty buckets the rows can be taken
pub takeable : {by states : ℕ} {rows words heads₀ heads : List ℕ} → CrowdReady states rows words heads₀ → Multiplier by → length heads ≡ length heads₀ → Empty heads → Takeable by states rows words heads
takeable {by} {states} {rows} {words} {heads₀} {heads} r m long e = record {
  few = r.few;
  multiplier = m;
  room = r.room;
  sized = (omega (arith, long, r.sized.0), omega (arith, long, r.sized.1));
  clear = record { heads_long = refl; next_long = length-map words next_in; none = e };
}

-- arrays of the same lengths do as well
pub still_ready : {states : ℕ} {rows words₀ heads₀ words heads : List ℕ} → CrowdReady states rows words₀ heads₀ → length words ≡ length words₀ → length heads ≡ length heads₀ → CrowdReady states rows words heads
still_ready r a b = record { few = r.few; room = λ n l m. rw a (r.room n l m); sized = (omega (arith, b, r.sized.0), omega (arith, b, r.sized.1)) }

-- what holds of rows that are taken
module _ (words : List ℕ) {by states : ℕ} {rows heads : List ℕ} {n : ℕ} (x : AllTaken by states rows (take n words) heads n) where
  pub taken_fine : AllFine (how_many_rows rows) (row_ground states rows)
  taken_fine = rw x.all at x.fine

  pub taken_room : (words₀ : List ℕ) → length words ≡ length words₀ → n ≤ length words₀
  taken_room words₀ e = omega (arith, e, x.long, length-take n words)
