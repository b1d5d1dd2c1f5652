-- What is asked and promised of rows that are chained by target, by the definitions over the lists that hold them. Assumes nothing: these are definitions.
use Rattle.std.specs.Prelude.{ℕ, Bool, List, Result}
use Rattle.model.specs.declared.Refusal.{Refusal}
use Rattle.counts.specs.declared.ByTarget.{ByTarget}
use Rattle.used.specs.Marked.{PassReady, FoundUsed}
use Rattle.used.specs.Settled.{SettleReady, Settled}

abbrev pub PassReadyOf : (states : ℕ) (by_target : ByTarget) (accepting cs : List ℕ) (used : List ℕ) → Type 0
PassReadyOf states b accepting cs used = PassReady states b.rows.pool.now accepting b.rows.words.now b.first.now cs used

abbrev pub FoundUsedOf : (states : ℕ) (by_target : ByTarget) (accepting : List ℕ) (used₀ used : List ℕ) → Type 0
FoundUsedOf states b accepting used₀ used = FoundUsed states b.rows.pool.now accepting b.rows.words.now used₀ used

abbrev pub SettleReadyOf : (states : ℕ) (by_target : ByTarget) (accepting cs ms : List ℕ) (used : List ℕ) (sums : List ℕ) → Type 0
SettleReadyOf states b accepting cs ms used sums = SettleReady states b.rows.pool.now accepting b.rows.words.now b.first.now cs ms used sums

abbrev pub SettledOf : (prepare : Bool) (states : ℕ) (by_target : ByTarget) (accepting cs₀ cs sums₀ sums : List ℕ) (r : Result (Unit {0}) Refusal) → Type 0
SettledOf prepare states b accepting cs₀ cs sums₀ sums r = Settled prepare states b.rows.pool.now accepting b.rows.words.now cs₀ cs sums₀ sums r
