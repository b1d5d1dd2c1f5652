-- What the parts of reading a term in one pass promise. Assumes nothing: these are definitions.
use Rattle.std.specs.Prelude.{ℕ, ◌+◌, ◌<◌, ◌≤◌, ◌≡◌, false, not, List, ◌∷◌, ◌++◌, length, get_or, drop, replicate, eqb, if◌then◌else◌, Result, Ok, Err, Some, None}
use Rattle.model.specs.Answers.{Outcome, refused, refused_by}
use Rattle.model.specs.declared.Refusal.{Refusal}
use Rattle.model.specs.Choice.{first_faulty}
use Rattle.model.specs.Names.{is_name_byte}
use Rattle.model.specs.Term.{Scan, passes, breaks_at, due, in_name, scan, term_then}
use Rattle.model.specs.TermOperations.{entries_of, name_ground}
use Rattle.term.specs.Emit.{node_entries, emitted}
use Rattle.term.specs.declared.After.{After}
use Rattle.term.specs.declared.Due.{Due}

-- c bytes `)` stand at a place, no more than brackets are open, and one more could not be counted
pub record Closing (text : List ℕ) (at depth c : ℕ) : Type 0 where
  pub few : c ≤ depth
  pub within : at + c ≤ length text
  pub marks : (j : ℕ) → at ≤ j → j < at + c → get_or text j 0 ≡ 41
  pub stop : c < depth → get_or text (at + c) 0 ≡ 41 → ⊥

-- after a name that ends at `end`, no name byte stands up to i, and so many bars come
pub record Barred (text : List ℕ) (end i bars : ℕ) : Type 0 where
  pub within : i ≤ length text
  pub few : bars + end ≤ i + 1
  pub others : (j : ℕ) → end ≤ j → j < i → is_name_byte (get_or text j 0) ≡ false
  pub entries : (names : List ℕ) (s : ℕ)
      → node_entries s (not (eqb (get_or text end 0) 40)) ++ emitted names false (drop end text) ≡ s ∷ (replicate bars 0 ++ emitted names false (drop i text))

-- another name is due at i, with d brackets open
pub record Onward (text : List ℕ) (end depth i d bars : ℕ) : Type 0 where
  pub barred : Barred text end i bars
  pub further : end < i
  pub few : bars + end ≤ i
  pub shallow : d + end ≤ depth + i
  pub scans : (m : ℕ) → scan (in_name depth m) end (drop end text) ≡ scan (due d) i (drop i text)

-- the text stops being a term: a refusal 19, and where
pub record Breaks (text : List ℕ) (end depth : ℕ) (e : Refusal) : Type 0 where
  pub place : ℕ
  pub refuses : refused_by e ≡ refused 19 place
  pub scans : (m : ℕ) → scan (in_name depth m) end (drop end text) ≡ breaks_at place

-- what follows a name that ends at `end`, so many brackets being open
pub record Follows (text : List ℕ) (end depth : ℕ) (r : Result After Refusal) : Type 0 where
  pub name : (a : After) (u : Due) → r ≡ Ok a → a.due ≡ Some u → Onward text end depth u.place u.depth a.bars
  pub ends : (a : After) → r ≡ Ok a → a.due ≡ None → Barred text end (length text) a.bars × ((m : ℕ) → scan (in_name depth m) end (drop end text) ≡ passes)
  pub breaks : (e : Refusal) → r ≡ Err e → Breaks text end depth e

-- 19 comes before 20
abbrev pub unlisted_at : Scan → (place : ℕ) → Outcome
unlisted_at passes place = refused 20 place
unlisted_at (breaks_at p) place = refused 19 p

-- a symbol is put at a place, where the list has it
pub record SymbolPut (old new : List ℕ) (at symbol : ℕ) : Type 0 where
  pub long : length new ≡ 4096
  pub holds : (k : ℕ) → k < 4096 → get_or new k 0 ≡ (if eqb k at then symbol else get_or old k 0)

-- a cleared list
pub record Cleared (entries : List ℕ) : Type 0 where
  pub long : length entries ≡ 4096
  pub none : (k : ℕ) → k < 4096 → get_or entries k 0 ≡ 0

-- the list has the entries, as far as it goes, and 0 after them
pub record Holds (entries all : List ℕ) : Type 0 where
  pub long : length entries ≡ 4096
  pub same : (k : ℕ) → k < 4096 → get_or entries k 0 ≡ get_or all k 0

-- refusal 19 or 20, or what follows where there is neither
abbrev pub pass_then : Result ℕ Refusal → Outcome → Outcome
pass_then (Err e) otherwise = refused_by e
pass_then (Ok m) otherwise = otherwise

-- a refusal, or a count
abbrev pub counted : (count : ℕ) → Result (Unit {0}) Refusal → Result ℕ Refusal
counted count (Ok _) = Ok count
counted count (Err e) = Err e

-- the answer decides 19 and 20; where there is neither, the entries of the tree are counted, and kept
pub record Passed (names text entries : List ℕ) (r : Result ℕ Refusal) : Type 0 where
  pub decided : (o : Outcome) → pass_then r o ≡ term_then text (first_faulty (length text) (name_ground names text) o)
  pub counted : (m : ℕ) → r ≡ Ok m → m ≡ length (entries_of names text)
  pub held : (m : ℕ) → r ≡ Ok m → Holds entries (entries_of names text)
