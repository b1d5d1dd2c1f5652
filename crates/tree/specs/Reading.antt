-- Reading a tree entry by entry, as the code does. Assumes nothing: these are definitions.
use Rattle.std.specs.Prelude.{ℕ, ◌+◌, ◌-◌, ◌≡◌, ◌&&◌, ◌||◌, List, Result, Ok, Err, eqb, ltb, if◌then◌else◌}
use Rattle.model.specs.Answers.{Outcome, refused_by}
use Rattle.model.specs.Entries.{tree_then}
use Rattle.model.specs.declared.Kind.TheVariants.{NotATree}
use Rattle.model.specs.declared.Refusal.{Refusal}
use Rattle.tree.specs.declared.Reading.{Reading}
use Rattle.tree.specs.declared.Step.{Step}
use Rattle.tree.specs.declared.Step.TheVariants.{Opens, Closes}

abbrev pub fresh : Reading
fresh = record { depth = 0; place = 0 }

-- refusal 13 at a place
abbrev pub not_a_tree : ℕ → Refusal
not_a_tree place = record { place = place; kind = NotATree }

-- a bar closes a node, a symbol opens one
abbrev pub step : ℕ → Step
step e = if eqb e 0 then Closes else Opens

-- the reading after such an entry
abbrev pub read_on : Reading → Step → Reading
read_on r Opens = record { depth = r.depth + 1; place = r.place + 1 }
read_on r Closes = record { depth = r.depth - 1; place = r.place + 1 }

-- "each entry read opens a node, closes one, or is refused": it is refused if it "is above 255, is a bar with no node open, or follows the
-- root's bar"
unfoldable pub step_of : Reading → ℕ → Result Reading Refusal
step_of r e =
    if ltb 255 e || (eqb e 0 && eqb r.depth 0) || (ltb 0 r.place && eqb r.depth 0) then Err (not_a_tree r.place) else
    Ok (read_on r (step e))

-- "for a list that ends too soon (an empty one too) the place is its length"
unfoldable pub end_of : Reading → Result (Unit {0}) Refusal
end_of r = if eqb r.place 0 || ltb 0 r.depth then Err (not_a_tree r.place) else Ok tt

-- the refusal, or where the list is a tree what follows
abbrev pub form_check_then : Result (Unit {0}) Refusal → Outcome → Outcome
form_check_then (Ok _) otherwise = otherwise
form_check_then (Err r) otherwise = refused_by r

-- the answer decides 12 and 13
pub record Decides (entries : List ℕ) (f : Result (Unit {0}) Refusal) : Type 0 where
  pub decided : (o : Outcome) → form_check_then f o ≡ tree_then entries o
