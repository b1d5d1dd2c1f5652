-- The states in which the code reads a text, as document 01's definitions have them. Assumes nothing: these are definitions.
use Rattle.std.specs.Prelude.{ℕ, List, Option, Some, None, Result, Ok, Err}
use Rattle.model.specs.Term as term
use Rattle.model.specs.declared.Kind.TheVariants.{NotATerm}
use Rattle.model.specs.declared.Refusal.{Refusal}
use Rattle.scan.specs.declared.TextState.{TextState}
use Rattle.scan.specs.declared.TextState.TheVariants.{Due, InName, Closed}

-- the code's states and steps, as states and steps of document 01's definitions
abbrev pub seen : TextState → term.ScanState
seen (Due depth) = term.due depth
seen (InName depth bytes) = term.in_name depth bytes
seen (Closed depth) = term.closed depth

abbrev pub seen_step : Option TextState → term.ScanStep
seen_step (Some r) = term.goes_on (seen r)
seen_step None = term.stops

-- how many brackets are open
abbrev pub depth_of : term.ScanState → ℕ
depth_of (term.due depth) = depth
depth_of (term.in_name depth bytes) = depth
depth_of (term.closed depth) = depth

-- the place at which a text stops being a term, if it does
abbrev pub place_of : term.Scan → Option ℕ
place_of term.passes = None
place_of (term.breaks_at place) = Some place

-- refusal 19, if there is such a place
abbrev pub not_a_term_at : Option ℕ → Result (Unit {0}) Refusal
not_a_term_at None = Ok tt
not_a_term_at (Some place) = Err (record { place = place; kind = NotATerm })

-- the whole text is read
abbrev pub scanned : List ℕ → term.Scan
scanned text = term.scan (term.due 0) 0 text
