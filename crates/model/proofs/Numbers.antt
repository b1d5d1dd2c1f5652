-- Laws of the refusals' numbers. Assumes nothing.
use Prim.Native.Nat.{ℕ, ◌<◌}
use mathlib.Core.Path.{◌≡◌, refl}
use mathlib.Core.Bool.{Bool, true, ◌&&◌, not}
use lib.Dec.{eqb, ltb}
use borrow.Author.Tests.{ltb-true, not-true, eq-eqb}
use Rattle.model.specs.declared.Kind.{Kind}
use Rattle.model.specs.declared.Kind.TheVariants.{TooManyStates, CutRow, TooManyRowsOrArguments, NotInRange, ArgumentNotBelowTarget, RepeatedRow, AcceptingEntry, CountAboveLimit, LongestTreeAboveLimit, TotalAboveLimit, TreeTooLong, NotATree, NotAccepted, NumberNotBelowTotal, ShortTreeList, FaultyNames, TextTooLong, NotATerm, UnlistedName, TermTreeTooLong, ShortTermTree, UnnamedSymbol, ShortTextList}
use Rattle.model.specs.Answers.{kind_number}
use Rattle.model.specs.Card.{EightUnused}
use Rattle.model.proofs.Choice.{and_true, not_both}

-- 0 is no refusal's number, and 8 is withdrawn
abbrev usable : ℕ → Bool
usable n = ltb 0 n && not (eqb n 8)

kind_usable : (k : Kind) → usable (kind_number k) ≡ true
kind_usable TooManyStates = refl
kind_usable CutRow = refl
kind_usable TooManyRowsOrArguments = refl
kind_usable NotInRange = refl
kind_usable ArgumentNotBelowTarget = refl
kind_usable RepeatedRow = refl
kind_usable AcceptingEntry = refl
kind_usable CountAboveLimit = refl
kind_usable LongestTreeAboveLimit = refl
kind_usable TotalAboveLimit = refl
kind_usable TreeTooLong = refl
kind_usable NotATree = refl
kind_usable NotAccepted = refl
kind_usable NumberNotBelowTotal = refl
kind_usable ShortTreeList = refl
kind_usable FaultyNames = refl
kind_usable TextTooLong = refl
kind_usable NotATerm = refl
kind_usable UnlistedName = refl
kind_usable TermTreeTooLong = refl
kind_usable ShortTermTree = refl
kind_usable UnnamedSymbol = refl
kind_usable ShortTextList = refl

-- no kind of refusal has the number 0
pub kind_positive : (k : Kind) → 0 < kind_number k
kind_positive k = ltb-true 0 (kind_number k) (and_true (ltb 0 (kind_number k)) _ (kind_usable k)).0

pub eight_unused : EightUnused
eight_unused k e =
    let n = kind_number k in
    not_both (eqb n 8) (eq-eqb n 8 e) (not-true (eqb n 8) (and_true (ltb 0 n) (not (eqb n 8)) (kind_usable k)).1)
