-- What a change of the check after the accepting list leaves as it was.
use Prim.Native.Nat.{ℕ, ◌<◌}
use mathlib.Core.Path.{◌≡◌, refl, sym, ap, ◌∙◌}
use mathlib.Core.Bool.{Bool, true, false}
use mathlib.Core.List.{List}
use lib.Dec.{ltb}
use Rattle.model.specs.Answers.{Outcome, refused}
use Rattle.model.specs.Table.{how_many_rows, how_many_entries, table_of}
use Rattle.model.specs.Check.{row_ground, accepting_ground, lists_then}
use Rattle.model.specs.Number.{number_tree}
use Rattle.model.specs.Write.{write_tree, write_tree_list}
use Rattle.model.specs.Conserved.{CheckRule, SameAnswers}
use Rattle.model.proofs.Choice.{if_yes, if_no, no_fault, first_fault, First, nowhere, first, first_of}

-- the count of states and the lists decide the same whatever follows, or nothing
pub data Lists (states : ℕ) (rows accepting : List ℕ) : Type 0 where
  decide : ((o o' : Outcome) → lists_then states rows accepting o ≡ lists_then states rows accepting o') → Lists states rows accepting
  pass : ((i : ℕ) → i < how_many_rows rows → row_ground states rows i ≡ 0) → ((i : ℕ) → i < how_many_entries accepting → accepting_ground states accepting i ≡ 0)
      → ((o : Outcome) → lists_then states rows accepting o ≡ o) → Lists states rows accepting

pub lists : (states : ℕ) (rows accepting : List ℕ) → Lists states rows accepting
lists states rows accepting = size (ltb 256 states) refl
  where
    m : ℕ
    m = how_many_rows rows

    n : ℕ
    n = how_many_entries accepting

    entries : ltb 256 states ≡ false → ((i : ℕ) → i < m → row_ground states rows i ≡ 0) → First n (accepting_ground states accepting) → Lists states rows accepting
    entries e c (nowhere d) =
        pass c d (λ o. if_no (ltb 256 states) (refused 1 0) _ e ∙ no_fault m (row_ground states rows) _ c ∙ no_fault n (accepting_ground states accepting) o d)
    entries e c (first i l b g) = decide (λ o o'. here o ∙ sym (here o'))
      where
        here : (o : Outcome) → lists_then states rows accepting o ≡ refused (accepting_ground states accepting i) i
        here o = if_no (ltb 256 states) (refused 1 0) _ e ∙ no_fault m (row_ground states rows) _ c ∙ first_fault n i (accepting_ground states accepting) o l b g

    each : ltb 256 states ≡ false → First m (row_ground states rows) → Lists states rows accepting
    each e (nowhere c) = entries e c (first_of n (accepting_ground states accepting))
    each e (first i l b g) = decide (λ o o'. here o ∙ sym (here o'))
      where
        here : (o : Outcome) → lists_then states rows accepting o ≡ refused (row_ground states rows i) i
        here o = if_no (ltb 256 states) (refused 1 0) _ e ∙ first_fault m i (row_ground states rows) _ l b g

    size : (b : Bool) → ltb 256 states ≡ b → Lists states rows accepting
    size true e = decide (λ o o'. if_yes (ltb 256 states) (refused 1 0) _ e ∙ sym (if_yes (ltb 256 states) (refused 1 0) _ e))
    size false e = each e (first_of m (row_ground states rows))

-- where the check is the same, so is what it decides
pub same_answers : (before now : CheckRule) (states : ℕ) (rows accepting : List ℕ) → now states rows accepting ≡ before states rows accepting
    → SameAnswers before now states rows accepting
same_answers before now states rows accepting e =
    let T = table_of states rows accepting in
    record {
      checking = e;
      numbering = λ tree. ap (λ (o : Outcome). number_tree o T tree) e;
      writing = λ number room. ap (λ (o : Outcome). write_tree o T number room) e;
      list = λ number tree. ap (λ (o : Outcome). write_tree_list o T number tree) e;
    }
