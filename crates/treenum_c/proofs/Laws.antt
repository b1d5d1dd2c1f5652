-- An answer as the two numbers that an exported function gives. Assumes nothing.
use Prim.Native.Nat.{ℕ, ◌<◌}
use mathlib.Core.Path.{◌≡◌, sym, ap, ◌∙◌}
use mathlib.Core.List.{Memᴰ}
use native.Mathlib.Omega.{arith}
use Rattle.model.specs.Answers.{Outcome, result, refused}
use Rattle.model.specs.Card.{NotRefusedBy, Operation, Input, outcome_of, card_numbers}
use Rattle.model.proofs.Card.{card, never_zero, never_eight}
use Rattle.treenum_c.specs.Returned.{number_for, value_for, Returned}

-- an outcome told in other words
pub told : {o o' : Outcome} {number value : ℕ} → o ≡ o' → Returned o number value → Returned o' number value
told e x = record { number_is = x.number_is ∙ ap number_for e; value_is = x.value_is ∙ ap value_for e }

-- a caller who gets 0 has the result, and one who gets another number has the refusal of that number
result_told : (o : Outcome) {v : ℕ} → NotRefusedBy 0 o → Returned o 0 v → o ≡ result v
result_told (result n) h x = ap result (sym x.value_is)
result_told (refused k p) h x = absurd (h p (ap (λ (m : ℕ). refused m p) (sym x.number_is)))

pub zero_result : (op : Operation) (lent : Input op) {v : ℕ} → Returned (outcome_of op lent) 0 v → outcome_of op lent ≡ result v
zero_result op lent x = result_told (outcome_of op lent) (never_zero op lent) x

pub other_refused : (o : Outcome) {k v : ℕ} → 0 < k → Returned o k v → o ≡ refused k v
other_refused (result n) pos x = absurd (omega (arith, x.number_is))
other_refused (refused m p) pos x = rw (x.number_is, x.value_is)

-- which is one of those on the operation's card, and so is not 8
pub returned_card : (op : Operation) (lent : Input op) {k v : ℕ} → 0 < k → Returned (outcome_of op lent) k v → Memᴰ k (card_numbers op)
returned_card op lent {k} {v} pos x = card.only op lent k v (other_refused (outcome_of op lent) pos x)

pub eight_not_returned : (op : Operation) (lent : Input op) {v : ℕ} → Returned (outcome_of op lent) 8 v → ⊥
eight_not_returned op lent {v} x = never_eight op lent v (other_refused (outcome_of op lent) (omega arith) x)
