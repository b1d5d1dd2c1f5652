-- The rows are chained, the states counted and held to the limits; the first faulty state decides, or else the total.
use Rattle.std.specs.Prelude.{◌≡◌, Err}
use Rattle.std.proofs.Common.{rules}
use Rattle.table.proofs.Counting.{states_fault, states_total}
use Rattle.table.proofs.check_states.Goals as goal

pub returns-in_err-settle : goal.returns-in_err-settle
returns-in_err-settle c =
    let e : c.from_residual.result ≡ Err c.in_err-settle.field-0.0 = search rules in
    rw e (states_fault c.requires c.chain_rows.ensures c.count_states.ensures c.settle.ensures _ c.in_err-settle.was)

pub returns : goal.returns
returns c = states_total c.requires c.chain_rows.ensures c.count_states.ensures c.settle.ensures c.in_ok-settle.was _ c.total_of.ensures
