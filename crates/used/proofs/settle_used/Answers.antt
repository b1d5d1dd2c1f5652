-- The used states are found; one of them is beyond a limit, or the unused ones are cleared.
use Rattle.std.proofs.Common.{◌≡◌, Err, rules}
use Rattle.used.proofs.Settling.{pass_ready, clear_ready, settled_fault, settled_clear}
use Rattle.used.proofs.settle_used.Goals as goal

pub find_used-requires : goal.find_used-requires
find_used-requires c = pass_ready c.requires

pub clear_unused-requires : goal.clear_unused-requires
clear_unused-requires c = clear_ready c.requires c.find_used.ensures c.args.by_target.now.chained

pub returns-in_err-first_fault : goal.returns-in_err-first_fault
returns-in_err-first_fault c =
    let f = c.in_err-first_fault.field-0.0 in
    let e : c.from_residual.result ≡ Err f = search rules in
    rw e (settled_fault c.requires c.find_used.ensures c.first_fault.ensures f c.in_err-first_fault.was)

pub returns : goal.returns
returns c = settled_clear c.requires c.find_used.ensures c.first_fault.ensures c.in_ok-first_fault.was c.clear_unused.ensures
