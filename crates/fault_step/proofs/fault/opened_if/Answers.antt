-- `opened_if` meets its contract. Assumes nothing.
use Rattle.lists.specs.Tables.{blank}
use Rattle.fault_step.proofs.fault.opened_if.Goals as goal

pub returns-then-clears : goal.returns-then-clears
unfolding blank
returns-then-clears c = rw c.if-clears.true
