-- `after_clearing` meets its contract. Assumes nothing.
use Rattle.fault_plan.specs.Fault.{after_clearing}
use Rattle.fault_step.proofs.fault.after_clearing.Goals as goal

pub returns : goal.returns
unfolding after_clearing
returns c =
    rw (c.choose.ensures, c.decayed_current_ka-left_ka.ensures, c.recover_voltages.ensures, c.all_recovered-recovered.ensures)
