-- `while_faulted` meets its contract. Assumes nothing.
use Rattle.fault_plan.specs.Fault.{while_faulted}
use Rattle.fault_step.proofs.fault.while_faulted.Goals as goal

pub returns : goal.returns
unfolding while_faulted
returns c =
    rw (c.choose.ensures, c.dissipated_mj.ensures, c.max-2.ensures, c.di_dt.ensures, c.max.ensures, c.opened_if.ensures, c.fault_current_ka-i_fault_ka.ensures, c.rk4_step-after.ensures)
