-- `fault_step` meets its contract. Assumes nothing.
use Rattle.fault_plan.proofs.Phases.{waiting, cleared, faulted}
use mathlib.Core.Path.{sym, ◌∙◌}
use Rattle.fault_step.proofs.fault.fault_step.Goals as goal

pub returns-then-waits : goal.returns-then-waits
returns-then-waits c =
    c.quiet_step.ensures ∙ waiting c.args.plan c.args.step c.args.v (sym c.waits.ensures ∙ c.if-waits.true)

pub returns-then-v : goal.returns-then-v
returns-then-v c =
    c.after_clearing.ensures ∙ rw c.step_time_ms-t_ms.ensures (cleared c.args.plan c.args.step c.args.v c.if-v.true)

pub returns : goal.returns
returns c =
    c.while_faulted.ensures ∙ rw c.step_time_ms-t_ms.ensures (faulted c.args.plan c.args.step c.args.v (sym c.waits.ensures ∙ c.if-waits.false) c.if-v.false)
