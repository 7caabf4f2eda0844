-- `plan` of a fault run meets its contract. Assumes nothing.
use Rattle.fault_runs.proofs.Steps.{ready, by_plan}
use Rattle.lists.proofs.Counting.{contrary}
use mathlib.Core.Path.{refl}
use Rattle.fault_runs.proofs.fault_run.FaultRunRun.plan.Goals as goal

pub returns : goal.returns
returns c = record { answer = rw c.fault_plan.ensures; planned = λ h. (by_plan c.args.self.now h c.fault_plan.result c.fault_plan.ensures, λ r. contrary r refl); ready = ready c.args.self.now }
