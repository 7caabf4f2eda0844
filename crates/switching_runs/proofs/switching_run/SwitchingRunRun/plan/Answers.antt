-- `plan` of a switching run meets its contract. Assumes nothing.
use Rattle.switching_runs.proofs.Steps.{ready, by_plan}
use Rattle.switching_runs.proofs.switching_run.SwitchingRunRun.plan.Goals as goal

pub returns : goal.returns
returns c = record { answer = c.switching_plan.ensures; planned = λ h. by_plan c.args.self.now h c.switching_plan.result c.switching_plan.ensures; ready = ready c.args.self.now }
