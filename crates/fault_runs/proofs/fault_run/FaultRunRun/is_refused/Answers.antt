-- `is_refused` of a fault run meets its contract. Assumes nothing.
use Rattle.fault_runs.specs.FaultRuns.{fault_run_refused}
use Rattle.rules.specs.Studies.{fault_refusal}
use Rattle.rules.proofs.Outcomes.{not_nought, nought_at}
use Rattle.rule_claims.proofs.Claims.{accepted_claims}
use Rattle.timing.specs.Steps.{steps_of}
use Rattle.timing.proofs.Claims.{step_claims}
use borrow.Author.Tests.{eq-eqb, ne_eqb}
use mathlib.Core.Path.{◌≡◌, sym, ◌∙◌}
use Rattle.fault_runs.proofs.fault_run.FaultRunRun.is_refused.Goals as goal

pub returns-then-is_err : goal.returns-then-is_err
unfolding fault_run_refused
returns-then-is_err c =
    let e = not_nought c.check_fault.result (sym c.is_err.ensures.value ∙ c.if-is_err.true) in rw (ne_eqb (fault_refusal c.args.self.now.grid c.args.self.now.fault) 0 (λ z. e (c.check_fault.ensures ∙ z)))

pub returns : goal.returns
unfolding fault_run_refused
returns c =
    let z : fault_refusal c.args.self.now.grid c.args.self.now.fault ≡ 0 = sym c.check_fault.ensures ∙ nought_at c.check_fault.result (sym c.is_err.ensures.value ∙ c.if-is_err.false) in
    rw (eq-eqb (fault_refusal c.args.self.now.grid c.args.self.now.fault) 0 z, c.total_steps.ensures, step_claims.counted (steps_of c.args.self.now.grid) (accepted_claims.fault c.args.self.now.grid c.args.self.now.fault z))
