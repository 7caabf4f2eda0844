-- `is_refused` of a switching run meets its contract. Assumes nothing.
use Rattle.switching_runs.specs.SwitchingRuns.{switching_run_refused}
use Rattle.rules.specs.Studies.{switching_refusal}
use Rattle.rules.proofs.Outcomes.{not_nought, nought_at}
use Rattle.rule_claims.proofs.Claims.{accepted_claims}
use Rattle.timing.specs.Steps.{steps_of}
use Rattle.timing.proofs.Claims.{step_claims}
use borrow.Author.Tests.{eq-eqb, ne_eqb}
use mathlib.Core.Path.{◌≡◌, sym, ◌∙◌}
use Rattle.switching_runs.proofs.switching_run.SwitchingRunRun.is_refused.Goals as goal

pub returns-then-is_err : goal.returns-then-is_err
unfolding switching_run_refused
returns-then-is_err c =
    let e = not_nought c.check_switching.result (sym c.is_err.ensures.value ∙ c.if-is_err.true) in rw (ne_eqb (switching_refusal c.args.self.now.grid) 0 (λ z. e (c.check_switching.ensures ∙ z)))

pub returns : goal.returns
unfolding switching_run_refused
returns c =
    let z : switching_refusal c.args.self.now.grid ≡ 0 = sym c.check_switching.ensures ∙ nought_at c.check_switching.result (sym c.is_err.ensures.value ∙ c.if-is_err.false) in
    rw (eq-eqb (switching_refusal c.args.self.now.grid) 0 z, c.total_steps.ensures, step_claims.counted (steps_of c.args.self.now.grid) (accepted_claims.switching c.args.self.now.grid z))
