-- The steps of a switching run. Assumes nothing.
use Prim.Native.Nat.{ℕ, ◌≤◌}
use mathlib.Core.Path.{◌≡◌, ap, ◌∙◌}
use mathlib.Core.Bool.{false}
use Rattle.timing.specs.Steps.{steps_of}
use Rattle.rules.specs.Studies.{switching_refusal}
use Rattle.rule_claims.proofs.Claims.{accepted_claims}
use Rattle.rule_claims.proofs.Sizes.{size_claims}
use Rattle.switching_plan.specs.declared.variables.SwitchingVariables.{SwitchingVariables}
use Rattle.switching_plan.specs.declared.plan.SwitchingPlan.{SwitchingPlan}
use Rattle.switching_plan.specs.Switching.{switching_body}
use Rattle.switching_plan.specs.Plans.{switching_plan_of, switching_plan_step}
use Rattle.switching_step_claims.proofs.Claims.{plan_claims}
use Rattle.runs.specs.Kinds.{Ready}
use Rattle.runs.proofs.Refusals.{unbroken}
use Rattle.switching_runs.specs.declared.switching_run.SwitchingRun.{SwitchingRun}
use Rattle.switching_runs.specs.SwitchingRuns.{switching_run_refused}

-- a run that is not refused
module _ (s : SwitchingRun) (h : switching_run_refused s ≡ false) where
  both : (switching_refusal s.grid ≡ 0) × (s.steps_made ≤ steps_of s.grid)
  unfolding switching_run_refused
  both = unbroken (switching_refusal s.grid) (steps_of s.grid) s.steps_made h

  accepted : switching_refusal s.grid ≡ 0
  accepted = both.0

  pub ready : Ready s.grid s.steps_made
  ready = record { steps = accepted_claims.switching s.grid accepted; sizes = size_claims.switching s.grid accepted; not_past = both.1 }

  -- a step by the plan is the body
  pub by_plan : (p : SwitchingPlan) → p ≡ switching_plan_of s.grid s.breaker_id s.«open» → (j : ℕ) (w : SwitchingVariables)
      → switching_plan_step p j w ≡ switching_body s.grid s.breaker_id s.«open» j w
  by_plan p e j w =
      let sizes = size_claims.switching s.grid accepted in
      ap (λ (q : SwitchingPlan). switching_plan_step q j w) e
      ∙ plan_claims.switching s.grid s.breaker_id s.«open» sizes.stations sizes.cables sizes.breakers j w
