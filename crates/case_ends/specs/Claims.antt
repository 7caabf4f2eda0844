-- What a reader expects beside the definitions: a jump to the end is what the steps one by one lead to. The proofs are in proofs/Claims.antt.
use Rattle.std.specs.Prelude.{ℕ, ◌-◌, ◌≡◌, true}
use Rattle.fault_plan.specs.declared.plan.FaultPlan.{FaultPlan}
use Rattle.case_steps.specs.declared.open_case.OpenCase.{OpenCase}
use Rattle.case_steps.specs.OpenCases.{outcome_in}
use Rattle.case_steps.specs.Plans.{plan_case_from}
use Rattle.case_ends.specs.Ends.{window_by, end_by}

pub record EndClaims : Type 0 where
  -- whatever is kept of the case
  pub all_steps
      : (p : FaultPlan) (first end : ℕ) (c : OpenCase)
      → end_by p first (window_by p c.variables.fault_active first end) c ≡ outcome_in (plan_case_from p first c (end - first))
  -- after clearing no step changes what the row and the reasons are read from
  pub settled : (p : FaultPlan) (first n : ℕ) (c : OpenCase) → c.variables.fault_cleared ≡ true → outcome_in (plan_case_from p first c n) ≡ outcome_in c
