-- Steps of a case by what is worked out once for its fault. Definitions only: Claims says that the steps are the same.
use Rattle.std.specs.Prelude.{ℕ, zero, suc, Bool}
use Rattle.detection.specs.Detection.{detected_by}
use Rattle.fault_plan.specs.declared.variables.FaultVariables.{FaultVariables}
use Rattle.fault_plan.specs.declared.plan.FaultPlan.{FaultPlan}
use Rattle.fault_plan.specs.Plans.{plan_step}
use Rattle.case_steps.specs.declared.open_case.OpenCase.{OpenCase}
use Rattle.case_steps.specs.OpenCases.{stepped}

abbrev pub plan_shows : FaultPlan → OpenCase → FaultVariables → Bool
plan_shows p c after = detected_by p.rated_kv p.network.n_stations p.network.n_cables after.state c.variables.state

abbrev pub plan_detected : FaultPlan → ℕ → OpenCase → FaultVariables → Bool
plan_detected p step c after = (stepped (plan_shows p c after) step c after).detected

unfoldable pub plan_case_step : FaultPlan → ℕ → OpenCase → OpenCase
plan_case_step p step c = let after = plan_step p step c.variables in stepped (plan_shows p c after) step c after

unfoldable pub plan_case_from : FaultPlan → ℕ → OpenCase → ℕ → OpenCase
plan_case_from p first c zero = c
plan_case_from p first c (suc n) = plan_case_from p (suc first) (plan_case_step p first c) n
