-- What a reader expects beside the definitions. The proofs are in proofs/Claims.antt.
use Rattle.std.specs.Prelude.{ℕ, ◌≤◌, ◌≡◌, Bool}
use Rattle.grid.specs.declared.simulator.DcSwitchingSimulator.{DcSwitchingSimulator}
use Rattle.switching_plan.specs.declared.variables.SwitchingVariables.{SwitchingVariables}
use Rattle.switching_plan.specs.Switching.{switching_body}
use Rattle.switching_plan.specs.Plans.{switching_plan_of, switching_plan_step}

-- what is worked out once for a run changes no step
pub record PlanClaims : Type 0 where
  pub switching : (g : DcSwitchingSimulator) (number : ℕ) (opens : Bool) → g.n_stations ≤ 32 → g.n_cables ≤ 64 → g.n_breakers ≤ 32
      → (step : ℕ) (v : SwitchingVariables) → switching_plan_step (switching_plan_of g number opens) step v ≡ switching_body g number opens step v
