-- The claims of specs/Claims. Assumes nothing.
use Prim.Native.Nat.{ℕ, ◌≤◌, min}
use native.Mathlib.Omega.{arith}
use mathlib.Core.Path.{◌≡◌, ap}
use mathlib.Core.Bool.{Bool}
use Rattle.float64.specs.Constants.{milli}
use Rattle.float64.specs.Arithmetic.{◌⊗◌}
use Rattle.grid.specs.declared.simulator.DcSwitchingSimulator.{DcSwitchingSimulator}
use Rattle.timing.specs.Steps.{time_step_ms}
use Rattle.network.specs.Network.{network_of, no_drain}
use Rattle.step_claims.proofs.Claims.{network_claims}
use Rattle.switching_plan.specs.declared.variables.SwitchingVariables.{SwitchingVariables}
use Rattle.switching_plan.specs.Switching.{SwitchSetting, switch_body, switch_setting_of, switching_body}
use Rattle.switching_plan.specs.Plans.{switching_plan_of, switch_setting_with, switching_plan_step}
use Rattle.switching_step_claims.specs.Claims.{PlanClaims}

all_of_them : (n m : ℕ) → n ≤ m → min (min n m) m ≡ n
all_of_them n m h = omega arith

module _ (g : DcSwitchingSimulator) (number : ℕ) (opens : Bool) (n : g.n_stations ≤ 32) (m : g.n_cables ≤ 64) (b : g.n_breakers ≤ 32) where
  same_setting : switch_setting_with (switching_plan_of g number opens) ≡ switch_setting_of g number opens
  unfolding switching_plan_of network_of
  same_setting =
      λ i.
      record {
        stations = all_of_them g.n_stations 32 n i;
        cables = all_of_them g.n_cables 64 m i;
        breakers = all_of_them g.n_breakers 32 b i;
        number = number;
        opens = opens;
        dt = time_step_ms g;
        switching = (switch_setting_of g number opens).switching;
        rk4 = λ s. network_claims.step g no_drain s (time_step_ms g ⊗ milli) n m i;
      }

  switching_plan_step_lem : (step : ℕ) (v : SwitchingVariables) → switching_plan_step (switching_plan_of g number opens) step v ≡ switching_body g number opens step v
  unfolding switching_plan_step switching_body
  switching_plan_step_lem step v = ap (λ (z : SwitchSetting). switch_body z step v) same_setting

pub plan_claims : PlanClaims
plan_claims = record { switching = switching_plan_step_lem }
