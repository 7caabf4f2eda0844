-- What an advance works out once, for all cases and for one. Definitions only.
use Rattle.std.specs.Prelude.{ℕ, Bool, false, cond}
use Rattle.grid.specs.declared.parts.SweepOrder.{SweepOrder}
use Rattle.grid.specs.declared.simulator.DcSwitchingSimulator.{DcSwitchingSimulator}
use Rattle.network.specs.Network.{network_of}
use Rattle.run_start.specs.Start.{rated_of}
use Rattle.fault_plan.specs.declared.plan.FaultPlan.{FaultPlan}
use Rattle.fault_plan.specs.Plans.{constants_of}
use Rattle.fault_cases.specs.declared.cases.CasePlace.{CasePlace}
use Rattle.fault_cases.specs.Cases.{place_of, fault_in}
use Rattle.timing.specs.Steps.{steps_of, counted_to, time_step_ms}
use Rattle.breaker_times.specs.Breakers.{fastest_of}
use Rattle.fault_window.specs.declared.steps.Window.{Window}
use Rattle.fault_window.specs.Window.{window_of}
use Rattle.sweep_cases.specs.declared.cases.Common.{Common}

-- the steps in which the fault of a case lasts, from its first step on; none where a call closes no case
unfoldable pub window_for : DcSwitchingSimulator → SweepOrder → (steps : ℕ) → (closes : Bool) → Window
window_for g o steps closes =
    cond closes (window_of (time_step_ms g) o.inception_time_ms (fastest_of g) false 0 steps) (record { from = 0; to = 0; clears = false })

unfoldable pub common_of : DcSwitchingSimulator → SweepOrder → (closes : Bool) → Common
common_of g o closes =
    record {
      grid = g;
      order = o;
      network = network_of g;
      rated_kv = rated_of g;
      n_steps = counted_to (steps_of g);
      window = window_for g o (counted_to (steps_of g)) closes;
    }

-- the plan of the case at a place, and of case k
abbrev pub plan_at : Common → CasePlace → FaultPlan
plan_at x place = record { constants = constants_of x.grid (fault_in x.order place); network = x.network; rated_kv = x.rated_kv }

abbrev pub plan_for : Common → ℕ → FaultPlan
plan_for x k = plan_at x (place_of x.order k)
