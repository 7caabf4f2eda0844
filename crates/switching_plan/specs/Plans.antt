-- What the code works out once for a run, and the setting that this gives. Definitions only: a caller needs Switching alone; Claims says that the steps are the
-- same.
use Rattle.std.specs.Prelude.{ℕ, Bool}
use Rattle.float64.specs.Constants.{milli}
use Rattle.float64.specs.Arithmetic.{◌⊗◌}
use Rattle.grid.specs.Simulator.{breaker_count}
use Rattle.grid.specs.declared.simulator.DcSwitchingSimulator.{DcSwitchingSimulator}
use Rattle.timing.specs.Steps.{time_step_ms, duration_ms}
use Rattle.network.specs.Network.{network_of, no_drain, station_count, cable_count}
use Rattle.transient.specs.Rk4.{rk4_step}
use Rattle.switching_plan.specs.declared.variables.SwitchingVariables.{SwitchingVariables}
use Rattle.switching_plan.specs.declared.plan.SwitchingPlan.{SwitchingPlan}
use Rattle.switching_plan.specs.Constants.{switching_part}
use Rattle.switching_plan.specs.Switching.{SwitchSetting, switch_body}

unfoldable pub switching_plan_of : DcSwitchingSimulator → ℕ → Bool → SwitchingPlan
switching_plan_of g number opens =
    record {
      network = network_of g;
      n_breakers = breaker_count g.n_breakers;
      breaker_id = number;
      «open» = opens;
      dt_ms = time_step_ms g;
      switching_time_ms = duration_ms g ⊗ switching_part;
    }

abbrev pub switch_setting_with : SwitchingPlan → SwitchSetting
switch_setting_with p =
    record {
      stations = station_count p.network.n_stations;
      cables = cable_count p.network.n_cables;
      breakers = breaker_count p.n_breakers;
      number = p.breaker_id;
      opens = p.«open»;
      dt = p.dt_ms;
      switching = p.switching_time_ms;
      rk4 = λ s. rk4_step p.network no_drain s (p.dt_ms ⊗ milli);
    }

unfoldable pub switching_plan_step : SwitchingPlan → ℕ → SwitchingVariables → SwitchingVariables
switching_plan_step p = switch_body (switch_setting_with p)
