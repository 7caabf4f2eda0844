-- What the code works out once for a run, and the setting that this gives. Definitions only: a caller needs Fault alone; Claims says that the steps are the same.
use Rattle.std.specs.Prelude.{ℕ}
use Rattle.float64.specs.Constants.{milli}
use Rattle.float64.specs.Arithmetic.{◌⊕◌, ◌⊗◌, of}
use Rattle.grid.specs.declared.parts.DcFaultEvent.{DcFaultEvent}
use Rattle.grid.specs.declared.simulator.DcSwitchingSimulator.{DcSwitchingSimulator}
use Rattle.timing.specs.Steps.{time_step_ms, duration_ms}
use Rattle.breaker_times.specs.Breakers.{fastest_of}
use Rattle.network.specs.Network.{network_of, drain_of, station_count}
use Rattle.transient.specs.Rk4.{rk4_step}
use Rattle.run_start.specs.Start.{rated_of}
use Rattle.fault_circuit.specs.Circuit.{circuit_of}
use Rattle.fault_current.specs.Current.{current_of, decayed_of}
use Rattle.fault_plan.specs.declared.variables.FaultVariables.{FaultVariables}
use Rattle.fault_plan.specs.declared.plan.FaultConstants.{FaultConstants}
use Rattle.fault_plan.specs.declared.plan.FaultPlan.{FaultPlan}
use Rattle.fault_plan.specs.Fault.{Setting, body}

unfoldable pub constants_of : DcSwitchingSimulator → DcFaultEvent → FaultConstants
constants_of g f =
    record {
      n_stations = station_count g.n_stations;
      drain = drain_of g f;
      circuit = circuit_of g f;
      dt_ms = time_step_ms g;
      duration_ms = duration_ms g;
      breaker_clear_ms = fastest_of g;
    }

-- of all faults on a grid the network and the rated voltages are the same
unfoldable pub plan_of : DcSwitchingSimulator → DcFaultEvent → FaultPlan
plan_of g f = record { constants = constants_of g f; network = network_of g; rated_kv = rated_of g }

abbrev pub plan_setting : FaultPlan → Setting
plan_setting p =
    record {
      stations = station_count p.constants.n_stations;
      rated = of p.rated_kv;
      dt = p.constants.dt_ms;
      duration = p.constants.duration_ms;
      clear = p.constants.breaker_clear_ms;
      inception = p.constants.circuit.inception_time_ms;
      resistance = p.constants.circuit.r_fault_ohm ⊕ p.constants.circuit.r_total_ohm;
      rk4 = λ s. rk4_step p.network p.constants.drain s (p.constants.dt_ms ⊗ milli);
      current = current_of p.constants.circuit;
      left = decayed_of p.constants.circuit;
    }

-- a step by a plan
unfoldable pub plan_step : FaultPlan → ℕ → FaultVariables → FaultVariables
plan_step p = body (plan_setting p)
