-- Steps of a fault run that change no voltage, no current of a cable or a station and no breaker. The code tests for them, and makes them without touching an
-- array. Definitions only: Claims says that such a step is 000's.
use Rattle.std.specs.Prelude.{ℕ, Bool, not, ◌&&◌, ◌||◌, cond}
use Rattle.std.specs.Float.Ieee.{lt, le}
use Rattle.lists.specs.Scans.{each}
use Rattle.float64.specs.Arithmetic.{of}
use Rattle.network.specs.Network.{station_count}
use Rattle.run_start.specs.Start.{time_at}
use Rattle.fault_current.specs.Current.{decayed_of}
use Rattle.fault_plan.specs.declared.variables.FaultVariables.{FaultVariables}
use Rattle.fault_plan.specs.declared.plan.FaultConstants.{FaultConstants}
use Rattle.fault_plan.specs.declared.plan.FaultPlan.{FaultPlan}
use Rattle.fault_plan.specs.Fault.{timed, all_recovered}
use Rattle.fault_plan.specs.Plans.{plan_setting}

-- before inception: neither cleared nor active at the step
abbrev pub waits_by : FaultConstants → ℕ → FaultVariables → Bool
waits_by k step v = not (v.fault_cleared || v.fault_active || le k.circuit.inception_time_ms (time_at k.dt_ms step))

-- after clearing: no voltage is below its rated one, so none moves, and the time of recovery stays
unfoldable pub rests_by : FaultPlan → FaultVariables → Bool
rests_by p v =
    v.fault_cleared
    && each (station_count p.constants.n_stations) (λ i. not (lt (of v.state.y i) (of p.rated_kv i)))
    && not (all_recovered (plan_setting p) v.state.y && le p.constants.duration_ms v.voltage_recovery_time_ms)

-- what such a step leaves: its time, whether the fault is active, and after clearing what is left of the current
unfoldable pub quiet_step : FaultConstants → ℕ → FaultVariables → FaultVariables
quiet_step k step v =
    let t = time_at k.dt_ms step in
    timed
    t
    (cond v.fault_cleared (decayed_of k.circuit v.prev_fault_current_ka v.clearing_time_ms t) v.state.fault_current_ka)
    (v.fault_active || le k.circuit.inception_time_ms t)
    v
