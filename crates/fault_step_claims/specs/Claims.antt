-- What a reader expects beside the definitions. The proofs are in proofs/Claims.antt.
use Rattle.std.specs.Prelude.{ℕ, ◌+◌, ◌≤◌, ◌≡◌, true, false}
use Rattle.std.specs.Float.Ieee.{le}
use Rattle.float64.specs.Arithmetic.{of}
use Rattle.grid.specs.declared.parts.DcFaultEvent.{DcFaultEvent}
use Rattle.grid.specs.declared.simulator.DcSwitchingSimulator.{DcSwitchingSimulator}
use Rattle.timing.specs.Steps.{time_of_step}
use Rattle.fault_plan.specs.declared.variables.FaultVariables.{FaultVariables}
use Rattle.fault_plan.specs.declared.plan.FaultPlan.{FaultPlan}
use Rattle.fault_plan.specs.Fault.{fault_body}
use Rattle.fault_plan.specs.Plans.{plan_of, plan_step}
use Rattle.fault_plan.specs.Quiet.{waits_by, rests_by, quiet_step}

-- What is worked out once for a run changes no step, and neither does making a step without touching an array.
pub record PlanClaims : Type 0 where
  pub fault : (g : DcSwitchingSimulator) (f : DcFaultEvent) → g.n_stations ≤ 32 → g.n_cables ≤ 64
      → (step : ℕ) (v : FaultVariables) → plan_step (plan_of g f) step v ≡ fault_body g f step v
  -- a quiet step is the plan's, before inception and at rest; and at rest it stays
  pub waiting : (p : FaultPlan) (step : ℕ) (v : FaultVariables) → waits_by p.constants step v ≡ true → quiet_step p.constants step v ≡ plan_step p step v
  pub resting : (p : FaultPlan) (step : ℕ) (v : FaultVariables) → rests_by p v ≡ true → quiet_step p.constants step v ≡ plan_step p step v
  pub still_resting : (p : FaultPlan) (step : ℕ) (v : FaultVariables) → rests_by p v ≡ true → rests_by p (plan_step p step v) ≡ true

-- what no step changes after clearing
pub record Stays (g : DcSwitchingSimulator) (v w : FaultVariables) : Type 0 where
  pub cable_currents : (k : ℕ) → of w.state.y (g.n_stations + k) ≡ of v.state.y (g.n_stations + k)
  pub station_currents : w.state.station_currents_ka ≡ v.state.station_currents_ka
  pub breakers : w.state.breaker_states ≡ v.state.breaker_states
  pub peak : w.peak_fault_ka ≡ v.peak_fault_ka
  pub largest_di_dt : w.max_di_dt ≡ v.max_di_dt
  pub energy : w.energy_mj ≡ v.energy_mj
  pub clearing_time : w.clearing_time_ms ≡ v.clearing_time_ms
  pub cleared_current : w.prev_fault_current_ka ≡ v.prev_fault_current_ka
  pub cleared : w.fault_cleared ≡ true

pub record StepClaims : Type 0 where
  -- the time of a step is its number times dt, whatever was before it
  pub fault_time : (g : DcSwitchingSimulator) (f : DcFaultEvent) (step : ℕ) (v : FaultVariables) → (fault_body g f step v).state.time_ms ≡ time_of_step g step
  -- "Before inception .. no RK4 step is made": voltages and currents stay
  pub before_inception_lem : (g : DcSwitchingSimulator) (f : DcFaultEvent) (step : ℕ) (v : FaultVariables) → v.fault_active ≡ false → v.fault_cleared ≡ false
      → le f.inception_time_ms (time_of_step g step) ≡ false → (fault_body g f step v).state.y ≡ v.state.y
  -- "and after clearing": the currents of cables and stations stay, and so do the peak, the energy, the clearing time and the current that was cleared
  pub after_clearing_lem : (g : DcSwitchingSimulator) (f : DcFaultEvent) (step : ℕ) (v : FaultVariables) → v.fault_cleared ≡ true → Stays g v (fault_body g f step v)
