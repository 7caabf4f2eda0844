-- What document 01 says of E's argument: of an accepted fault it is never positive. `exponents` (fault_current/specs/Current) lists every argument. The proofs are in proofs/Claims.antt.
use Rattle.std.specs.Prelude.{ℕ, ◌<◌, ◌≤◌, ◌≡◌, Bool, true, ◌&&◌, Float}
use Rattle.std.specs.Float.Ieee.{le}
use Rattle.lists.specs.Scans.{every}
use Rattle.float64.specs.Constants.{nought, one}
use Rattle.elementary.specs.Exponential.{E}
use Rattle.ranges.specs.Ranges as range
use Rattle.ranges.specs.Ranges.{ends, real_in}
use Rattle.grid.specs.Simulator.{stations_of, cables_of}
use Rattle.grid.specs.declared.parts.DcFaultEvent.{DcFaultEvent}
use Rattle.grid.specs.declared.parts.SweepOrder.{SweepOrder}
use Rattle.grid.specs.declared.simulator.DcSwitchingSimulator.{DcSwitchingSimulator}
use Rattle.timing.specs.Steps.{time_of_step, steps_of, most_steps}
use Rattle.part_checks.specs.PartChecks.{station_ok, cable_ok}
use Rattle.rules.specs.Studies.{fault_refusal, sweep_refusal}
use Rattle.fault_circuit.specs.Circuit.{circuit_of}
use Rattle.fault_current.specs.Current.{exponents}

-- a time in milliseconds, from 0 to 1,000,000,000
abbrev pub is_time : Float → Bool
is_time t = real_in (ends 0 1000000000) t

-- "t is never positive", of each argument of E
abbrev pub never_positive : Float → Bool
never_positive x = le x nought

-- "and 0 ≤ E ≤ 1"
abbrev pub in_unit : Float → Bool
in_unit x = le nought (E x) && le (E x) one

pub record ExponentClaims : Type 0 where
  -- "For accepted input t is never positive, and 0 ≤ E ≤ 1": at any time, whatever double stands for the clearing time, a NaN and infinities too
  pub never_positive_lem : (g : DcSwitchingSimulator) (f : DcFaultEvent) → fault_refusal g f ≡ 0 → (clearing t : Float) → is_time t ≡ true → every never_positive (exponents (circuit_of g f) clearing t) ≡ true
  pub in_unit_lem : (g : DcSwitchingSimulator) (f : DcFaultEvent) → fault_refusal g f ≡ 0 → (clearing t : Float) → is_time t ≡ true → every in_unit (exponents (circuit_of g f) clearing t) ≡ true
  -- and so at every step of an accepted run, also of one put together by hand
  pub at_steps : (g : DcSwitchingSimulator) (f : DcFaultEvent) → fault_refusal g f ≡ 0 → (clearing : Float) (k : ℕ) → k < steps_of g → every never_positive (exponents (circuit_of g f) clearing (time_of_step g k)) ≡ true
  pub unit_at_steps : (g : DcSwitchingSimulator) (f : DcFaultEvent) → fault_refusal g f ≡ 0 → (clearing : Float) (k : ℕ) → k < steps_of g → every in_unit (exponents (circuit_of g f) clearing (time_of_step g k)) ≡ true

-- what of acceptance this rests on
pub record InRanges (g : DcSwitchingSimulator) (f : DcFaultEvent) : Type 0 where
  pub some_station : 0 < g.n_stations
  pub stations : g.n_stations ≤ 32
  pub some_cable : 0 < g.n_cables
  pub cables : g.n_cables ≤ 64
  pub time_step_lem : real_in range.time_step g.dt_us ≡ true
  pub few_steps : steps_of g ≤ most_steps
  pub stations_ok : every station_ok (stations_of g) ≡ true
  pub cables_ok : every cable_ok (cables_of g) ≡ true
  pub fraction : real_in range.fault_fraction f.location_fraction ≡ true
  pub inception : real_in range.inception_time f.inception_time_ms ≡ true

pub record InRangesClaims : Type 0 where
  pub of_fault : (g : DcSwitchingSimulator) (f : DcFaultEvent) → fault_refusal g f ≡ 0 → InRanges g f
  -- the faults of an accepted sweep too
  pub of_sweep : (g : DcSwitchingSimulator) (o : SweepOrder) (f : DcFaultEvent) → sweep_refusal g o ≡ 0 → real_in range.fault_fraction f.location_fraction ≡ true → f.inception_time_ms ≡ o.inception_time_ms → InRanges g f
  pub never_positive_lem : (g : DcSwitchingSimulator) (f : DcFaultEvent) → InRanges g f → (clearing t : Float) → is_time t ≡ true → every never_positive (exponents (circuit_of g f) clearing t) ≡ true
  pub step_time : (g : DcSwitchingSimulator) (f : DcFaultEvent) → InRanges g f → (k : ℕ) → k < steps_of g → is_time (time_of_step g k) ≡ true
