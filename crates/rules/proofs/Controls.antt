-- Worked examples of the definitions: they are believed, so a wrong clause need break no other proof. The answers were written by hand from document 01.
use mathlib.Core.Path.{◌≡◌, refl}
use Rattle.std.specs.Prelude.{Ok, Err}
use mathlib.Core.Bool.{Bool, true, false, ◌||◌}
use mathlib.Core.List.{[], ◌∷◌, map}
use Prim.Native.Nat.{ℕ}
use Rattle.std.specs.Option.{unwrap_or, option_and_then}
use lib.Dec.{eqb}
use lib.Ieee.{of_bits, of_int, round, div, lt, le, eq, is_nan}
use Rattle.float64.specs.Constants.{nought, decimal}
use Rattle.float64.specs.Choice.{max_of}
use Rattle.ranges.specs.Ranges.{real_in, whole_in}
use Rattle.part_checks.specs.PartChecks.{topology_ok, station_ok, cable_ok, breaker_type_ok, breaker_ok, fault_ok, order_ok}
use Rattle.grid.specs.Simulator.{blank_station, blank_cable, blank_breaker, new_simulator, with_station, with_cable, with_breaker, kept_time_step, kept_duration}
use Rattle.timing.specs.Steps.{rounded_up, steps_of}
use Rattle.rule_tests.specs.Rules.{too_many_parts, time_outside, too_many_steps, station_outside, cable_outside, breaker_outside}
use Rattle.rules.specs.Studies.{order, first, broken, flow_order, detection_order, switching_order, fault_order, flow_refusal, detection_refusal, switching_refusal, fault_refusal, sweep_refusal, point_refusal, rule_number, number_of}
use Rattle.grid.specs.declared.parts.ConverterTopology.TheVariants.{Mmc}
use Rattle.grid.specs.declared.parts.DcFaultType.TheVariants.{PoleToGround}
use Rattle.grid.specs.declared.parts.ConverterStation.{ConverterStation}
use Rattle.grid.specs.declared.parts.DcFaultEvent.{DcFaultEvent}
use Rattle.grid.specs.declared.parts.SweepOrder.{SweepOrder}
use Rattle.grid.specs.declared.simulator.DcSwitchingSimulator.{DcSwitchingSimulator}
use Rattle.rules.specs.declared.studies.Refusal.TheVariants.{NoStation, NoCable, TooManyParts, TimeOutside, TooManySteps, StationOutside, CableOutside, BreakerOutside, EventOutside, NotConverged}

-- the numbers of 01's table of refusals, from its first row on; 0 for what is accepted
numbers_are : (number_of (Ok true) ≡ 0) × (map (λ refusal. number_of {A = Bool} (Err refusal)) (NoStation ∷ NoCable ∷ TooManyParts ∷ TimeOutside ∷ TooManySteps ∷ StationOutside ∷ CableOutside ∷ BreakerOutside ∷ EventOutside ∷ NotConverged ∷ []) ≡ 1 ∷ 2 ∷ 3 ∷ 4 ∷ 5 ∷ 6 ∷ 7 ∷ 8 ∷ 9 ∷ 10 ∷ [])
unfolding number_of rule_number
numbers_are = (refl, refl)

-- the orders of 01, written out; detection checks what flow does
orders_are : (flow_order ≡ 3 ∷ 1 ∷ 6 ∷ 7 ∷ 8 ∷ []) × (detection_order ≡ flow_order) × (switching_order ≡ 3 ∷ 1 ∷ 4 ∷ 5 ∷ 6 ∷ 7 ∷ 8 ∷ []) × (fault_order ≡ 3 ∷ 1 ∷ 2 ∷ 4 ∷ 5 ∷ 6 ∷ 7 ∷ 8 ∷ 9 ∷ [])
orders_are = (refl, refl, refl, refl)

-- 3 before 1, and 0 where none applies
first_are : (first (λ k. eqb k 1 || eqb k 3) order ≡ 3) × (first (λ k. eqb k 9 || eqb k 10) order ≡ 9) × (first (λ k. false) order ≡ 0)
unfolding first
first_are = (refl, refl, refl)

-- ---- whole grids: a station of 100 kV, a cable and a breaker of nothing but zeros

station : ConverterStation
station = record { id = 0; topology = Mmc 65535; v_dc_rated_kv = decimal 100 1; p_rated_mw = nought; x_transformer_pu = nought; scr = nought; control_angle_deg = nought; x_commutation_pu = nought; arm_inductance_mh = nought; sm_capacitance_uf = nought }

none : DcSwitchingSimulator
none = new_simulator (decimal 10 1) (decimal 100 1)

some : DcSwitchingSimulator
some = unwrap_or (option_and_then (λ g. with_breaker g blank_breaker) (option_and_then (λ g. with_cable g blank_cable) (with_station none station))) none

many : DcSwitchingSimulator
many = record { stations = some.stations; cables = some.cables; breakers = some.breakers; n_stations = 0; n_cables = 0; n_breakers = 33; dt_us = some.dt_us; duration_ms = some.duration_ms }

fault : DcFaultEvent
fault = record { fault_type = PoleToGround; location_cable_id = 0; location_fraction = decimal 11 10; fault_resistance = nought; inception_time_ms = nought }

tenths : ℕ → ℕ → SweepOrder
tenths l h = record { fault_resistance = nought; inception_time_ms = nought; low_tenth = l; high_tenth = h }

refusals_are : (flow_refusal none ≡ 1) × (flow_refusal some ≡ 0) × (flow_refusal many ≡ 3) × (detection_refusal none ≡ 1) × (detection_refusal some ≡ 0) × (detection_refusal many ≡ 3) × (switching_refusal some ≡ 0) × (fault_refusal some fault ≡ 9) × (fault_refusal many fault ≡ 3)
    × (sweep_refusal some (tenths 0 10) ≡ 0) × (sweep_refusal some (tenths 4 3) ≡ 9) × (sweep_refusal some (tenths 0 11) ≡ 9) × (point_refusal station ≡ 0) × (point_refusal blank_station ≡ 6)
unfolding flow_refusal detection_refusal switching_refusal fault_refusal sweep_refusal point_refusal first broken too_many_parts time_outside too_many_steps station_outside cable_outside breaker_outside none some many fault tenths station steps_of new_simulator with_station with_cable with_breaker kept_time_step kept_duration real_in whole_in topology_ok station_ok cable_ok breaker_type_ok breaker_ok fault_ok order_ok le lt eq of_int of_bits round max_of is_nan div rounded_up
refusals_are = (refl, refl, refl, refl, refl, refl, refl, refl, refl, refl, refl, refl, refl, refl)
