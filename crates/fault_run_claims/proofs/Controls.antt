-- Worked examples of the definitions: they are believed, so a wrong clause need break no other proof. The answers were written by hand from document 01 and
-- the published Rust.
use mathlib.Core.Path.{◌≡◌, refl}
use mathlib.Core.Bool.{Bool, true, false}
use mathlib.Core.List.{List, [], ◌∷◌}
use Prim.Native.Nat.{ℕ}
use lib.Ieee.{Float, of_bits, of_int, round, mul, div, lt, le, eq, is_nan}
use Rattle.lists.specs.Tables.{tab, blank, padded}
use Rattle.float64.specs.Constants.{nought, decimal}
use Rattle.float64.specs.Choice.{max_of}
use Rattle.ranges.specs.Ranges.{real_in, whole_in}
use Rattle.grid.specs.Simulator.{blank_cable, blank_breaker}
use Rattle.grid.specs.declared.parts.ConverterTopology.TheVariants.{Lcc}
use Rattle.grid.specs.declared.parts.DcFaultType.TheVariants.{PoleToGround}
use Rattle.grid.specs.declared.parts.ConverterStation.{ConverterStation}
use Rattle.grid.specs.declared.parts.DcFaultEvent.{DcFaultEvent}
use Rattle.grid.specs.declared.simulator.DcSwitchingSimulator.{DcSwitchingSimulator}
use Rattle.timing.specs.Steps.{rounded_up, steps_of, count_below, records_of}
use Rattle.part_checks.specs.PartChecks.{topology_ok, station_ok, cable_ok, breaker_type_ok, breaker_ok, fault_ok}
use Rattle.rule_tests.specs.Rules.{too_many_parts, time_outside, too_many_steps, station_outside, cable_outside, breaker_outside}
use Rattle.rules.specs.Studies.{first, broken, fault_refusal}
use Rattle.portions.specs.declared.Stop.{Stop}
use Rattle.portions.specs.declared.Stop.TheVariants.{Finished, Spent, Full, Refused}
use Rattle.portions.specs.Stopping.{joined, advance, answer_of, memory_of}
use Rattle.portions.specs.Calls.{Called, Chain, handed}
use Rattle.state_derivatives.specs.declared.state.DcTransientState.{DcTransientState}
use Rattle.fault_plan.specs.declared.variables.FaultVariables.{FaultVariables}
use Rattle.fault_plan.specs.Fault.{before_inception, body, fault_body, before_loop, fault_after}
use Rattle.records.specs.Records.{record_with}
use Rattle.runs.specs.declared.result.DcTransientResult.{DcTransientResult}
use Rattle.runs.specs.Runs.{states_after, InPortions}
use Rattle.fault_runs.specs.declared.fault_run.FaultRun.{FaultRun}
use Rattle.runs.specs.declared.stepping.Advanced.{Advanced}
use Rattle.fault_runs.specs.FaultRuns.{fault_run_refused, next_fault_run, fault_records, fault_stepper, fault_run_after, started_fault_run, blank_fault_run, advanced_fault_run, fault_figures}
use Rattle.fault_run_claims.specs.Claims.{fault_run}
use Rattle.fault_run_claims.proofs.Claims.{fault_run_claims}

whole : ℕ → Float
whole n = decimal n 1

station : ℕ → ConverterStation
station kv = record { id = 0; topology = Lcc; v_dc_rated_kv = whole kv; p_rated_mw = nought; x_transformer_pu = nought; scr = nought; control_angle_deg = nought; x_commutation_pu = nought; arm_inductance_mh = nought; sm_capacitance_uf = nought }

-- 100 and 200 kV, a cable and two breakers, in arrays that hold more
grid : (dt duration : ℕ) → DcSwitchingSimulator
grid dt duration =
    record {
      stations = station 100 ∷ station 200 ∷ station 300 ∷ [];
      cables = blank_cable ∷ blank_cable ∷ [];
      breakers = blank_breaker ∷ blank_breaker ∷ blank_breaker ∷ [];
      n_stations = 2;
      n_cables = 1;
      n_breakers = 2;
      dt_us = whole dt;
      duration_ms = whole duration;
    }

-- ---- a state: time, fault current, two voltages, two station currents, the cable's current, a breaker closed and one open

state : ℕ → DcTransientState
state time =
    record {
      time_ms = whole time;
      y = whole 3 ∷ whole 4 ∷ whole 7 ∷ whole 90 ∷ [];
      station_currents_ka = whole 5 ∷ whole 6 ∷ whole 91 ∷ [];
      fault_current_ka = whole 2;
      breaker_states = true ∷ false ∷ true ∷ [];
    }

-- ---- figures of a run of 3 steps whose variables have a clearing time of 14: the duration in its place only where the run is finished and the fault not cleared

variables : ℕ → Bool → FaultVariables
variables time cleared =
    record {
      state = state time;
      peak_fault_ka = whole 11;
      max_di_dt = whole 12;
      energy_mj = whole 13;
      fault_cleared = cleared;
      clearing_time_ms = whole 14;
      voltage_recovery_time_ms = whole 15;
      prev_fault_current_ka = whole 16;
      fault_active = cleared;
    }

-- it would begin at 100 s
fault : DcFaultEvent
fault = record { fault_type = PoleToGround; location_cable_id = 0; location_fraction = nought; fault_resistance = nought; inception_time_ms = whole 100000 }

run : DcSwitchingSimulator → (made time : ℕ) → Bool → FaultRun
run g made time cleared = record { grid = g; fault = fault; steps_made = made; variables = variables time cleared }

figures : ℕ → Bool → DcTransientResult
figures clearing cleared =
    record {
      peak_fault_current_ka = whole 11;
      fault_clearing_time_ms = whole clearing;
      energy_dissipated_mj = whole 13;
      voltage_recovery_time_ms = whole 15;
      max_di_dt = whole 12;
      fault_cleared = cleared;
    }

figures_are
    : (fault_figures (run (grid 1000 3) 3 2 false) ≡ figures 3 false)
    × (fault_figures (run (grid 1000 3) 3 2 true) ≡ figures 14 true)
    × (fault_figures (run (grid 1000 3) 2 1 false) ≡ figures 14 false)
unfolding fault_figures figures run variables grid whole steps_of rounded_up max_of is_nan lt of_bits round div
figures_are = (refl, refl, refl)

-- ---- advances of runs in which nothing moves but the time

-- each lent number is 50
numbers : ℕ → List Float
numbers n = blank n (whole 50)

answer : Stop → (steps records : ℕ) → FaultRun → Advanced FaultRun
answer stop steps records run = record { stop = stop; steps = steps; records = records; run = run }

-- 3 steps of 1 ms, after some of them; each is recorded, with 9 numbers
after : ℕ → FaultRun
after made = fault_run_after (grid 1000 3) fault made

-- the record at a time
at : ℕ → List Float → List Float
at time rest = whole time ∷ whole 0 ∷ whole 100 ∷ whole 200 ∷ whole 0 ∷ whole 0 ∷ whole 0 ∷ whole 1 ∷ whole 1 ∷ rest

-- two steps allowed and room for one record; one step allowed; the last step; none left; all in one call; no room: full, but spent where none is allowed
short-are
    : (started_fault_run (grid 1000 3) fault ≡ after 0)
    × (advanced_fault_run (after 0) 2 (numbers 10) ≡ answer Full 1 1 (after 1))
    × (memory_of fault_stepper (after 0) 2 (numbers 10) ≡ at 0 (numbers 1))
    × (advanced_fault_run (after 1) 1 (numbers 18) ≡ answer Spent 1 1 (after 2))
    × (memory_of fault_stepper (after 1) 1 (numbers 18) ≡ at 1 (numbers 9))
    × (advanced_fault_run (after 2) 9 (numbers 9) ≡ answer Finished 1 1 (after 3))
    × (memory_of fault_stepper (after 2) 9 (numbers 9) ≡ at 2 [])
    × (advanced_fault_run (after 3) 9 [] ≡ answer Finished 0 0 (after 3))
    × (advanced_fault_run (after 0) 3 (numbers 28) ≡ answer Finished 3 3 (after 3))
    × (memory_of fault_stepper (after 0) 3 (numbers 28) ≡ at 0 (at 1 (at 2 (numbers 1))))
    × (advanced_fault_run (after 0) 1 (numbers 8) ≡ answer Full 0 0 (after 0))
    × (advanced_fault_run (after 0) 0 (numbers 8) ≡ answer Spent 0 0 (after 0))
unfolding advanced_fault_run answer_of memory_of joined advance fault_run_refused started_fault_run fault_records next_fault_run record_with tab padded before_loop fault_after fault_body body before_inception fault_refusal first broken too_many_parts time_outside too_many_steps station_outside cable_outside breaker_outside topology_ok station_ok cable_ok breaker_type_ok breaker_ok fault_ok real_in whole_in steps_of rounded_up after at answer numbers fault grid station whole blank max_of is_nan le lt eq of_int of_bits round mul div
short-are = (refl, refl, refl, refl, refl, refl, refl, refl, refl, refl, refl, refl)

-- Three calls in a row are a list of which the claims speak; they hand out the records of all three steps.
calls : List (Called Float FaultRun)
calls =
    record { allowance = 2; lent = numbers 10; steps = 1; count = 1; stop = Full; kept = after 1; left = at 0 (numbers 1) }
    ∷ record { allowance = 1; lent = numbers 18; steps = 1; count = 1; stop = Spent; kept = after 2; left = at 1 (numbers 9) }
    ∷ record { allowance = 9; lent = numbers 9; steps = 1; count = 1; stop = Finished; kept = after 3; left = at 2 [] }
    ∷ []

accepted : fault_refusal (grid 1000 3) fault ≡ 0
unfolding fault_refusal first broken too_many_parts time_outside too_many_steps station_outside cable_outside breaker_outside topology_ok station_ok cable_ok breaker_type_ok breaker_ok fault_ok real_in whole_in steps_of rounded_up fault grid station whole max_of is_nan le lt eq of_int of_bits round div
accepted = refl

calls_chained : Chain fault_stepper (started_fault_run (grid 1000 3) fault) calls
unfolding answer_of memory_of joined advance fault_run_refused started_fault_run fault_records next_fault_run record_with tab padded before_loop fault_after fault_body body before_inception fault_refusal first broken too_many_parts time_outside too_many_steps station_outside cable_outside breaker_outside topology_ok station_ok cable_ok breaker_type_ok breaker_ok fault_ok real_in whole_in steps_of rounded_up calls after at numbers fault grid station whole blank max_of is_nan le lt eq of_int of_bits round mul div
calls_chained = (
  record { steps_is = refl; count_is = refl; stop_is = refl; kept_is = refl; left_is = refl },
  (
    record { steps_is = refl; count_is = refl; stop_is = refl; kept_is = refl; left_is = refl },
    (record { steps_is = refl; count_is = refl; stop_is = refl; kept_is = refl; left_is = refl }, tt),
  ),
)

calls_claimed : InPortions (fault_run (grid 1000 3) fault) calls
calls_claimed = fault_run_claims.in_portions (grid 1000 3) fault accepted calls calls_chained

calls_are : (handed 9 calls ≡ at 0 (at 1 (at 2 []))) × (joined (states_after (fault_run (grid 1000 3) fault) 3) ≡ at 0 (at 1 (at 2 [])))
unfolding handed states_after joined record_with tab padded before_loop fault_after fault_body body before_inception steps_of rounded_up calls after at numbers fault grid station whole blank max_of is_nan le lt of_int of_bits round mul div
calls_are = (refl, refl)

-- 10,000 steps of 1 ms, of which every second is recorded: 9,997 is not, 9,998 is, and so is 9,999, the last
late : (made time : ℕ) → FaultRun
late made time = run (grid 1000 10000) made time false

long-are
    : (advanced_fault_run (late 9997 97) 9 [] ≡ answer Full 1 0 (late 9998 9997))
    × (advanced_fault_run (late 9997 97) 1 [] ≡ answer Spent 1 0 (late 9998 9997))
    × (advanced_fault_run (late 9998 97) 9 (numbers 17) ≡ answer Full 1 1 (late 9999 9998))
    × (advanced_fault_run (late 9998 97) 9 (numbers 18) ≡ answer Finished 2 2 (late 10000 9999))
unfolding advanced_fault_run answer_of advance fault_run_refused fault_records next_fault_run fault_body body before_inception fault_refusal first broken too_many_parts time_outside too_many_steps station_outside cable_outside breaker_outside topology_ok station_ok cable_ok breaker_type_ok breaker_ok fault_ok real_in whole_in steps_of rounded_up late run variables state answer numbers fault grid station whole blank max_of is_nan le lt eq of_int of_bits round mul div
long-are = (refl, refl, refl, refl)

-- 01's example that is run: duration 100, dt 10
example_is : (steps_of (grid 10 100) ≡ 10000) × (records_of 10000 ≡ 5001)
unfolding grid whole steps_of count_below rounded_up max_of is_nan lt of_bits round div
example_is = (refl, refl)

-- refused by 11: 4 steps made of 3, with memory that is left as it was; a duration of 200 s, which starts no run
refused-are
    : (advanced_fault_run (run (grid 1000 3) 4 2 false) 9 (numbers 10) ≡ answer Refused 0 0 (run (grid 1000 3) 4 2 false))
    × (memory_of fault_stepper (run (grid 1000 3) 4 2 false) 9 (numbers 10) ≡ numbers 10)
    × (advanced_fault_run (run (grid 1000 200000) 0 0 false) 9 (numbers 10) ≡ answer Refused 0 0 (run (grid 1000 200000) 0 0 false))
    × (started_fault_run (grid 1000 200000) fault ≡ blank_fault_run)
    × (advanced_fault_run blank_fault_run 9 (numbers 10) ≡ answer Refused 0 0 blank_fault_run)
unfolding advanced_fault_run answer_of memory_of fault_run_refused started_fault_run blank_fault_run fault_refusal first broken too_many_parts time_outside too_many_steps station_outside cable_outside breaker_outside topology_ok station_ok cable_ok breaker_type_ok breaker_ok fault_ok real_in whole_in steps_of rounded_up run variables answer numbers fault grid station whole blank max_of is_nan le lt eq of_int of_bits round div
refused-are = (refl, refl, refl, refl, refl)

-- beside a refusal: all zero and false
blank_is
    : (fault_figures blank_fault_run ≡ record { peak_fault_current_ka = whole 0; fault_clearing_time_ms = whole 0; energy_dissipated_mj = whole 0; voltage_recovery_time_ms = whole 0; max_di_dt = whole 0; fault_cleared = false })
    × (blank_fault_run.steps_made ≡ 0)
    × (blank_fault_run.fault ≡ record { fault_type = PoleToGround; location_cable_id = 0; location_fraction = whole 0; fault_resistance = whole 0; inception_time_ms = whole 0 })
    × (blank_fault_run.variables.prev_fault_current_ka ≡ whole 0)
    × (blank_fault_run.variables.fault_active ≡ false)
unfolding fault_figures blank_fault_run whole steps_of rounded_up max_of is_nan lt of_bits round div
blank_is = (refl, refl, refl, refl, refl)
