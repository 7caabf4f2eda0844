-- Worked examples of the definitions: they are believed, so a wrong clause need break no other proof. The answers were written by hand from document 01 and
-- the published Rust.
use mathlib.Core.Path.{◌≡◌, refl}
use mathlib.Core.Bool.{true, false}
use mathlib.Core.List.{List, [], ◌∷◌}
use Prim.Native.Nat.{ℕ}
use lib.Ieee.{Float, of_bits, of_int, round, add, sub, mul, div, neg, lt, le, eq, is_nan}
use Rattle.lists.specs.Tables.{tab, blank, padded, over}
use Rattle.float64.specs.Constants.{nought, decimal}
use Rattle.float64.specs.Choice.{max_of}
use Rattle.ranges.specs.Ranges.{real_in, whole_in}
use Rattle.grid.specs.Simulator.{blank_breaker}
use Rattle.grid.specs.declared.parts.ConverterTopology.TheVariants.{Lcc}
use Rattle.grid.specs.declared.parts.ConverterStation.{ConverterStation}
use Rattle.grid.specs.declared.simulator.DcSwitchingSimulator.{DcSwitchingSimulator}
use Rattle.timing.specs.Steps.{rounded_up, steps_of}
use Rattle.part_checks.specs.PartChecks.{topology_ok, station_ok, cable_ok, breaker_type_ok, breaker_ok}
use Rattle.rule_tests.specs.Rules.{too_many_parts, time_outside, too_many_steps, station_outside, cable_outside, breaker_outside}
use Rattle.rules.specs.Studies.{first, broken, switching_refusal}
use Rattle.portions.specs.Stopping.{joined, advance, answer_of, memory_of}
use Rattle.network.specs.Capacitance.{own_capacitance, joined_capacitance}
use Rattle.state_derivatives.specs.Derivatives.{derivatives}
use Rattle.transient.specs.Rk4.{ahead, blended, rk4, raised, new_state, step_by}
use Rattle.switching_plan.specs.Switching.{operated_state, switch_body, switching_body, before_switching, switching_after}
use Rattle.records.specs.Records.{record_with}
use Rattle.switching_runs.specs.SwitchingRuns.{switching_run_refused, next_switching_run, switching_records, switching_stepper, switching_run_after, started_switching_run, blank_switching_run}

whole : ℕ → Float
whole n = decimal n 1

-- each lent number is 50
numbers : ℕ → List Float
numbers n = blank n (whole 50)

station : ConverterStation
station = record { id = 0; topology = Lcc; v_dc_rated_kv = whole 100; p_rated_mw = nought; x_transformer_pu = nought; scr = nought; control_angle_deg = nought; x_commutation_pu = nought; arm_inductance_mh = nought; sm_capacitance_uf = nought }

-- one station of 100 kV, no cable and one breaker, 2 steps of 1 ms, the operation in the second

alone : DcSwitchingSimulator
alone =
    record {
      stations = station ∷ [];
      cables = [];
      breakers = blank_breaker ∷ [];
      n_stations = 1;
      n_cables = 0;
      n_breakers = 1;
      dt_us = whole 1000;
      duration_ms = whole 2;
    }

switching-are
    : (started_switching_run alone 7 true ≡ switching_run_after alone 7 true 0)
    × (memory_of switching_stepper (switching_run_after alone 7 true 0) 9 (numbers 11) ≡ whole 0 ∷ whole 0 ∷ whole 100 ∷ whole 0 ∷ whole 0 ∷ whole 1 ∷ whole 0 ∷ whole 100 ∷ whole 0 ∷ whole 0 ∷ numbers 1)
    × (memory_of switching_stepper (switching_run_after alone 7 false 0) 1 (numbers 5) ≡ whole 0 ∷ whole 0 ∷ whole 100 ∷ whole 0 ∷ whole 1 ∷ [])
unfolding answer_of memory_of joined advance switching_run_refused started_switching_run switching_records next_switching_run record_with tab padded over before_switching switching_after switching_body switch_body operated_state derivatives ahead blended rk4 raised new_state step_by own_capacitance joined_capacitance switching_refusal first broken too_many_parts time_outside too_many_steps station_outside cable_outside breaker_outside topology_ok station_ok cable_ok breaker_type_ok breaker_ok real_in whole_in steps_of rounded_up alone numbers station whole blank max_of is_nan le lt eq of_int of_bits round neg add sub mul div
switching-are = (refl, refl, refl)

-- beside a refusal: all zero and false
blank_is
    : (blank_switching_run.breaker_id ≡ 0)
    × (blank_switching_run.«open» ≡ false)
    × (blank_switching_run.steps_made ≡ 0)
    × (blank_switching_run.variables.switched ≡ false)
unfolding blank_switching_run
blank_is = (refl, refl, refl, refl)
