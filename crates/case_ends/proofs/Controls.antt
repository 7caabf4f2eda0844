-- Worked examples of the definitions: they are believed, so a wrong clause need break no other proof. The answers were worked out by another program in doubles. Assumes nothing.
use Prim.Native.Nat.{ℕ, ◌^◌}
use mathlib.Core.Path.{◌≡◌, refl}
use mathlib.Core.Bool.{Bool, true, false}
use mathlib.Core.List.{[], ◌∷◌}
use lib.Ieee.{Float, binary64, of_bits, of_int, round, neg, add, sub, mul, div, lt, le, eq, is_nan}
use Rattle.float64.specs.Constants.{nought, decimal}
use Rattle.float64.specs.Choice.{max_of, abs_of}
use Rattle.elementary.specs.Exponential.{E, terms, squared}
use Rattle.fault_circuit.specs.declared.circuit.FaultCircuit.{FaultCircuit}
use Rattle.fault_circuit.specs.declared.circuit.Response.TheVariants.{Critical}
use Rattle.fault_circuit.specs.Circuit.{type_factor}
use Rattle.fault_current.specs.Current.{amperes_by, current_by}
use Rattle.detection.specs.Detection.{shown_by, detected_by}
use Rattle.fault_plan.specs.declared.plan.FaultPlan.{FaultPlan}
use Rattle.fault_plan.specs.Fault.{body, while_faulted, before_inception}
use Rattle.fault_plan.specs.Plans.{plan_step}
use Rattle.fault_window.specs.Window.{until, window_of}
use Rattle.fault_sums.specs.Sums.{sums_from}
use Rattle.case_reasons.specs.declared.reasons.CaseOutcome.{CaseOutcome}
use Rattle.case_steps.specs.declared.open_case.OpenCase.{OpenCase}
use Rattle.case_steps.specs.Plans.{plan_case_step, plan_case_from}
use Rattle.case_ends.specs.Ends.{window_by, end_by, site_of}

double : ℕ → Float
double n = of_bits binary64 n

-- from 0.3 ms on, with a resistance of 1.1 Ω in the fault and 0.37 Ω on the way, inside a converter
critical : FaultCircuit
critical =
    record {
      response = Critical (decimal 1234567 10) (decimal 123 10);
      resistance_factor = decimal 9 10;
      type_factor = decimal 7 10;
      decay_tau_s = decimal 1 1;
      inception_time_ms = decimal 3 10;
      r_total_ohm = decimal 37 100;
      r_fault_ohm = decimal 11 10;
    }

-- steps of 0.1 ms, breakers that clear 0.2 ms after inception, and so many stations, of which the first is rated 100.1 kV
plan : ℕ → FaultPlan
plan n =
    record {
      constants =
          record {
            n_stations = n;
            drain = record { from = 32; to = 32; resistance = decimal 1 1; fraction = nought };
            circuit = critical;
            dt_ms = decimal 1 10;
            duration_ms = decimal 9 10;
            breaker_clear_ms = decimal 2 10;
          };
      network = record { n_stations = n; n_cables = 0; from = []; to = []; resistance_ohm = []; inductance_h = []; capacitance_f = [] };
      rated_kv = decimal 1001 10 ∷ [];
    }

-- the first station is at 80.07 kV, which is less than 0.8 of its rated voltage
kept : (cleared active detected : Bool) → (peak energy clearing : Float) → OpenCase
kept cleared active shown peak energy clearing =
    record {
      variables =
          record {
            state = record { time_ms = nought; y = decimal 8007 100 ∷ []; station_currents_ka = []; fault_current_ka = nought; breaker_states = [] };
            peak_fault_ka = peak;
            max_di_dt = nought;
            energy_mj = energy;
            fault_cleared = cleared;
            clearing_time_ms = nought;
            voltage_recovery_time_ms = nought;
            prev_fault_current_ka = nought;
            fault_active = active;
          };
      detected = shown;
      clearing_current_ka = clearing;
    }

outcome : (cleared detected : Bool) → (peak energy clearing : Float) → CaseOutcome
outcome cleared shown peak energy clearing = record { cleared = cleared; clearing_current_ka = clearing; energy_mj = energy; peak_fault_ka = peak; detected = shown }

-- From its first step: steps 3, 4 and 5, of which the last clears, and nothing is detected where no station is looked at. A fault that is active already, of which two steps are made, from a
-- peak of 0.02 kA and 0.3 J on: steps 2, 3 and 4, of which none clears, so that the clearing current stays. A case that is cleared, whatever the window.
ends_are
    : (end_by (plan 0) 0 (window_by (plan 0) false 0 9) (kept false false false nought nought nought)
    ≡ outcome true false (double 0x3f8fc78c0d1b42a1) (double 0x3e67c3f00ee0c49c) (double 0x3f8fc78c0d1b42a1))
    × (end_by (plan 0) 2 (window_by (plan 0) true 2 5) (kept false true true (decimal 2 100) (decimal 3 (10 ^ 7)) (decimal 9 1))
    ≡ outcome false true (decimal 2 100) (double 0x3e94ba5bd6f9f30c) (decimal 9 1))
    × (end_by (plan 0) 7 (window_by (plan 0) true 7 9) (kept true true false (decimal 2 100) (decimal 3 (10 ^ 7)) (decimal 9 1))
    ≡ outcome true false (decimal 2 100) (decimal 3 (10 ^ 7)) (decimal 9 1))
unfolding critical plan kept outcome double end_by window_of until sums_from current_by amperes_by E terms squared plan_case_from plan_case_step plan_step body while_faulted before_inception detected_by shown_by max_of abs_of is_nan lt le eq of_bits of_int round neg add sub mul div
ends_are = (refl, refl, refl)

-- The three types at that place, whatever the type of the plan: half, whole and 0.7 of a current, and so a quarter, whole and about a half of the heat. The voltage shows in step 1.
site-is
    : site_of (plan 1) (window_by (plan 1) false 0 9) (kept false false false nought nought nought)
    ≡ record {
      to_ground = outcome true true (double 0x3f86b31ae4ca542a) (double 0x3e58401987584b3d) (double 0x3f86b31ae4ca542a);
      pole = outcome true true (double 0x3f96b31ae4ca542a) (double 0x3e78401987584b3d) (double 0x3f96b31ae4ca542a);
      internal = outcome true true (double 0x3f8fc78c0d1b42a1) (double 0x3e67c3f00ee0c49c) (double 0x3f8fc78c0d1b42a1);
    }
unfolding critical plan kept outcome double site_of end_by type_factor window_of until sums_from current_by amperes_by E terms squared plan_case_from plan_case_step plan_step body while_faulted before_inception detected_by shown_by max_of abs_of is_nan lt le eq of_bits of_int round neg add sub mul div
site-is = refl
