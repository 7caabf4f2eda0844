-- Worked examples of the definitions: they are believed, so a wrong clause need break no other proof. The answers were written by hand from document 01.
use mathlib.Core.Path.{◌≡◌, refl}
use mathlib.Core.Bool.{Bool, true, false}
use mathlib.Core.List.{[]}
use Prim.Native.Nat.{ℕ}
use lib.ListN.{replicate}
use lib.Ieee.{Float}
use Rattle.lists.specs.Tables.{blank}
use Rattle.float64.specs.Constants.{nought, decimal}
use Rattle.grid.specs.declared.simulator.DcSwitchingSimulator.{DcSwitchingSimulator}
use Rattle.fault_plan.specs.declared.variables.FaultVariables.{FaultVariables}
use Rattle.fault_plan.specs.Fault.{before_loop}
use Rattle.case_steps.specs.declared.open_case.OpenCase.{OpenCase}
use Rattle.case_steps.specs.OpenCases.{start_case, no_case, outcome_in, counts_at, stepped}

whole : ℕ → Float
whole n = decimal n 1

-- the initial values of 000's variables and nothing else; all zero and false
started : (g : DcSwitchingSimulator) → ((start_case g).variables ≡ before_loop g) × ((start_case g).detected ≡ false) × ((start_case g).clearing_current_ka ≡ nought)
started g = (refl, refl, refl)

none_left
    : (no_case.variables.state.y ≡ replicate 96 nought)
    × (no_case.variables.state.station_currents_ka ≡ replicate 32 nought)
    × (no_case.variables.state.breaker_states ≡ replicate 32 false)
    × (no_case.variables.clearing_time_ms ≡ nought)
    × (no_case.variables.voltage_recovery_time_ms ≡ nought)
    × (no_case.variables.fault_cleared ≡ false)
    × (no_case.detected ≡ false)
    × (no_case.clearing_current_ka ≡ nought)
unfolding blank
none_left = (refl, refl, refl, refl, refl, refl, refl, refl)

-- ---- a step

variables : (cleared : Bool) (current : ℕ) → FaultVariables
variables cleared current =
    record {
      state = record { time_ms = whole 1; y = []; station_currents_ka = []; fault_current_ka = whole current; breaker_states = [] };
      peak_fault_ka = whole 11;
      max_di_dt = whole 12;
      energy_mj = whole 13;
      fault_cleared = cleared;
      clearing_time_ms = whole 14;
      voltage_recovery_time_ms = whole 15;
      prev_fault_current_ka = whole 16;
      fault_active = false;
    }

kept : (cleared : Bool) (current : ℕ) (detected : Bool) (clearing : ℕ) → OpenCase
kept cleared current detected clearing = record { variables = variables cleared current; detected = detected; clearing_current_ka = whole clearing }

-- reason 8 counts from step 1 up to the clearing one, before which the fault is not cleared
counted : (counts_at 0 (variables false 2) ≡ false) × (counts_at 1 (variables false 2) ≡ true) × (counts_at 9 (variables false 2) ≡ true) × (counts_at 9 (variables true 2) ≡ false)
unfolding variables
counted = (refl, refl, refl, refl)

-- Steps that show a fault, from 2 kA to 3: step 0; step 1; the clearing step, whose current is kept; a step after it. A step that shows none, once one has been detected.
steps_are
    : (stepped true 0 (kept false 2 false 0) (variables false 3) ≡ kept false 3 false 0)
    × (stepped true 1 (kept false 2 false 0) (variables false 3) ≡ kept false 3 true 0)
    × (stepped true 5 (kept false 2 false 0) (variables true 3) ≡ kept true 3 true 3)
    × (stepped true 6 (kept true 2 false 2) (variables true 3) ≡ kept true 3 false 2)
    × (stepped false 7 (kept true 2 true 2) (variables true 3) ≡ kept true 3 true 2)
unfolding kept variables
steps_are = (refl, refl, refl, refl, refl)

outcome_is : outcome_in (kept true 3 false 2) ≡ record { cleared = true; clearing_current_ka = whole 2; energy_mj = whole 13; peak_fault_ka = whole 11; detected = false }
unfolding kept variables
outcome_is = refl
