-- What a sweep keeps of its open case, and what a step makes of it, document 01.7. Definitions only.
use Rattle.std.specs.Prelude.{ℕ, zero, suc, Bool, false, not, ◌&&◌, ◌||◌, cond, leb, Float}
use Rattle.float64.specs.Constants.{nought}
use Rattle.grid.specs.declared.parts.DcFaultEvent.{DcFaultEvent}
use Rattle.grid.specs.declared.simulator.DcSwitchingSimulator.{DcSwitchingSimulator}
use Rattle.detection.specs.Detection.{detected}
use Rattle.fault_plan.specs.declared.variables.FaultVariables.{FaultVariables}
use Rattle.fault_plan.specs.Fault.{fault_body, fresh_variables, before_loop}
use Rattle.runs.specs.Blank.{blank_state}
use Rattle.case_reasons.specs.declared.reasons.CaseOutcome.{CaseOutcome}
use Rattle.case_steps.specs.declared.open_case.OpenCase.{OpenCase}

-- "start values where no step is made (000's variables as before its loop, the rest zeros and no)"
abbrev pub start_case : DcSwitchingSimulator → OpenCase
start_case g = record { variables = before_loop g; detected = false; clearing_current_ka = nought }

-- "or no case is left (all of these zeros and no)"
abbrev pub no_case : OpenCase
no_case = record { variables = fresh_variables blank_state nought; detected = false; clearing_current_ka = nought }

-- what the reasons and the row are read from
abbrev pub outcome_in : OpenCase → CaseOutcome
outcome_in c =
    record {
      cleared = c.variables.fault_cleared;
      clearing_current_ka = c.clearing_current_ka;
      energy_mj = c.variables.energy_mj;
      peak_fault_ka = c.variables.peak_fault_ka;
      detected = c.detected;
    }

-- reason 8 counts a step: it is numbered 1 or more, and the fault is not cleared before it
abbrev pub counts_at : ℕ → FaultVariables → Bool
counts_at step before = leb 1 step && not before.fault_cleared

-- the clearing-step current after a step: that step's, if the fault is cleared in it, and else the one from before
abbrev pub clearing_after : (cleared_before : Bool) → FaultVariables → (before : Float) → Float
clearing_after cleared_before after before = cond (not cleared_before && after.fault_cleared) after.state.fault_current_ka before

-- a step that leads from some variables to others, where `shows` says whether it is detected
abbrev pub stepped : (shows : Bool) → ℕ → OpenCase → FaultVariables → OpenCase
stepped shows step c after =
    record {
      variables = after;
      detected = c.detected || (counts_at step c.variables && shows);
      clearing_current_ka = clearing_after c.variables.fault_cleared after c.clearing_current_ka;
    }

-- step number `step` of the case of a fault
unfoldable pub case_step : DcSwitchingSimulator → DcFaultEvent → ℕ → OpenCase → OpenCase
case_step g f step c =
    let after = fault_body g f step c.variables in
    stepped (detected g after.state c.variables.state) step c after

-- so many steps, from a number on
unfoldable pub case_from : DcSwitchingSimulator → DcFaultEvent → ℕ → OpenCase → ℕ → OpenCase
case_from g f first c zero = c
case_from g f first c (suc n) = case_from g f (suc first) (case_step g f first c) n
