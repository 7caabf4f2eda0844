-- `detected_steps` meets its contract: the steps that are left lead from the variables, with a step detected, to where all of them lead. Assumes nothing.
use lib.Ieee.{Float}
use Rattle.fault_plan.specs.declared.variables.FaultVariables.{FaultVariables}
use Rattle.case_steps.specs.declared.open_case.OpenCase.{OpenCase}
use Rattle.case_steps.specs.Plans.{plan_case_from}
use Prim.Native.Nat.{◌-◌}
use mathlib.Core.Bool.{true}
use mathlib.Core.Path.{◌≡◌}
use Rattle.case_steps.proofs.steps.detected_steps.Given as goal

abbrev pub with : FaultVariables → Float → OpenCase
with v current = record { variables = v; detected = true; clearing_current_ka = current }

abbrev pub invariant-loop-step : goal.invariant-loop-step
invariant-loop-step l =
    plan_case_from l.plan l.step (with l.v l.clearing_current_ka) (l.end - l.step) ≡ plan_case_from l.plan l.first (with l.initial.v l.initial.clearing_current_ka) (l.end - l.first)
