-- `case_steps` meets its contract: the steps that are left lead from the open case to where all of them lead. Assumes nothing.
use Rattle.case_steps.specs.Plans.{plan_case_from}
use Prim.Native.Nat.{◌-◌}
use mathlib.Core.Path.{◌≡◌}
use Rattle.case_steps.proofs.steps.case_steps.Given as goal

abbrev pub invariant-loop-step : goal.invariant-loop-step
invariant-loop-step l = plan_case_from l.plan l.step l.c (l.end - l.step) ≡ plan_case_from l.plan l.first l.initial.c (l.end - l.first)
