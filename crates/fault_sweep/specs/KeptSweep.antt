-- The kept sweep, document 01.7, from the listing's own definitions: nothing here knows of an advance. Definitions only.
use Rattle.std.specs.Prelude.{ℕ, ◌*◌, ◌/◌, ◌%◌, cond, eqb, ltb}
use Rattle.grid.specs.declared.parts.DcFaultEvent.{DcFaultEvent}
use Rattle.grid.specs.declared.parts.SweepOrder.{SweepOrder}
use Rattle.grid.specs.declared.simulator.DcSwitchingSimulator.{DcSwitchingSimulator}
use Rattle.timing.specs.Steps.{steps_of}
use Rattle.state_derivatives.specs.declared.state.DcTransientState.{DcTransientState}
use Rattle.power_flow.specs.declared.flow.DcGridSolution.{DcGridSolution}
use Rattle.fault_plan.specs.Fault.{fault_after}
use Rattle.runs.specs.Blank.{blank_state}
use Rattle.fault_cases.specs.Cases.{cases_of, fault_of}
use Rattle.case_listing.specs.Listing.{some_detected, clearing_current}
use Rattle.case_steps.specs.declared.open_case.OpenCase.{OpenCase}
use Rattle.case_steps.specs.OpenCases.{no_case}
use Rattle.fault_sweep.specs.declared.sweep.Sweep.{Sweep}

-- the case of a fault after n steps: "000's variables, the state of that step, whether a step that reason 8 counts has been detected, the clearing-step current"
abbrev pub case_after : DcSwitchingSimulator → DcFaultEvent → ℕ → OpenCase
case_after g f n = record { variables = fault_after g f n; detected = some_detected g f n; clearing_current_ka = clearing_current g f n }

module _ (g : DcSwitchingSimulator) (o : SweepOrder) (flow : DcGridSolution) where
  -- "the grid, the order, the flow's results, the case number, the steps made in the open case and that case after the last of them"
  abbrev pub kept_at : (k made : ℕ) → OpenCase → Sweep
  kept_at k made c = record { grid = g; order = o; flow = flow; case_number = k; steps_made = made; open_case = c }

  -- what is kept after t steps: case t / N is open, with t % N steps made, or no case is left
  unfoldable pub sweep_after : ℕ → Sweep
  sweep_after t =
      let N = steps_of g in
      cond (ltb t (N * cases_of g o)) (kept_at (t / N) (t % N) (case_after g (fault_of o (t / N)) (t % N))) (kept_at (cases_of g o) 0 no_case)

-- 01's "state of that step": zeros where no step is made. 000's variable `state` is the state of the last step, so one field is both.
abbrev pub state_of_step : Sweep → DcTransientState
state_of_step s = cond (eqb s.steps_made 0) blank_state s.open_case.variables.state
