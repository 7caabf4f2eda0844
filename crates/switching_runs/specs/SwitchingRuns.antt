-- Switching runs in portions, document 01.8: "000 as it is, in portions like a fault run". Definitions only.
use Rattle.std.specs.Prelude.{ℕ, suc, ◌≡◌, Bool, true, false, not, ◌||◌, cond, List, [], ◌∷◌, eqb, ltb, length, Float}
use Rattle.float64.specs.Constants.{nought}
use Rattle.grid.specs.declared.simulator.DcSwitchingSimulator.{DcSwitchingSimulator}
use Rattle.timing.specs.Steps.{steps_of, recorded, record_length}
use Rattle.rules.specs.Studies.{switching_refusal}
use Rattle.portions.specs.Stopping.{Stepper, answer_of}
use Rattle.switching_plan.specs.declared.plan.SwitchingPlan.{SwitchingPlan}
use Rattle.switching_plan.specs.declared.variables.SwitchingVariables.{SwitchingVariables}
use Rattle.switching_plan.specs.Switching.{switching_body, switching_after}
use Rattle.switching_plan.specs.Plans.{switching_plan_of, switching_plan_step}
use Rattle.switching_runs.specs.declared.switching_run.SwitchingRun.{SwitchingRun}
use Rattle.records.specs.Records.{record_of}
use Rattle.runs.specs.declared.result.DcTransientResult.{DcTransientResult}
use Rattle.runs.specs.declared.stepping.Advanced.{Advanced}
use Rattle.runs.specs.Kinds.{RunKind, counted_up}
use Rattle.runs.specs.Blank.{blank_grid, blank_state}

-- ---- one step of a kept run

-- 11
unfoldable pub switching_run_refused : SwitchingRun → Bool
switching_run_refused r = not (eqb (switching_refusal r.grid) 0) || ltb (steps_of r.grid) r.steps_made

unfoldable pub next_switching_run : SwitchingRun → SwitchingRun
next_switching_run r =
    record {
      grid = r.grid;
      breaker_id = r.breaker_id;
      «open» = r.«open»;
      steps_made = suc r.steps_made;
      variables = switching_body r.grid r.breaker_id r.«open» r.steps_made r.variables;
    }

abbrev pub switching_step_recorded : SwitchingRun → Bool
switching_step_recorded r = recorded (steps_of r.grid) r.steps_made

unfoldable pub switching_records : SwitchingRun → List (List Float)
switching_records r = cond (switching_step_recorded r) (record_of r.grid (next_switching_run r).variables.state ∷ []) []

abbrev pub switching_stepper : Stepper Float
switching_stepper =
    record {
      Kept = SwitchingRun;
      refused = switching_run_refused;
      size = λ r. record_length r.grid;
      ended = λ r. eqb r.steps_made (steps_of r.grid);
      wants_room = switching_step_recorded;
      items = switching_records;
      next = next_switching_run;
    }

-- what an advance reads of a switching run; its `run_stepper` is `switching_stepper`
abbrev pub switching_kind : RunKind SwitchingRun
switching_kind =
    record { refused = switching_run_refused; grid = λ r. r.grid; steps_made = λ r. r.steps_made; state = λ r. r.variables.state; next = next_switching_run }

-- the plan of a run, refused or not
abbrev pub switching_run_plan : SwitchingRun → SwitchingPlan
switching_run_plan r = switching_plan_of r.grid r.breaker_id r.«open»

-- the run after a step by any plan; the plan stays
unfoldable pub stepped_switching_run : SwitchingRun → SwitchingPlan → SwitchingRun
stepped_switching_run r p =
    record {
      grid = r.grid;
      breaker_id = r.breaker_id;
      «open» = r.«open»;
      steps_made = counted_up r.steps_made;
      variables = switching_plan_step p r.steps_made r.variables;
    }

-- steps by the plan are the run's own
abbrev pub SwitchingPlanned : SwitchingRun → SwitchingPlan → Type 0
SwitchingPlanned r p = (j : ℕ) (w : SwitchingVariables) → switching_plan_step p j w ≡ switching_body r.grid r.breaker_id r.«open» j w

-- ---- what the functions return

-- beside a refusal: all zero and false
unfoldable pub blank_switching_run : SwitchingRun
blank_switching_run =
    record { grid = blank_grid; breaker_id = 0; «open» = false; steps_made = 0; variables = record { state = blank_state; switched = false } }

-- the run after t steps
abbrev pub switching_run_after : DcSwitchingSimulator → ℕ → Bool → ℕ → SwitchingRun
switching_run_after g number opens t = record { grid = g; breaker_id = number; «open» = opens; steps_made = t; variables = switching_after g number opens t }

-- what `simulate_switching` starts: it "takes any breaker number"
unfoldable pub started_switching_run : DcSwitchingSimulator → ℕ → Bool → SwitchingRun
started_switching_run g number opens = cond (eqb (switching_refusal g) 0) (switching_run_after g number opens 0) blank_switching_run

-- what `advance` returns; the lent memory after it is `memory_of switching_stepper`
unfoldable pub advanced_switching_run : SwitchingRun → (allowance : ℕ) → List Float → Advanced SwitchingRun
advanced_switching_run r allowance lent =
    let x = answer_of switching_stepper r allowance lent in
    record { stop = x.stop; steps = x.steps; records = length x.items; run = x.kept }

-- ---- figures: 000's results, which no step changes

abbrev pub switching_results : DcTransientResult
switching_results =
    record {
      peak_fault_current_ka = nought;
      fault_clearing_time_ms = nought;
      energy_dissipated_mj = nought;
      voltage_recovery_time_ms = nought;
      max_di_dt = nought;
      fault_cleared = true;
    }
