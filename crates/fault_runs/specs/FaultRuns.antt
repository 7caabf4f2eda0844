-- Fault runs in portions, document 01.5. Definitions only.
use Rattle.std.specs.Prelude.{ℕ, suc, ◌≡◌, Bool, true, false, not, ◌||◌, cond, List, [], ◌∷◌, eqb, ltb, length, Float}
use Rattle.float64.specs.Constants.{nought}
use Rattle.grid.specs.declared.parts.DcFaultType.TheVariants.{PoleToGround}
use Rattle.grid.specs.declared.parts.DcFaultEvent.{DcFaultEvent}
use Rattle.grid.specs.declared.simulator.DcSwitchingSimulator.{DcSwitchingSimulator}
use Rattle.timing.specs.Steps.{duration_ms, steps_of, counted_to, recorded, record_length}
use Rattle.rules.specs.Studies.{fault_refusal}
use Rattle.portions.specs.Stopping.{Stepper, answer_of}
use Rattle.fault_plan.specs.declared.variables.FaultVariables.{FaultVariables}
use Rattle.fault_plan.specs.Fault.{fault_body, fresh_variables, fault_after}
use Rattle.fault_plan.specs.Plans.{plan_of, plan_step}
use Rattle.fault_plan.specs.Quiet.{rests_by, quiet_step}
use Rattle.fault_runs.specs.declared.fault_run.FaultRun.{FaultRun}
use Rattle.fault_runs.specs.declared.fault_run.FaultSteps.{FaultSteps}
use Rattle.records.specs.Records.{record_of}
use Rattle.runs.specs.declared.result.DcTransientResult.{DcTransientResult}
use Rattle.runs.specs.declared.stepping.Advanced.{Advanced}
use Rattle.runs.specs.Kinds.{RunKind, counted_up}
use Rattle.runs.specs.Blank.{blank_grid, blank_state}

-- ---- one step of a kept run

-- 11: "a kept run whose grid or event would be refused by those of 1 to 9 that its kind checks; a run with more than N steps made"
unfoldable pub fault_run_refused : FaultRun → Bool
fault_run_refused r = not (eqb (fault_refusal r.grid r.fault) 0) || ltb (steps_of r.grid) r.steps_made

unfoldable pub next_fault_run : FaultRun → FaultRun
next_fault_run r =
    record {
      grid = r.grid;
      fault = r.fault;
      steps_made = suc r.steps_made;
      variables = fault_body r.grid r.fault r.steps_made r.variables;
    }

-- the next step is recorded
abbrev pub fault_step_recorded : FaultRun → Bool
fault_step_recorded r = recorded (steps_of r.grid) r.steps_made

unfoldable pub fault_records : FaultRun → List (List Float)
fault_records r = cond (fault_step_recorded r) (record_of r.grid (next_fault_run r).variables.state ∷ []) []

-- "full, a run before a step that is recorded if no whole record fits"
abbrev pub fault_stepper : Stepper Float
fault_stepper =
    record {
      Kept = FaultRun;
      refused = fault_run_refused;
      size = λ r. record_length r.grid;
      ended = λ r. eqb r.steps_made (steps_of r.grid);
      wants_room = fault_step_recorded;
      items = fault_records;
      next = next_fault_run;
    }

-- what an advance reads of a fault run; its `run_stepper` is `fault_stepper`
abbrev pub fault_kind : RunKind FaultRun
fault_kind = record { refused = fault_run_refused; grid = λ r. r.grid; steps_made = λ r. r.steps_made; state = λ r. r.variables.state; next = next_fault_run }

-- the plan of a run, refused or not: the flag is not set yet
abbrev pub fault_run_plan : FaultRun → FaultSteps
fault_run_plan r = record { plan = plan_of r.grid r.fault; resting = false }

-- the variables after a step by any plan: where the flag is set no array is changed
abbrev pub variables_by : FaultRun → FaultSteps → FaultVariables
variables_by r p = cond p.resting (quiet_step p.plan.constants r.steps_made r.variables) (plan_step p.plan r.steps_made r.variables)

-- the run after a step by any plan, and the plan after it, whose flag is set once the run rests
unfoldable pub stepped_fault_run : FaultRun → FaultSteps → FaultRun
stepped_fault_run r p = record { grid = r.grid; fault = r.fault; steps_made = counted_up r.steps_made; variables = variables_by r p }

unfoldable pub stepped_fault_plan : FaultRun → FaultSteps → FaultSteps
stepped_fault_plan r p = record { plan = p.plan; resting = p.resting || rests_by p.plan (variables_by r p) }

-- steps by the plan are the run's own, and the flag is set only where it rests
abbrev pub FaultPlanned : FaultRun → FaultSteps → Type 0
FaultPlanned r p =
    ((j : ℕ) (w : FaultVariables) → plan_step p.plan j w ≡ fault_body r.grid r.fault j w) × (p.resting ≡ true → rests_by p.plan r.variables ≡ true)

-- ---- what the functions return

-- beside a refusal: all zero and false
unfoldable pub blank_fault_run : FaultRun
blank_fault_run =
    record {
      grid = blank_grid;
      fault = record { fault_type = PoleToGround; location_cable_id = 0; location_fraction = nought; fault_resistance = nought; inception_time_ms = nought };
      steps_made = 0;
      variables = fresh_variables blank_state nought;
    }

-- the run after t steps: the grid, the event, the steps made and 000's variables
abbrev pub fault_run_after : DcSwitchingSimulator → DcFaultEvent → ℕ → FaultRun
fault_run_after g f t = record { grid = g; fault = f; steps_made = t; variables = fault_after g f t }

-- what `simulate_fault` starts
unfoldable pub started_fault_run : DcSwitchingSimulator → DcFaultEvent → FaultRun
started_fault_run g f = cond (eqb (fault_refusal g f) 0) (fault_run_after g f 0) blank_fault_run

-- what `advance` returns; the lent memory after it is `memory_of fault_stepper`
unfoldable pub advanced_fault_run : FaultRun → (allowance : ℕ) → List Float → Advanced FaultRun
advanced_fault_run r allowance lent =
    let x = answer_of fault_stepper r allowance lent in
    record { stop = x.stop; steps = x.steps; records = length x.items; run = x.kept }

-- ---- figures

-- 000's results, from its variables after the loop
abbrev pub fault_results : DcSwitchingSimulator → FaultVariables → DcTransientResult
fault_results g v =
    record {
      peak_fault_current_ka = v.peak_fault_ka;
      fault_clearing_time_ms = cond v.fault_cleared v.clearing_time_ms (duration_ms g);
      energy_dissipated_mj = v.energy_mj;
      voltage_recovery_time_ms = v.voltage_recovery_time_ms;
      max_di_dt = v.max_di_dt;
      fault_cleared = v.fault_cleared;
    }

-- "before the finish the figures are 000's variables after the last step made"
abbrev pub figures_so_far : FaultVariables → DcTransientResult
figures_so_far v =
    record {
      peak_fault_current_ka = v.peak_fault_ka;
      fault_clearing_time_ms = v.clearing_time_ms;
      energy_dissipated_mj = v.energy_mj;
      voltage_recovery_time_ms = v.voltage_recovery_time_ms;
      max_di_dt = v.max_di_dt;
      fault_cleared = v.fault_cleared;
    }

-- of any run; N is counted to one past the limit, as the code counts it
unfoldable pub fault_figures : FaultRun → DcTransientResult
fault_figures r = cond (eqb r.steps_made (counted_to (steps_of r.grid))) (fault_results r.grid r.variables) (figures_so_far r.variables)
