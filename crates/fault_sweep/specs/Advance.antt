-- An advance of a kept sweep, whatever it holds: rule 11, and one step at a time by 01's stopping rule. Definitions only.
use Rattle.std.specs.Prelude.{ℕ, Bool, not, ◌&&◌, ◌||◌, List, eqb, leb, ltb, length}
use Rattle.grid.specs.declared.parts.SweepOrder.{SweepOrder}
use Rattle.grid.specs.declared.simulator.DcSwitchingSimulator.{DcSwitchingSimulator}
use Rattle.timing.specs.Steps.{steps_of}
use Rattle.rules.specs.Studies.{sweep_refusal}
use Rattle.power_flow.specs.declared.flow.DcGridSolution.{DcGridSolution}
use Rattle.portions.specs.Stopping.{Stepper, answer_of}
use Rattle.portions.specs.Cases.{Cases, KeptCase, closes, row_written, next_kept}
use Rattle.fault_cases.specs.Cases.{cases_of, fault_of}
use Rattle.case_reasons.specs.Reasons.{row_length}
use Rattle.case_listing.specs.Listing.{row_for}
use Rattle.case_steps.specs.declared.open_case.OpenCase.{OpenCase}
use Rattle.case_steps.specs.OpenCases.{start_case, no_case, outcome_in, case_step}
use Rattle.fault_sweep.specs.declared.sweep.Sweep.{Sweep}
use Rattle.fault_sweep.specs.declared.sweep.AdvancedSweep.{AdvancedSweep}
use Rattle.fault_sweep.specs.KeptSweep.{kept_at}

-- 11: "a kept run or sweep whose grid, event or order would be refused by those of 1 to 9 that its kind checks; .. a sweep with a case number above the number of
-- cases, N or more steps made in the open case, or steps not 0 when no case is left"
unfoldable pub sweep_broken : Sweep → Bool
sweep_broken s =
    not (eqb (sweep_refusal s.grid s.order) 0)
    || ltb (cases_of s.grid s.order) s.case_number
    || leb (steps_of s.grid) s.steps_made
    || (eqb s.case_number (cases_of s.grid s.order) && not (eqb s.steps_made 0))

-- the cases as an advance makes them, one step at a time, from whatever is kept
abbrev pub cases_for : DcSwitchingSimulator → SweepOrder → DcGridSolution → Cases ℕ
cases_for g o flow =
    record {
      Case = OpenCase;
      N = steps_of g;
      cases = cases_of g o;
      start = λ k. start_case g;
      step = λ k. case_step g (fault_of o k);
      row = λ k c. row_for g o flow k (outcome_in c);
      zeros = no_case;
    }

abbrev pub cases_in : Sweep → Cases ℕ
cases_in s = cases_for s.grid s.order s.flow

abbrev pub kept_in : Sweep → KeptCase OpenCase
kept_in s = record { number = s.case_number; made = s.steps_made; state = s.open_case }

abbrev pub sweep_with : DcSwitchingSimulator → SweepOrder → DcGridSolution → KeptCase OpenCase → Sweep
sweep_with g o flow s = kept_at g o flow s.number s.made s.state

-- "full, .. a sweep before the last step of a case if no whole row fits"
abbrev pub sweep_stepper : Stepper ℕ
sweep_stepper =
    record {
      Kept = Sweep;
      refused = sweep_broken;
      size = λ s. row_length;
      ended = λ s. eqb s.case_number (cases_of s.grid s.order);
      wants_room = λ s. closes (cases_in s) (kept_in s);
      items = λ s. row_written (cases_in s) (kept_in s);
      next = λ s. sweep_with s.grid s.order s.flow (next_kept (cases_in s) (kept_in s));
    }

-- what `advance` returns; the lent memory after it is `memory_of sweep_stepper`
unfoldable pub advanced_sweep : Sweep → (allowance : ℕ) → List ℕ → AdvancedSweep
advanced_sweep s allowance lent =
    let x = answer_of sweep_stepper s allowance lent in
    record { stop = x.stop; steps = x.steps; rows = length x.items; sweep = x.kept }
