-- The listing of a sweep, document 01.7, from 000's own run of each fault: nothing here knows of a kept sweep, a call or a portion. Definitions only.
use Rattle.std.specs.Prelude.{ℕ, zero, suc, Bool, false, not, ◌&&◌, ◌||◌, cond, List, [], ◌++◌, get_or, Float}
use Rattle.std.proofs.Math.Option.{Option}
use Rattle.float64.specs.Constants.{nought}
use Rattle.grid.specs.declared.parts.DcFaultEvent.{DcFaultEvent}
use Rattle.grid.specs.declared.parts.SweepOrder.{SweepOrder}
use Rattle.grid.specs.declared.simulator.DcSwitchingSimulator.{DcSwitchingSimulator}
use Rattle.timing.specs.Steps.{steps_of}
use Rattle.state_derivatives.specs.declared.state.DcTransientState.{DcTransientState}
use Rattle.detection.specs.Detection.{detected}
use Rattle.power_flow.specs.declared.flow.DcGridSolution.{DcGridSolution}
use Rattle.fault_plan.specs.Fault.{fault_after}
use Rattle.portions.specs.Cases.{to_list, is_some}
use Rattle.case_reasons.specs.declared.reasons.CaseOutcome.{CaseOutcome}
use Rattle.fault_cases.specs.Cases.{place_of, fault_of}
use Rattle.case_reasons.specs.Reasons.{reasons_of, row_of}

-- ---- of 000's run of one fault

module _ (g : DcSwitchingSimulator) (f : DcFaultEvent) where
  -- "The state of a step is the one that 000 would record at it"; steps are numbered from 0
  abbrev pub state_at : ℕ → DcTransientState
  state_at s = (fault_after g f (suc s)).state

  -- the fault is cleared in step s or before
  abbrev pub cleared_by : ℕ → Bool
  cleared_by s = (fault_after g f (suc s)).fault_cleared

  -- the step before s, if there is one, has not cleared the fault
  abbrev pub uncleared : ℕ → Bool
  uncleared s = not (fault_after g f s).fault_cleared

  -- the clearing step
  abbrev pub clears_in : ℕ → Bool
  clears_in s = uncleared s && cleared_by s

  -- "no step from 1 up to the clearing one (or N-1) is detected against the step before": which steps these are
  abbrev pub counts : ℕ → Bool
  counts zero = false
  counts (suc s) = uncleared (suc s)

  abbrev pub detected_in : ℕ → Bool
  detected_in zero = false
  detected_in (suc s) = detected g (state_at (suc s)) (state_at s)

  -- one of the first n steps counts and is detected
  unfoldable pub some_detected : ℕ → Bool
  some_detected zero = false
  some_detected (suc n) = some_detected n || (counts n && detected_in n)

  -- "the fault current of the clearing step", 0 if it is not among the first n steps
  unfoldable pub clearing_current : ℕ → Float
  clearing_current zero = nought
  clearing_current (suc n) = cond (clears_in n) (state_at n).fault_current_ka (clearing_current n)

  -- what the first n steps lead to
  unfoldable pub outcome_after : ℕ → CaseOutcome
  outcome_after n =
      record {
        cleared = (fault_after g f n).fault_cleared;
        clearing_current_ka = clearing_current n;
        energy_mj = (fault_after g f n).energy_mj;
        peak_fault_ka = (fault_after g f n).peak_fault_ka;
        detected = some_detected n;
      }

-- ---- of a sweep: the grid, the order and the flow's results

module _ (g : DcSwitchingSimulator) (o : SweepOrder) (flow : DcGridSolution) where
  -- what case k leads to
  abbrev pub outcome_of : ℕ → CaseOutcome
  outcome_of k = outcome_after g (fault_of o k) (steps_of g)

  -- the row of case k with an outcome, if it has one
  unfoldable pub row_for : ℕ → CaseOutcome → Option (List ℕ)
  row_for k x = let p = place_of o k in row_of p (reasons_of g p.cable x) x (get_or flow.cable_losses_mw p.cable nought)

  -- the row of case k
  unfoldable pub case_row : ℕ → Option (List ℕ)
  case_row k = row_for k (outcome_of k)

  -- whether it is listed
  abbrev pub listed : ℕ → Bool
  listed k = is_some (case_row k)

  -- the rows of the first k cases; the listing is that of all
  unfoldable pub listing : ℕ → List (List ℕ)
  listing zero = []
  listing (suc k) = listing k ++ to_list (case_row k)
