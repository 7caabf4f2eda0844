-- A run of 000 in portions, fault run or switching run alike: what a run is, and the claim about every list of its advance calls. The proofs are in
-- proofs/Portions.antt and proofs/Claims.antt.
use Rattle.std.specs.Prelude.{ℕ, zero, suc, ◌≡◌, cond, List, [], ◌∷◌, ◌++◌, length, Float}
use Rattle.grid.specs.declared.simulator.DcSwitchingSimulator.{DcSwitchingSimulator}
use Rattle.timing.specs.Steps.{steps_of, recorded, records_of, record_length}
use Rattle.portions.specs.declared.Stop.TheVariants.{Finished}
use Rattle.portions.specs.Stopping.{Stepper}
use Rattle.portions.specs.Tally.{run_tally}
use Rattle.portions.specs.Calls.{Called, Made, last, seen}
use Rattle.portions.specs.Course.{Portions}
use Rattle.state_derivatives.specs.declared.state.DcTransientState.{DcTransientState}
use Rattle.records.specs.Records.{record_of}
use Rattle.runs.specs.declared.result.DcTransientResult.{DcTransientResult}

-- A run of 000: the grid, what is kept after t steps, the state after a step, the figures of what is kept, and the results.
pub record Run : Type 1 where
  pub stepper : Stepper Float
  pub grid : DcSwitchingSimulator
  pub after : ℕ → stepper.Kept
  pub state_at : ℕ → DcTransientState
  pub figures : stepper.Kept → DcTransientResult
  pub results : DcTransientResult

module _ (r : Run) where
  abbrev pub N : ℕ
  N = steps_of r.grid

  abbrev pub size : ℕ
  size = record_length r.grid

  -- 000's `states` after k steps: those recorded, in order
  unfoldable pub states_after : ℕ → List (List Float)
  states_after zero = []
  states_after (suc k) = states_after k ++ cond (recorded N k) (record_of r.grid (r.state_at k) ∷ []) []

  abbrev pub Calls : Type 0
  Calls = List (Called Float r.stepper.Kept)

  -- the steps that calls from the start make, by the stopping rule
  abbrev pub steps : Calls → ℕ
  steps cs = run_tally N (recorded N) (seen size cs)

  -- `cs` are calls from the start, each handed what the last returned
  pub record InPortions (cs : Calls) : Type 0 where
    -- "Joined records .. equal 000's", in order, none missing, none twice; and what is said of the steps, what is kept and each further call
    pub portions : Portions r.stepper size N r.after states_after steps cs
    -- "and final figures equal 000's": where c is one call more
    pub final_figures : (c : Called Float r.stepper.Kept) → Made r.stepper (last (r.after 0) cs) c → c.stop ≡ Finished → r.figures c.kept ≡ r.results

pub record RunClaims : Type 1 where
  -- as many records as recorded steps
  pub record_count : (r : Run) → length (states_after r (steps_of r.grid)) ≡ records_of (steps_of r.grid)
