-- Demand 3 of the sweep, "one claim about a whole list, not about each call"; its start; rule 11 both ways. The proofs are in proofs/Claims.antt.
use Rattle.std.specs.Prelude.{ℕ, suc, ◌+◌, ◌*◌, ◌/◌, ◌%◌, ◌≤◌, ◌<◌, ◌≡◌, ◌↔◌, ◌⊎◌, true, not, List, ◌∷◌, ◌++◌, length, take, drop}
use Rattle.grid.specs.declared.parts.SweepOrder.{SweepOrder}
use Rattle.grid.specs.declared.simulator.DcSwitchingSimulator.{DcSwitchingSimulator}
use Rattle.timing.specs.Steps.{steps_of}
use Rattle.rules.specs.Studies.{order, sweep_refusal, start_broken}
use Rattle.rule_claims.specs.Claims.{Decides}
use Rattle.power_flow.specs.declared.flow.DcGridSolution.{DcGridSolution}
use Rattle.power_flow.specs.Flow.{solution_of}
use Rattle.portions.specs.declared.Stop.TheVariants.{Finished, Refused}
use Rattle.portions.specs.Stopping.{joined}
use Rattle.portions.specs.Tally.{tally}
use Rattle.portions.specs.Calls.{Called, Made, Chain, last, reported, and, handed, seen}
use Rattle.portions.specs.Refusals.{RefusedIf}
use Rattle.runs.specs.Blank.{blank_state}
use Rattle.fault_cases.specs.Cases.{cases_of, fault_of}
use Rattle.case_reasons.specs.Reasons.{row_length}
use Rattle.case_listing.specs.Listing.{state_at, listed, listing}
use Rattle.fault_sweep.specs.declared.sweep.Sweep.{Sweep}
use Rattle.fault_sweep.specs.KeptSweep.{sweep_after, state_of_step}
use Rattle.sweep_start.specs.Start.{sweep_refused, started_sweep}
use Rattle.fault_sweep.specs.Advance.{sweep_broken, sweep_stepper}

-- ---- every list of calls of a sweep that is started

abbrev pub Calls : Type 0
Calls = List (Called ℕ Sweep)

module _ (g : DcSwitchingSimulator) (o : SweepOrder) where
  -- the flow's results, with which the sweep was started
  abbrev pub flow : DcGridSolution
  flow = solution_of g

  -- "The tally counts steps by the stopping rule above, without the sweep itself": from N, the number of cases, which cases are listed, and each call's allowance and row space
  abbrev pub steps : Calls → ℕ
  steps cs = tally (steps_of g) (cases_of g o) (listed g o flow) (seen row_length cs)

  -- "At each multiple of N that it gets to, the open case closes"
  abbrev pub closed : Calls → ℕ
  closed cs = steps cs / steps_of g

  -- the rows of the first cases, one after the other
  abbrev pub rows_of : ℕ → List ℕ
  rows_of k = joined (listing g o flow k)

  -- what is said of each call of a list: c, made after the calls `before`
  pub record OfCall (before : Calls) (c : Called ℕ Sweep) : Type 0 where
    -- "no advance is refused"
    pub not_refused : c.stop ≡ Refused → ⊥
    -- "the kept sweep after each call"
    pub kept_after_lem : c.kept ≡ sweep_after g o flow (steps (and before c))
    -- "finished exactly at the end": when every case is closed after the call, and then all rows are out
    pub finished_iff : (c.stop ≡ Finished) ↔ (closed (and before c) ≡ cases_of g o)
    pub all_out : c.stop ≡ Finished → handed row_length (and before c) ≡ rows_of (cases_of g o)
    -- "and progress": with a case open, an allowance of 1 or more and space for a row a step is made
    pub progress : closed before < cases_of g o → 1 ≤ c.allowance → row_length ≤ length c.lent → 1 ≤ c.steps
    -- "at most the allowance"; the rows fit, and "memory past them is unchanged"
    pub within_allowance : c.steps ≤ c.allowance
    pub within_memory : row_length * c.count ≤ length c.lent
    pub past_unchanged : drop (row_length * c.count) c.left ≡ drop (row_length * c.count) c.lent

  -- demand 3, of a list of calls from the start
  pub record Demand3 (cs : Calls) : Type 0 where
    -- "the rows joined are the first rows of the listing, exactly those of the closed cases"
    pub rows_of_closed : handed row_length cs ≡ rows_of (closed cs)
    pub first_rows : handed row_length cs ≡ take (length (handed row_length cs)) (rows_of (cases_of g o))
    -- "the tally .. ends at N times the cases"
    pub tally_ends : steps cs ≤ steps_of g * cases_of g o
    -- "the step sum": of the closed cases, and "past the last multiple are the steps made in the open one"
    pub steps_sum : reported cs ≡ steps cs
    pub steps_of_cases : let s = last (started_sweep g o) cs in reported cs ≡ steps_of g * s.case_number + s.steps_made
    pub closed_are : (last (started_sweep g o) cs).case_number ≡ closed cs
    -- "the kept sweep"
    pub kept : last (started_sweep g o) cs ≡ sweep_after g o flow (steps cs)
    -- each call of the list
    pub each_call : (before after : Calls) (c : Called ℕ Sweep) → cs ≡ before ++ (c ∷ after) → OfCall before c

pub record SweepClaims : Type 0 where
  pub demand3 : (g : DcSwitchingSimulator) (o : SweepOrder) → sweep_refused g o ≡ 0 → (cs : Calls) → Chain sweep_stepper (started_sweep g o) cs → Demand3 g o cs

-- ---- the start

pub record StartClaims : Type 0 where
  -- "Checked in the order 3, 1, 2, 4, 5, 6, 7, 8, 9, 10; the first that applies is returned"
  pub decides : (g : DcSwitchingSimulator) (o : SweepOrder) → Decides (sweep_refused g o) (start_broken g o (not (solution_of g).converged)) order
  -- "A fresh sweep is what a start that isn't refused returns: the kept sweep after 0 steps"
  pub started : (g : DcSwitchingSimulator) (o : SweepOrder) → sweep_refused g o ≡ 0 → started_sweep g o ≡ sweep_after g o (solution_of g) 0
  -- beside a refusal stands a sweep that every advance refuses
  pub not_started : (g : DcSwitchingSimulator) (o : SweepOrder) → (sweep_refused g o ≡ 0 → ⊥) → sweep_broken (started_sweep g o) ≡ true

-- ---- "the state of that step"

pub record StateClaims : Type 0 where
  -- "The state of a step is the one that 000 would record at it"
  pub of_last_step : (g : DcSwitchingSimulator) (o : SweepOrder) (flow : DcGridSolution) (t n : ℕ) → t < steps_of g * cases_of g o → t % steps_of g ≡ suc n
      → state_of_step (sweep_after g o flow t) ≡ state_at g (fault_of o (t / steps_of g)) n
  -- zeros "where no step is made"
  pub none_made : (g : DcSwitchingSimulator) (o : SweepOrder) (flow : DcGridSolution) (t : ℕ) → t < steps_of g * cases_of g o → t % steps_of g ≡ 0 → state_of_step (sweep_after g o flow t) ≡ blank_state

-- ---- 11, both ways

-- "a kept .. sweep whose grid .. or order would be refused by those of 1 to 9 that its kind checks; .. a sweep with a case number above the number of cases, N or more steps
-- made in the open case, or steps not 0 when no case is left"
abbrev pub SweepBroken : Sweep → Type 0
SweepBroken s =
    (sweep_refusal s.grid s.order ≡ 0 → ⊥)
    ⊎ ((cases_of s.grid s.order < s.case_number)
    ⊎ ((steps_of s.grid ≤ s.steps_made)
    ⊎ ((s.case_number ≡ cases_of s.grid s.order) × (s.steps_made ≡ 0 → ⊥))))

pub record SweepRefusalClaims : Type 0 where
  pub test : (s : Sweep) → (sweep_broken s ≡ true) ↔ SweepBroken s
  pub refused_if : (s : Sweep) (c : Called ℕ Sweep) → Made sweep_stepper s c → RefusedIf (SweepBroken s) s c
