-- What a reader expects beside the definitions: the steps by a plan are the grid's, and what is kept of a case is what 000's run of its fault has. The proofs are in proofs/Claims.antt.
use Rattle.std.specs.Prelude.{ℕ, suc, ◌≤◌, ◌≡◌}
use Rattle.grid.specs.declared.parts.DcFaultEvent.{DcFaultEvent}
use Rattle.grid.specs.declared.simulator.DcSwitchingSimulator.{DcSwitchingSimulator}
use Rattle.fault_plan.specs.Fault.{fault_after}
use Rattle.fault_plan.specs.Plans.{plan_of}
use Rattle.case_listing.specs.Listing.{state_at, some_detected, clearing_current, outcome_after}
use Rattle.case_steps.specs.declared.open_case.OpenCase.{OpenCase}
use Rattle.case_steps.specs.OpenCases.{start_case, outcome_in, case_from}
use Rattle.case_steps.specs.Plans.{plan_case_from}

-- an open case after n steps of 000's run of its fault
pub record IsAfter (g : DcSwitchingSimulator) (f : DcFaultEvent) (n : ℕ) (c : OpenCase) : Type 0 where
  pub variables : c.variables ≡ fault_after g f n
  pub detected : c.detected ≡ some_detected g f n
  pub clearing_current_lem : c.clearing_current_ka ≡ clearing_current g f n

pub record CaseClaims : Type 0 where
  -- what is worked out once changes no step
  pub by_plan : (g : DcSwitchingSimulator) (f : DcFaultEvent) → g.n_stations ≤ 32 → g.n_cables ≤ 64
      → (first : ℕ) (c : OpenCase) (n : ℕ) → plan_case_from (plan_of g f) first c n ≡ case_from g f first c n
  -- from the start, n steps lead to what 000's run has after n steps
  pub from_start : (g : DcSwitchingSimulator) (f : DcFaultEvent) (n : ℕ) → IsAfter g f n (case_from g f 0 (start_case g) n)
  -- so what the reasons are read from is what 000's run leads to
  pub outcome : (g : DcSwitchingSimulator) (f : DcFaultEvent) (n : ℕ) → outcome_in (case_from g f 0 (start_case g) n) ≡ outcome_after g f n
  -- "The state of a step is the one that 000 would record at it": of the last step that is made
  pub state_of_step_lem : (g : DcSwitchingSimulator) (f : DcFaultEvent) (n : ℕ) → (case_from g f 0 (start_case g) (suc n)).variables.state ≡ state_at g f n
