-- What document 01.7 says of the cases in words, and what a reader expects beside the definitions. The proofs are in proofs/Claims.antt.
use Rattle.std.specs.Prelude.{ℕ, ◌+◌, ◌-◌, ◌*◌, ◌≤◌, ◌<◌, ◌≡◌, ◌⊎◌, length}
use Rattle.grid.specs.Simulator.{cables_of}
use Rattle.grid.specs.declared.parts.SweepOrder.{SweepOrder}
use Rattle.grid.specs.declared.simulator.DcSwitchingSimulator.{DcSwitchingSimulator}
use Rattle.rules.specs.Studies.{fault_refusal, sweep_refusal}
use Rattle.timing.specs.Steps.{steps_of}
use Rattle.fault_plan.specs.Fault.{fault_after}
use Rattle.runs.specs.declared.result.DcTransientResult.{DcTransientResult}
use Rattle.fault_runs.specs.FaultRuns.{fault_results}
use Rattle.fault_cases.specs.declared.cases.CasePlace.{CasePlace}
use Rattle.case_reasons.specs.declared.reasons.CaseOutcome.{CaseOutcome}
use Rattle.fault_cases.specs.Cases.{types, tenths_of, cases_of, place_of, fault_of}
use Rattle.case_listing.specs.Listing.{outcome_after}

-- "cable ascending, then type, then tenth ascending"
abbrev pub Precedes : CasePlace → CasePlace → Type 0
Precedes p q =
    (p.cable < q.cable)
    ⊎ ((p.cable ≡ q.cable) × ((p.fault_type < q.fault_type) ⊎ ((p.fault_type ≡ q.fault_type) × (p.tenth < q.tenth))))

-- a place that an order tries on a grid
pub record Tried (g : DcSwitchingSimulator) (o : SweepOrder) (p : CasePlace) : Type 0 where
  pub cable : p.cable < length (cables_of g)
  pub type : p.fault_type < types
  pub low : o.low_tenth ≤ p.tenth
  pub high : p.tenth < o.low_tenth + tenths_of o

-- the number of the case at a place
abbrev pub number_at : SweepOrder → CasePlace → ℕ
number_at o p = (p.cable * types + p.fault_type) * tenths_of o + (p.tenth - o.low_tenth)

-- what an outcome shares with the results of a fault run
pub record Shares (x : CaseOutcome) (r : DcTransientResult) : Type 0 where
  pub peak : x.peak_fault_ka ≡ r.peak_fault_current_ka
  pub energy : x.energy_mj ≡ r.energy_dissipated_mj
  pub cleared : x.cleared ≡ r.fault_cleared

pub record CaseOrderClaims : Type 0 where
  -- the cases stand in that order
  pub in_order : (o : SweepOrder) (j k : ℕ) → j < k → Precedes (place_of o j) (place_of o k)
  -- each case is at a place that the order tries
  pub tried : (g : DcSwitchingSimulator) (o : SweepOrder) (k : ℕ) → k < cases_of g o → Tried g o (place_of o k)
  -- and at each of these places is a case, which is no other than that of its number
  pub found : (g : DcSwitchingSimulator) (o : SweepOrder) (p : CasePlace) → Tried g o p → (number_at o p < cases_of g o) × (place_of o (number_at o p) ≡ p)
  pub once : (o : SweepOrder) (k : ℕ) → number_at o (place_of o k) ≡ k
  -- an accepted sweep tries accepted faults alone
  pub accepted_fault : (g : DcSwitchingSimulator) (o : SweepOrder) → sweep_refusal g o ≡ 0 → (k : ℕ) → k < cases_of g o → fault_refusal g (fault_of o k) ≡ 0
  -- "peak", "energy" and "cleared" are those of the finished run of the case's fault
  pub final_figures : (g : DcSwitchingSimulator) (o : SweepOrder) (k : ℕ) → Shares (outcome_after g (fault_of o k) (steps_of g)) (fault_results g (fault_after g (fault_of o k) (steps_of g)))
