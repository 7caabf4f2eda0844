-- Every list of advance calls of a fault run, and its refusals by 11. The proofs are in proofs/Claims.antt and proofs/Refusals.antt.
use Rattle.std.specs.Prelude.{ℕ, suc, ◌<◌, ◌≡◌, ◌↔◌, ◌⊎◌, true, Float}
use Rattle.grid.specs.declared.parts.DcFaultEvent.{DcFaultEvent}
use Rattle.grid.specs.declared.simulator.DcSwitchingSimulator.{DcSwitchingSimulator}
use Rattle.timing.specs.Steps.{steps_of}
use Rattle.rules.specs.Studies.{fault_refusal}
use Rattle.portions.specs.Calls.{Called, Made, Chain}
use Rattle.portions.specs.Refusals.{RefusedIf}
use Rattle.fault_plan.specs.Fault.{fault_after}
use Rattle.runs.specs.Runs.{Run, Calls, InPortions}
use Rattle.fault_runs.specs.declared.fault_run.FaultRun.{FaultRun}
use Rattle.fault_runs.specs.FaultRuns.{fault_stepper, fault_run_refused, fault_run_after, started_fault_run, fault_figures, fault_results, figures_so_far}

-- 000's simulate_fault
abbrev pub fault_run : DcSwitchingSimulator → DcFaultEvent → Run
fault_run g f =
    record {
      stepper = fault_stepper;
      grid = g;
      after = fault_run_after g f;
      state_at = λ k. (fault_after g f (suc k)).state;
      figures = fault_figures;
      results = fault_results g (fault_after g f (steps_of g));
    }

pub record FaultRunClaims : Type 0 where
  pub in_portions : (g : DcSwitchingSimulator) (f : DcFaultEvent) → fault_refusal g f ≡ 0 → (cs : Calls (fault_run g f)) → Chain fault_stepper (started_fault_run g f) cs → InPortions (fault_run g f) cs
  -- "before the finish the figures are 000's variables after the last step made"
  pub figures_before : (g : DcSwitchingSimulator) (f : DcFaultEvent) → fault_refusal g f ≡ 0 → (t : ℕ) → t < steps_of g → fault_figures (fault_run_after g f t) ≡ figures_so_far (fault_after g f t)
  -- a started run is what is kept after 0 steps; beside a refusal stands a run that every advance refuses
  pub started : (g : DcSwitchingSimulator) (f : DcFaultEvent) → fault_refusal g f ≡ 0 → started_fault_run g f ≡ fault_run_after g f 0
  pub not_started : (g : DcSwitchingSimulator) (f : DcFaultEvent) → (fault_refusal g f ≡ 0 → ⊥) → fault_run_refused (started_fault_run g f) ≡ true

-- ---- 11, both ways

-- "a kept run .. whose grid, event .. would be refused by those of 1 to 9 that its kind checks; a run with more than N steps made"
abbrev pub FaultBroken : FaultRun → Type 0
FaultBroken r = (fault_refusal r.grid r.fault ≡ 0 → ⊥) ⊎ (steps_of r.grid < r.steps_made)

pub record FaultRefusalClaims : Type 0 where
  pub test : (r : FaultRun) → (fault_run_refused r ≡ true) ↔ FaultBroken r
  pub refused_if : (r : FaultRun) (c : Called Float FaultRun) → Made fault_stepper r c → RefusedIf (FaultBroken r) r c
