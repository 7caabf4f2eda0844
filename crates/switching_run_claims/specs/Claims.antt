-- Every list of advance calls of a switching run, and its refusals by 11. The proofs are in proofs/Claims.antt and proofs/Refusals.antt.
use Rattle.std.specs.Prelude.{ℕ, suc, ◌<◌, ◌≡◌, ◌↔◌, ◌⊎◌, Bool, true, Float}
use Rattle.grid.specs.declared.simulator.DcSwitchingSimulator.{DcSwitchingSimulator}
use Rattle.timing.specs.Steps.{steps_of}
use Rattle.rules.specs.Studies.{switching_refusal}
use Rattle.portions.specs.Calls.{Called, Made, Chain}
use Rattle.portions.specs.Refusals.{RefusedIf}
use Rattle.switching_plan.specs.Switching.{switching_after}
use Rattle.runs.specs.Runs.{Run, Calls, InPortions}
use Rattle.switching_runs.specs.declared.switching_run.SwitchingRun.{SwitchingRun}
use Rattle.switching_runs.specs.SwitchingRuns.{switching_stepper, switching_run_refused, switching_run_after, started_switching_run, switching_results}

-- 000's simulate_switching
abbrev pub switching_run : DcSwitchingSimulator → ℕ → Bool → Run
switching_run g number opens =
    record {
      stepper = switching_stepper;
      grid = g;
      after = switching_run_after g number opens;
      state_at = λ k. (switching_after g number opens (suc k)).state;
      figures = λ _. switching_results;
      results = switching_results;
    }

pub record SwitchingRunClaims : Type 0 where
  pub in_portions : (g : DcSwitchingSimulator) (number : ℕ) (opens : Bool) → switching_refusal g ≡ 0 → (cs : Calls (switching_run g number opens))
      → Chain switching_stepper (started_switching_run g number opens) cs → InPortions (switching_run g number opens) cs
  -- a started run is what is kept after 0 steps; beside a refusal stands a run that every advance refuses
  pub started : (g : DcSwitchingSimulator) (number : ℕ) (opens : Bool) → switching_refusal g ≡ 0 → started_switching_run g number opens ≡ switching_run_after g number opens 0
  pub not_started : (g : DcSwitchingSimulator) (number : ℕ) (opens : Bool) → (switching_refusal g ≡ 0 → ⊥) → switching_run_refused (started_switching_run g number opens) ≡ true

-- ---- 11, both ways

-- "a kept run .. whose grid .. would be refused by those of 1 to 9 that its kind checks; a run with more than N steps made"
abbrev pub SwitchingBroken : SwitchingRun → Type 0
SwitchingBroken r = (switching_refusal r.grid ≡ 0 → ⊥) ⊎ (steps_of r.grid < r.steps_made)

pub record SwitchingRefusalClaims : Type 0 where
  pub test : (r : SwitchingRun) → (switching_run_refused r ≡ true) ↔ SwitchingBroken r
  pub refused_if : (r : SwitchingRun) (c : Called Float SwitchingRun) → Made switching_stepper r c → RefusedIf (SwitchingBroken r) r c
