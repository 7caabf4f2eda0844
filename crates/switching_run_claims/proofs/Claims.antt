-- The claims of specs/Claims about lists of calls of a switching run. Assumes nothing.
use Prim.Native.Nat.{ℕ, suc, ◌≤◌}
use mathlib.Core.Path.{◌≡◌, refl}
use mathlib.Core.Bool.{Bool, true, false}
use borrow.Author.Tests.{eq-eqb, ne_eqb, le-ltb}
use Rattle.grid.specs.declared.simulator.DcSwitchingSimulator.{DcSwitchingSimulator}
use Rattle.timing.specs.Steps.{steps_of}
use Rattle.rule_tests.specs.Rules.{too_many_parts}
use Rattle.rules.specs.Studies.{switching_refusal, first, broken}
use Rattle.portions.specs.Calls.{Chain}
use Rattle.switching_plan.specs.Switching.{switching_after}
use Rattle.runs.specs.Runs.{Calls, InPortions}
use Rattle.runs.proofs.Portions.{in_portions}
use Rattle.switching_runs.specs.SwitchingRuns.{switching_run_refused, next_switching_run, switching_records, switching_kind, switching_stepper, switching_run_after, started_switching_run, blank_switching_run, switching_results}
use Rattle.switching_run_claims.specs.Claims.{switching_run, SwitchingRunClaims}

module _ (g : DcSwitchingSimulator) (number : ℕ) (opens : Bool) (z : switching_refusal g ≡ 0) where
  taken : (t : ℕ) → t ≤ steps_of g → switching_run_refused (switching_run_after g number opens t) ≡ false
  unfolding switching_run_refused
  taken t l = rw (eq-eqb (switching_refusal g) 0 z) (le-ltb (steps_of g) t l)

  started : started_switching_run g number opens ≡ switching_run_after g number opens 0
  unfolding started_switching_run
  started = rw (eq-eqb (switching_refusal g) 0 z)

  steps : (t : ℕ) → switching_run_after g number opens (suc t) ≡ switching_kind.next (switching_run_after g number opens t)
  unfolding switching_after next_switching_run
  steps t = refl

  whole : (cs : Calls (switching_run g number opens)) → Chain switching_stepper (started_switching_run g number opens) cs → InPortions (switching_run g number opens) cs
  unfolding switching_records
  whole cs chain =
      in_portions switching_kind g (switching_run_after g number opens) (λ t. refl) (λ t. refl) steps taken (λ _. switching_results) switching_results refl cs (rw started at chain)

-- a grid of zeros has no station
no_station_lem : switching_refusal blank_switching_run.grid ≡ 1
unfolding switching_refusal first broken too_many_parts blank_switching_run
no_station_lem = refl

not_started : (g : DcSwitchingSimulator) (number : ℕ) (opens : Bool) → (switching_refusal g ≡ 0 → ⊥) → switching_run_refused (started_switching_run g number opens) ≡ true
unfolding started_switching_run switching_run_refused
not_started g number opens h = rw (ne_eqb (switching_refusal g) 0 h, no_station_lem)

pub switching_run_claims : SwitchingRunClaims
switching_run_claims = record { in_portions = whole; started = started; not_started = not_started }
