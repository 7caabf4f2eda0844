-- The claims of specs/Claims about lists of calls of a fault run. Assumes nothing.
use Prim.Native.Nat.{ℕ, suc, ◌≤◌, ◌<◌}
use native.Mathlib.Omega.{arith}
use mathlib.Core.Path.{◌≡◌, refl}
use mathlib.Core.Bool.{true, false}
use borrow.Author.Tests.{eq-eqb, ne_eqb, le-ltb}
use Rattle.grid.specs.declared.parts.DcFaultEvent.{DcFaultEvent}
use Rattle.grid.specs.declared.simulator.DcSwitchingSimulator.{DcSwitchingSimulator}
use Rattle.timing.specs.Steps.{steps_of}
use Rattle.timing.proofs.Claims.{step_claims}
use Rattle.rule_tests.specs.Rules.{too_many_parts}
use Rattle.rules.specs.Studies.{fault_refusal, first, broken}
use Rattle.rule_claims.proofs.Claims.{accepted_claims}
use Rattle.portions.specs.Calls.{Chain}
use Rattle.fault_plan.specs.Fault.{fault_after}
use Rattle.runs.specs.Runs.{Calls, InPortions}
use Rattle.runs.proofs.Portions.{in_portions}
use Rattle.fault_runs.specs.FaultRuns.{fault_run_refused, next_fault_run, fault_records, fault_kind, fault_stepper, fault_run_after, started_fault_run, blank_fault_run, fault_figures, fault_results, figures_so_far}
use Rattle.fault_run_claims.specs.Claims.{fault_run, FaultRunClaims}

module _ (g : DcSwitchingSimulator) (f : DcFaultEvent) (z : fault_refusal g f ≡ 0) where
  taken : (t : ℕ) → t ≤ steps_of g → fault_run_refused (fault_run_after g f t) ≡ false
  unfolding fault_run_refused
  taken t l = rw (eq-eqb (fault_refusal g f) 0 z) (le-ltb (steps_of g) t l)

  started : started_fault_run g f ≡ fault_run_after g f 0
  unfolding started_fault_run
  started = rw (eq-eqb (fault_refusal g f) 0 z)

  finally : fault_figures (fault_run_after g f (steps_of g)) ≡ fault_results g (fault_after g f (steps_of g))
  unfolding fault_figures
  finally = rw (step_claims.counted (steps_of g) (accepted_claims.fault g f z), eq-eqb (steps_of g) (steps_of g) refl)

  figures_before : (t : ℕ) → t < steps_of g → fault_figures (fault_run_after g f t) ≡ figures_so_far (fault_after g f t)
  unfolding fault_figures
  figures_before t l = rw (step_claims.counted (steps_of g) (accepted_claims.fault g f z), ne_eqb t (steps_of g) (λ e. omega arith))

  steps : (t : ℕ) → fault_run_after g f (suc t) ≡ fault_kind.next (fault_run_after g f t)
  unfolding fault_after next_fault_run
  steps t = refl

  whole : (cs : Calls (fault_run g f)) → Chain fault_stepper (started_fault_run g f) cs → InPortions (fault_run g f) cs
  unfolding fault_records
  whole cs chain = in_portions fault_kind g (fault_run_after g f) (λ t. refl) (λ t. refl) steps taken fault_figures _ finally cs (rw started at chain)

-- a grid of zeros has no station
no_station_lem : fault_refusal blank_fault_run.grid blank_fault_run.fault ≡ 1
unfolding fault_refusal first broken too_many_parts blank_fault_run
no_station_lem = refl

not_started : (g : DcSwitchingSimulator) (f : DcFaultEvent) → (fault_refusal g f ≡ 0 → ⊥) → fault_run_refused (started_fault_run g f) ≡ true
unfolding started_fault_run fault_run_refused
not_started g f h = rw (ne_eqb (fault_refusal g f) 0 h, no_station_lem)

pub fault_run_claims : FaultRunClaims
fault_run_claims = record { in_portions = whole; figures_before = figures_before; started = started; not_started = not_started }
