-- A sweep's start, the state of its last step, and rule 11 both ways. Assumes nothing.
use Prim.Native.Nat.{ℕ, suc, ◌*◌, ◌/◌, ◌%◌, ◌≤◌, ◌<◌}
use native.Mathlib.Omega.{arith}
use mathlib.Core.Path.{◌≡◌, refl, sym, ap, ◌∙◌}
use mathlib.Core.Logic.{◌↔◌, ◌⊎◌, inl, inr, ⊎_elim}
use mathlib.Core.Bool.{Bool, true, false, not, ◌&&◌, ◌||◌}
use lib.Dec.{eqb, leb, ltb}
use borrow.Author.Tests.{eq-eqb, ne_eqb, eqb-true, eqb-false, lt-ltb, ltb-true, le-leb, leb-true, not-true}
use Rattle.lists.proofs.Counting.{by-test, contrary}
use Rattle.lists.proofs.Scanning.{left, right, both, or_second}
use Rattle.grid.specs.declared.parts.SweepOrder.{SweepOrder}
use Rattle.grid.specs.declared.simulator.DcSwitchingSimulator.{DcSwitchingSimulator}
use Rattle.timing.specs.Steps.{steps_of}
use Rattle.rule_tests.specs.Rules.{too_many_parts}
use Rattle.rules.specs.Studies.{sweep_refusal, first, broken}
use Rattle.rule_claims.proofs.Claims.{refusal_claims}
use Rattle.power_flow.specs.declared.flow.DcGridSolution.{DcGridSolution}
use Rattle.power_flow.specs.Flow.{solution_of}
use Rattle.portions.proofs.Refusals.{refused_if}
use Rattle.runs.specs.Blank.{blank_state}
use Rattle.fault_cases.specs.Cases.{cases_of, fault_of}
use Rattle.case_listing.specs.Listing.{state_at}
use Rattle.fault_sweep.specs.declared.sweep.Sweep.{Sweep}
use Rattle.fault_sweep.specs.KeptSweep.{sweep_after, state_of_step}
use Rattle.sweep_start.specs.Start.{sweep_refused, blank_sweep, started_sweep}
use Rattle.fault_sweep.specs.Advance.{sweep_broken, sweep_stepper}
use Rattle.sweep_claims.specs.Claims.{StartClaims, StateClaims, SweepBroken, SweepRefusalClaims}

-- ---- the start

-- a grid of zeros has no station
no_station_lem : sweep_refusal blank_sweep.grid blank_sweep.order ≡ 1
unfolding sweep_refusal first broken too_many_parts
no_station_lem = refl

not_started : (g : DcSwitchingSimulator) (o : SweepOrder) → (sweep_refused g o ≡ 0 → ⊥) → sweep_broken (started_sweep g o) ≡ true
unfolding started_sweep sweep_broken
not_started g o h = rw (ne_eqb (sweep_refused g o) 0 h, no_station_lem)

started : (g : DcSwitchingSimulator) (o : SweepOrder) → sweep_refused g o ≡ 0 → started_sweep g o ≡ sweep_after g o (solution_of g) 0
unfolding started_sweep
started g o z = rw (eq-eqb (sweep_refused g o) 0 z)

pub start_claims : StartClaims
start_claims = record { decides = λ g o. refusal_claims.start g o (not (solution_of g).converged); started = started; not_started = not_started }

-- ---- the state of the last step

module _ (g : DcSwitchingSimulator) (o : SweepOrder) (flow : DcGridSolution) (t : ℕ) (l : t < steps_of g * cases_of g o) where
  of_last_step : (n : ℕ) → t % steps_of g ≡ suc n → state_of_step (sweep_after g o flow t) ≡ state_at g (fault_of o (t / steps_of g)) n
  unfolding sweep_after
  of_last_step n e = rw (lt-ltb t (steps_of g * cases_of g o) l, e, ne_eqb (suc n) 0 (λ z. omega arith))

  none_made : t % steps_of g ≡ 0 → state_of_step (sweep_after g o flow t) ≡ blank_state
  unfolding sweep_after
  none_made e = rw (lt-ltb t (steps_of g * cases_of g o) l, e)

pub state_claims : StateClaims
state_claims = record { of_last_step = λ g o flow t n l e. of_last_step g o flow t l n e; none_made = none_made }

-- ---- 11

module _ (s : Sweep) where
  abbrev refusal : ℕ
  refusal = sweep_refusal s.grid s.order

  abbrev cases : ℕ
  cases = cases_of s.grid s.order

  abbrev r : Bool
  r = not (eqb refusal 0)

  abbrev a : Bool
  a = ltb cases s.case_number

  abbrev b : Bool
  b = leb (steps_of s.grid) s.steps_made

  abbrev c : Bool
  c = eqb s.case_number cases && not (eqb s.steps_made 0)

either : (x y : Bool) → (x || y) ≡ true → (x ≡ true) ⊎ (y ≡ true)
either true y h = inl refl
either false y h = inr h

or_first : (x y : Bool) → x ≡ true → (x || y) ≡ true
or_first x y h = rw h

test : (s : Sweep) → (sweep_broken s ≡ true) ↔ SweepBroken s
unfolding sweep_broken
test s = (
  λ h.
      ⊎_elim
      (λ h₁.
      ⊎_elim
      (λ h₂.
      ⊎_elim
      (λ h₃. inl (λ e. contrary h₃ (rw (eq-eqb (refusal s) 0 e))))
      (λ h₃. inr (inl (ltb-true (cases s) s.case_number h₃)))
      (either (r s) (a s) h₂))
      (λ h₂. inr (inr (inl (leb-true (steps_of s.grid) s.steps_made h₂))))
      (either (r s || a s) (b s) h₁))
      (λ h₁.
      inr (inr (inr (
        eqb-true s.case_number (cases s) (left (eqb s.case_number (cases s)) (not (eqb s.steps_made 0)) h₁),
        eqb-false s.steps_made 0 (not-true (eqb s.steps_made 0) (right (eqb s.case_number (cases s)) (not (eqb s.steps_made 0)) h₁)),
      ))))
      (either (r s || a s || b s) (c s) h),
  λ x.
      ⊎_elim
      (λ (n : refusal s ≡ 0 → ⊥). rw (ne_eqb (refusal s) 0 n))
      (λ y.
      ⊎_elim
      (λ (l : cases s < s.case_number). or_first (r s || a s || b s) (c s) (or_first (r s || a s) (b s) (or_second (r s) (a s) (lt-ltb (cases s) s.case_number l))))
      (λ z.
      ⊎_elim
      (λ (m : steps_of s.grid ≤ s.steps_made). or_first (r s || a s || b s) (c s) (or_second (r s || a s) (b s) (le-leb (steps_of s.grid) s.steps_made m)))
      (λ w. or_second (r s || a s || b s) (c s) (both (eqb s.case_number (cases s)) (not (eqb s.steps_made 0)) (eq-eqb s.case_number (cases s) w.0) (rw (ne_eqb s.steps_made 0 w.1))))
      z)
      y)
      x,
)

pub sweep_refusal_claims : SweepRefusalClaims
sweep_refusal_claims = record { test = test; refused_if = λ s c made. refused_if sweep_stepper s c made (test s) }
