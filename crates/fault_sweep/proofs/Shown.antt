-- A sweep's cases, as an advance makes them, are those of `portions`; and what is kept of them is what 000's runs have. Assumes nothing.
use Prim.Native.Nat.{ℕ, zero, suc}
use native.Mathlib.Omega.{arith}
use mathlib.Core.Path.{◌≡◌, refl}
use mathlib.Core.Bool.{Bool, true, false, not, ◌&&◌, cond}
use mathlib.Core.Option.{none, some}
use mathlib.Core.List.{List}
use lib.Dec.{eqb}
use lib.ListN.{length}
use borrow.Author.Tests.{le-ltb, lt-leb, eq-eqb, eqb-true}
use Rattle.lists.proofs.Counting.{by-test}
use Rattle.grid.specs.declared.parts.SweepOrder.{SweepOrder}
use Rattle.grid.specs.declared.simulator.DcSwitchingSimulator.{DcSwitchingSimulator}
use Rattle.timing.specs.Steps.{steps_of}
use Rattle.rules.specs.Studies.{sweep_refusal}
use Rattle.rule_claims.proofs.Claims.{accepted_claims}
use Rattle.power_flow.specs.declared.flow.DcGridSolution.{DcGridSolution}
use Rattle.portions.specs.Cases.{row_of}
use Rattle.portions.specs.Demand3.{Sweeps}
use Rattle.portions.proofs.Strides as strides
use Rattle.case_reasons.specs.declared.reasons.CaseOutcome.{CaseOutcome}
use Rattle.fault_cases.specs.Cases.{cases_of, place_of, fault_of}
use Rattle.case_reasons.specs.Reasons as reason
use Rattle.case_reasons.specs.Reasons.{reasons_of, numbers_of}
use Rattle.case_listing.specs.Listing.{row_for}
use Rattle.case_steps.specs.declared.open_case.OpenCase.{OpenCase}
use Rattle.case_steps.specs.OpenCases.{case_step, case_from}
use Rattle.fault_sweep.specs.Advance.{sweep_broken, cases_for, sweep_with, sweep_stepper}

-- a row has eight numbers
one_row : (b : Bool) (x r : List ℕ) → length x ≡ 8 → cond b none (some x) ≡ some r → length r ≡ 8
one_row true x r h e = cc
one_row false x r h e = let q : x ≡ r = cc in rw (← q) h

module _ (g : DcSwitchingSimulator) (o : SweepOrder) (flow : DcGridSolution) where
  pub row_eight : (k : ℕ) (x : CaseOutcome) (r : List ℕ) → row_for g o flow k x ≡ some r → length r ≡ 8
  unfolding row_for reason.row_of
  row_eight k x r e = one_row (eqb (reasons_of g (place_of o k).cable x) 0) _ r refl e

  pub row_sized : (k : ℕ) (r : List ℕ) → row_of (cases_for g o flow) k ≡ some r → length r ≡ 8
  unfolding row_of
  row_sized k r e = row_eight k _ r e

  pub at_the_end : (k i n : ℕ) → (k ≡ n → i ≡ 0) → (eqb k n && not (eqb i 0)) ≡ false
  at_the_end k i n f = by-test (eqb k n) (λ e. rw (e, eq-eqb i 0 (f (eqb-true k n e)))) (λ e. rw e)

  unfoldable pub swept : sweep_refusal g o ≡ 0 → Sweeps sweep_stepper (cases_for g o flow)
  unfolding sweep_broken
  swept z =
      record {
        frame = sweep_with g o flow;
        row_size = 8;
        some_size = omega arith;
        some_steps = (accepted_claims.sweep g o z).0;
        row_sized = row_sized;
        sized = λ s. refl;
        not_refused = λ s a b c. rw (eq-eqb (sweep_refusal g o) 0 z, le-ltb (cases_of g o) s.number a, lt-leb (steps_of g) s.made b) (at_the_end s.number s.made (cases_of g o) c);
        ends = λ s h. refl;
        wants_room_lem = λ s a b. refl;
        writes = λ s a b. refl;
        moves = λ s a b. refl;
      }

  -- the steps of a case, from any of them on
  pub from_is : (z : sweep_refusal g o ≡ 0) (n k i : ℕ) (c : OpenCase) → strides.case_from (swept z) k i c n ≡ case_from g (fault_of o k) i c n
  unfolding strides.case_from case_from
  from_is z zero k i c = refl
  from_is z (suc n) k i c = from_is z n k (suc i) (case_step g (fault_of o k) i c)
