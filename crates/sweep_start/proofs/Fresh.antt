-- A sweep after 0 steps: its first case is open, as before its first step. Assumes nothing.
use Prim.Native.Nat.{◌*◌, ◌≤◌, ◌<◌}
use native.Mathlib.Nat.{zero-div, zero-mod, mul-le-mul}
use native.Mathlib.Omega.{arith}
use mathlib.Core.Path.{◌≡◌, refl, ap}
use lib.ListN.{length, take, length-take}
use borrow.Author.Tests.{lt-ltb, eq-eqb, eqb-false, not-true}
use Rattle.grid.specs.declared.parts.SweepOrder.{SweepOrder}
use Rattle.grid.specs.declared.simulator.DcSwitchingSimulator.{DcSwitchingSimulator}
use Rattle.timing.specs.Steps.{steps_of}
use Rattle.rule_tests.specs.Rules.{no_cable}
use Rattle.rules.specs.Studies.{sweep_refusal, flow_refusal}
use Rattle.rule_claims.proofs.Claims.{accepted_claims}
use Rattle.power_flow.specs.declared.flow.DcGridSolution.{DcGridSolution}
use Rattle.power_flow.specs.Flow.{solution_of, flow_answer}
use Rattle.fault_plan.specs.Fault.{fault_after}
use Rattle.fault_cases.specs.Cases.{tenths_of, cases_of, fault_of}
use Rattle.case_listing.specs.Listing.{some_detected, clearing_current}
use Rattle.fault_cases.proofs.Numbers.{tenths_few}
use Rattle.case_steps.specs.OpenCases.{start_case}
use Rattle.fault_sweep.specs.KeptSweep.{case_after, kept_at, sweep_after}
use Rattle.sweep_start.proofs.Accepted.{some_cable, flow-accepted}

module _ (g : DcSwitchingSimulator) (o : SweepOrder) (z : sweep_refusal g o ≡ 0) where
  pub flow_is : flow_answer g ≡ solution_of g
  unfolding flow_answer
  flow_is = rw (eq-eqb (flow_refusal g) 0 (flow-accepted g o z))

  module _ (long : length g.cables ≡ 64) where
    some_cases : 1 ≤ cases_of g o
    some_cases =
        let n = eqb-false g.n_cables 0 (not-true (no_cable g) (some_cable g o z)) in
        let m : 1 ≤ length (take g.n_cables g.cables) = simp length-take (omega arith) in
        omega (arith, mul-le-mul {n₁ = 1} {m₁ = 3} m (let t : 3 ≤ 3 * tenths_of o = omega (arith, (tenths_few o).0) in t))

    some_steps : 0 < steps_of g * cases_of g o
    some_steps = omega (arith, mul-le-mul {n₁ = 1} {m₁ = 1} (accepted_claims.sweep g o z).0 some_cases)

    at_first : case_after g (fault_of o 0) 0 ≡ start_case g
    unfolding fault_after some_detected clearing_current
    at_first = refl

    pub fresh_is : (flow : DcGridSolution) → sweep_after g o flow 0 ≡ kept_at g o flow 0 0 (start_case g)
    unfolding sweep_after
    fresh_is flow = rw (lt-ltb 0 (steps_of g * cases_of g o) some_steps, zero-div, zero-mod) (ap (kept_at g o flow 0 0) at_first)
