-- The claims speak of what the code returns: what a caller learns from the contracts of `switching_plan` and `switching_step`, as Rattle reads their clauses, gives the claim of the result. Assumes nothing.
use Prim.Native.Nat.{ℕ, suc, ◌≤◌}
use mathlib.Core.Path.{◌≡◌, ap, ◌∙◌}
use contract.Lifetimes.{Lfts}
use borrow.Fn.World.{ArgsD, ResD}
use borrow.Fn.Kinds.{ended_of}
use denote.Triple.Clauses.{AtExit}
use Rattle.switching_plan.specs.declared.variables.SwitchingVariables.{SwitchingVariables}
use Rattle.switching_plan.specs.declared.plan.SwitchingPlan.{SwitchingPlan}
use Rattle.switching_plan.specs.Switching.{switching_body, switching_after}
use Rattle.switching_plan.specs.Plans.{switching_plan_step}
use Rattle.switching_step_claims.proofs.Claims.{plan_claims}
use Rattle.switching_plan.specs.contracts.switching_plan as switching-plan-contract
use Rattle.switching_plan.proofs.switching_plan.Kinds as switching-plan-kinds
use Rattle.switching_plan.proofs.switching_plan.Reads as switching-plan-reads
use Rattle.switching_plan.specs.contracts.first_switching_variables as first-switching-contract
use Rattle.switching_plan.proofs.first_switching_variables.Kinds as first-switching-kinds
use Rattle.switching_plan.proofs.first_switching_variables.Reads as first-switching-reads
use Rattle.switching_step.specs.contracts.switching_step as switching-step-contract
use Rattle.switching_step.proofs.switching_step.Kinds as switching-step-kinds
use Rattle.switching_step.proofs.switching_step.Reads as switching-step-reads

module _ (κs : Lfts 0) (a : ArgsD switching-plan-contract.signature κs) (r : ResD switching-plan-contract.signature κs) (e : AtExit (ended_of 0 switching-plan-kinds.ps switching-plan-kinds.r) κs) where
  module _ (h : switching-plan-reads.Learnt κs a r e) (n : a.0.n_stations ≤ 32) (m : a.0.n_cables ≤ 64) (k : a.0.n_breakers ≤ 32) where
    pub switching_plan_step_lem : (step : ℕ) (v : SwitchingVariables) → switching_plan_step r step v ≡ switching_body a.0 a.1.0 a.1.1.0 step v
    switching_plan_step_lem step v = rw h (plan_claims.switching a.0 a.1.0 a.1.1.0 n m k step v)

    module _ (b : ArgsD switching-step-contract.signature κs) (s : ResD switching-step-contract.signature κs) (d : AtExit (ended_of 0 switching-step-kinds.ps switching-step-kinds.r) κs) (l : switching-step-reads.Learnt κs b s d) (made : b.0 ≡ r) where
      pub switching_step_body : s ≡ switching_body a.0 a.1.0 a.1.1.0 b.1.0 b.1.1.0
      switching_step_body = l ∙ ap (λ (p : SwitchingPlan). switching_plan_step p b.1.0 b.1.1.0) made ∙ switching_plan_step_lem b.1.0 b.1.1.0

      pub switching_step_next : b.1.1.0 ≡ switching_after a.0 a.1.0 a.1.1.0 b.1.0 → s ≡ switching_after a.0 a.1.0 a.1.1.0 (suc b.1.0)
      unfolding switching_after
      switching_step_next v = switching_step_body ∙ ap (λ (w : SwitchingVariables). switching_body a.0 a.1.0 a.1.1.0 b.1.0 w) v

module _ (κs : Lfts 0) (a : ArgsD first-switching-contract.signature κs) (r : ResD first-switching-contract.signature κs) (e : AtExit (ended_of 0 first-switching-kinds.ps first-switching-kinds.r) κs) where
  -- whatever the breaker
  pub first_switching_after : first-switching-reads.Learnt κs a r e → (number : ℕ) → r ≡ switching_after a.0 number a.1.0 0
  unfolding switching_after
  first_switching_after h number = h
