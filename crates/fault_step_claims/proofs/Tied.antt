-- The claims speak of what the code returns: what a caller learns from the contracts of `fault_plan` and `fault_step`, as Rattle reads their clauses, gives the claim of the result.
-- Assumes nothing.
use Prim.Native.Nat.{ℕ, suc, ◌≤◌}
use mathlib.Core.Path.{◌≡◌, ap, ◌∙◌}
use mathlib.Core.Bool.{true, false}
use lib.Ieee.{le}
use contract.Lifetimes.{Lfts}
use borrow.Fn.World.{ArgsD, ResD}
use borrow.Fn.Kinds.{ended_of}
use denote.Triple.Clauses.{AtExit}
use Rattle.grid.specs.declared.parts.DcFaultEvent.{DcFaultEvent}
use Rattle.timing.specs.Steps.{time_of_step}
use Rattle.fault_plan.specs.declared.variables.FaultVariables.{FaultVariables}
use Rattle.fault_plan.specs.declared.plan.FaultPlan.{FaultPlan}
use Rattle.fault_plan.specs.declared.plan.FaultConstants.{FaultConstants}
use Rattle.fault_plan.specs.Fault.{fault_body, fault_after}
use Rattle.fault_plan.specs.Plans.{plan_step}
use Rattle.fault_plan.specs.Quiet.{waits_by, rests_by, quiet_step}
use Rattle.fault_step_claims.specs.Claims.{Stays}
use Rattle.fault_step_claims.proofs.Claims.{plan_claims, step_claims}
use Rattle.fault_plan.specs.contracts.fault_plan as plan-contract
use Rattle.fault_plan.proofs.fault_plan.Kinds as plan-kinds
use Rattle.fault_plan.proofs.fault_plan.Reads as plan-reads
use Rattle.fault_plan.specs.contracts.first_fault_variables as first-contract
use Rattle.fault_plan.proofs.first_fault_variables.Kinds as first-kinds
use Rattle.fault_plan.proofs.first_fault_variables.Reads as first_reads
use Rattle.fault_step.specs.contracts.fault_step as step-contract
use Rattle.fault_step.proofs.fault_step.Kinds as step-kinds
use Rattle.fault_step.proofs.fault_step.Reads as step-reads
use Rattle.fault_plan.specs.contracts.quiet_step as quiet-contract
use Rattle.fault_plan.proofs.quiet_step.Kinds as quiet-kinds
use Rattle.fault_plan.proofs.quiet_step.Reads as quiet-reads

-- a grid and a fault, and the plan that `fault_plan` made of them
module _ (κs : Lfts 0) (a : ArgsD plan-contract.signature κs) (r : ResD plan-contract.signature κs) (e : AtExit (ended_of 0 plan-kinds.ps plan-kinds.r) κs) where
  module _ (h : plan-reads.Learnt κs a r e) (n : a.0.n_stations ≤ 32) (m : a.0.n_cables ≤ 64) where
    -- a step by that plan is 000's
    pub plan_step_lem : (step : ℕ) (v : FaultVariables) → plan_step r step v ≡ fault_body a.0 a.1.0 step v
    plan_step_lem step v = rw h (plan_claims.fault a.0 a.1.0 n m step v)

    -- and so is what `fault_step` returns with it
    module _ (b : ArgsD step-contract.signature κs) (s : ResD step-contract.signature κs) (d : AtExit (ended_of 0 step-kinds.ps step-kinds.r) κs) (l : step-reads.Learnt κs b s d) (made : b.0 ≡ r) where
      pub step_body : s ≡ fault_body a.0 a.1.0 b.1.0 b.1.1.0
      step_body = l ∙ ap (λ (p : FaultPlan). plan_step p b.1.0 b.1.1.0) made ∙ plan_step_lem b.1.0 b.1.1.0

      pub step_time : s.state.time_ms ≡ time_of_step a.0 b.1.0
      step_time = rw step_body (step_claims.fault_time a.0 a.1.0 b.1.0 b.1.1.0)

      pub step_before_inception
          : b.1.1.0.fault_active ≡ false → b.1.1.0.fault_cleared ≡ false → le a.1.0.inception_time_ms (time_of_step a.0 b.1.0) ≡ false
          → s.state.y ≡ b.1.1.0.state.y
      step_before_inception p q t = rw step_body (step_claims.before_inception_lem a.0 a.1.0 b.1.0 b.1.1.0 p q t)

      module _ (c : b.1.1.0.fault_cleared ≡ true) where
        pub step_after_clearing : Stays a.0 b.1.1.0 s
        step_after_clearing = rw step_body (step_claims.after_clearing_lem a.0 a.1.0 b.1.0 b.1.1.0 c)

      -- from 000's variables after k steps, step k leaves those after one more
      pub step_next : b.1.1.0 ≡ fault_after a.0 a.1.0 b.1.0 → s ≡ fault_after a.0 a.1.0 (suc b.1.0)
      unfolding fault_after
      step_next v = step_body ∙ ap (λ (w : FaultVariables). fault_body a.0 a.1.0 b.1.0 w) v

module _ (κs : Lfts 0) (a : ArgsD first-contract.signature κs) (r : ResD first-contract.signature κs) (e : AtExit (ended_of 0 first-kinds.ps first-kinds.r) κs) where
  -- whatever the fault
  pub first_after : first_reads.Learnt κs a r e → (f : DcFaultEvent) → r ≡ fault_after a.0 f 0
  unfolding fault_after
  first_after h f = h

module _ (κs : Lfts 0) (a : ArgsD quiet-contract.signature κs) (r : ResD quiet-contract.signature κs) (e : AtExit (ended_of 0 quiet-kinds.ps quiet-kinds.r) κs) where
  -- what `quiet_step` returns where the code tests for it is the plan's step
  module _ (h : quiet-reads.Learnt κs a r e) (p : FaultPlan) (same : a.0 ≡ p.constants) where
    as_plan : r ≡ quiet_step p.constants a.1.0 a.1.1.0
    as_plan = h ∙ ap (λ (k : FaultConstants). quiet_step k a.1.0 a.1.1.0) same

    pub quiet_waiting : waits_by p.constants a.1.0 a.1.1.0 ≡ true → r ≡ plan_step p a.1.0 a.1.1.0
    quiet_waiting w = as_plan ∙ plan_claims.waiting p a.1.0 a.1.1.0 w

    pub quiet_resting : rests_by p a.1.1.0 ≡ true → r ≡ plan_step p a.1.0 a.1.1.0
    quiet_resting w = as_plan ∙ plan_claims.resting p a.1.0 a.1.1.0 w

    pub quiet_rests_on : rests_by p a.1.1.0 ≡ true → rests_by p r ≡ true
    quiet_rests_on w = rw (quiet_resting w) (plan_claims.still_resting p a.1.0 a.1.1.0 w)
