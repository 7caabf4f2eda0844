-- The steps of a fault run. Assumes nothing.
use Prim.Native.Nat.{ℕ, ◌≤◌}
use mathlib.Core.Path.{◌≡◌, sym, ap, ◌∙◌}
use mathlib.Core.Bool.{Bool, true, false, cond, ◌||◌}
use Rattle.lists.proofs.Counting.{by-test, contrary}
use Rattle.timing.specs.Steps.{steps_of}
use Rattle.rules.specs.Studies.{fault_refusal}
use Rattle.rule_claims.proofs.Claims.{accepted_claims}
use Rattle.rule_claims.proofs.Sizes.{size_claims}
use Rattle.fault_plan.specs.declared.variables.FaultVariables.{FaultVariables}
use Rattle.fault_plan.specs.declared.plan.FaultPlan.{FaultPlan}
use Rattle.fault_plan.specs.Fault.{fault_body}
use Rattle.fault_plan.specs.Plans.{plan_of, plan_step}
use Rattle.fault_plan.specs.Quiet.{waits_by, rests_by, quiet_step}
use Rattle.fault_plan.proofs.Phases.{still_resting}
use Rattle.fault_step_claims.proofs.Claims.{plan_claims}
use Rattle.runs.specs.Kinds.{Ready}
use Rattle.runs.proofs.Refusals.{unbroken}
use Rattle.fault_runs.specs.declared.fault_run.FaultRun.{FaultRun}
use Rattle.fault_runs.specs.FaultRuns.{fault_run_refused}

-- a run that is not refused
module _ (s : FaultRun) (h : fault_run_refused s ≡ false) where
  both : (fault_refusal s.grid s.fault ≡ 0) × (s.steps_made ≤ steps_of s.grid)
  unfolding fault_run_refused
  both = unbroken (fault_refusal s.grid s.fault) (steps_of s.grid) s.steps_made h

  accepted : fault_refusal s.grid s.fault ≡ 0
  accepted = both.0

  pub ready : Ready s.grid s.steps_made
  ready = record { steps = accepted_claims.fault s.grid s.fault accepted; sizes = size_claims.fault s.grid s.fault accepted; not_past = both.1 }

  -- a step by the plan is the body
  pub by_plan : (p : FaultPlan) → p ≡ plan_of s.grid s.fault → (j : ℕ) (w : FaultVariables) → plan_step p j w ≡ fault_body s.grid s.fault j w
  by_plan p e j w =
      let sizes = size_claims.fault s.grid s.fault accepted in
      ap (λ (q : FaultPlan). plan_step q j w) e ∙ plan_claims.fault s.grid s.fault sizes.stations sizes.cables j w

-- one turn, with the flag that the run rests: a quiet step where it is set or the run waits
module _ (p : FaultPlan) (made : ℕ) (v : FaultVariables) (resting : Bool) (flag : resting ≡ true → rests_by p v ≡ true) where
  pub quietly : (w : Bool) → w ≡ waits_by p.constants made v → (resting || w) ≡ true → quiet_step p.constants made v ≡ plan_step p made v
  quietly w e h =
      by-test resting
      (λ r. plan_claims.resting p made v (flag r))
      (λ r. plan_claims.waiting p made v (sym e ∙ (rw r at h)))

  pub still : resting ≡ true → rests_by p (plan_step p made v) ≡ true
  still r = plan_claims.still_resting p made v (flag r)

-- a run that waits does not rest
unrested : (p : FaultPlan) (made : ℕ) (v : FaultVariables) → waits_by p.constants made v ≡ true → rests_by p v ≡ false
unfolding rests_by
unrested p made v h = by-test v.fault_cleared (λ c. contrary h (rw c)) (λ c. rw c)

-- a turn that is quiet, by any plan: where it is not by the flag, the run waits
module _ (p : FaultPlan) (made : ℕ) (v : FaultVariables) (resting w : Bool) (is_w : w ≡ waits_by p.constants made v) (h : (resting || w) ≡ true) where
  waiting : resting ≡ false → waits_by p.constants made v ≡ true
  waiting r = sym is_w ∙ (rw r at h)

  pub quietly_by : quiet_step p.constants made v ≡ cond resting (quiet_step p.constants made v) (plan_step p made v)
  quietly_by = by-test resting (λ r. rw r) (λ r. rw r (plan_claims.waiting p made v (waiting r)))

  pub flag_kept : resting ≡ (resting || rests_by p (cond resting (quiet_step p.constants made v) (plan_step p made v)))
  flag_kept = by-test resting (λ r. rw r) (λ r. rw r (sym (ap (rests_by p) (sym (plan_claims.waiting p made v (waiting r))) ∙ still_resting p made v ∙ unrested p made v (waiting r))))

-- a turn that is not quiet: the flag is not set
pub unset : (resting w : Bool) → (resting || w) ≡ false → resting ≡ false
unset resting w h = by-test resting (λ r. contrary (rw r) h) (λ r. r)
