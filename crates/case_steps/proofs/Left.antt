-- The steps that are left of some. Assumes nothing.
use Prim.Native.Nat.{ℕ, suc, ◌+◌, ◌-◌, ◌≤◌, ◌<◌}
use native.Mathlib.Numerals.{add-one}
use native.Mathlib.Omega.{arith}
use mathlib.Core.Path.{◌≡◌}
use Rattle.fault_plan.specs.declared.plan.FaultPlan.{FaultPlan}
use Rattle.case_steps.specs.declared.open_case.OpenCase.{OpenCase}
use Rattle.case_steps.specs.Plans.{plan_case_step, plan_case_from}

module _ (p : FaultPlan) (step end : ℕ) (c : OpenCase) where
  -- those left after one more
  pub one_more : step < end → plan_case_from p (step + 1) (plan_case_step p step c) (end - (step + 1)) ≡ plan_case_from p step c (end - step)
  unfolding plan_case_from
  one_more l = let e : end - step ≡ suc (end - (step + 1)) = omega arith in rw (e, add-one)

  pub none_left : end ≤ step → plan_case_from p step c (end - step) ≡ c
  unfolding plan_case_from
  none_left l = let e : end - step ≡ 0 = omega arith in rw e
