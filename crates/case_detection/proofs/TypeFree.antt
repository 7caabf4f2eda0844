-- Whether a fault is detected does not depend on the type of the fault: plans that differ in the circuit's type factor alone agree. Assumes nothing.
use Prim.Native.Nat.{ℕ, zero, suc}
use mathlib.Core.Path.{◌≡◌, refl, sym, ◌∙◌}
use lib.Ieee.{Float}
use Rattle.fault_plan.specs.declared.plan.FaultPlan.{FaultPlan}
use Rattle.case_steps.specs.declared.open_case.OpenCase.{OpenCase}
use Rattle.case_steps.specs.Plans.{plan_case_from}
use Rattle.case_detection.proofs.Looks.{Look, look, look_step, look_from, from_looks}
use Rattle.case_detection.proofs.TypeFactor.{with_factor}

module _ (p : FaultPlan) (x : Float) where
  same_step : (step : ℕ) (k : Look) → look_step (with_factor p x) step k ≡ look_step p step k
  unfolding look_step
  same_step step k = refl

  same_looks : (n first : ℕ) (k : Look) → look_from (with_factor p x) first k n ≡ look_from p first k n
  unfolding look_from
  same_looks zero first k = refl
  same_looks (suc n) first k = rw (same_step first k) (same_looks n (suc first) (look_step p first k))

  pub type_free : (first n : ℕ) (c : OpenCase) → (plan_case_from (with_factor p x) first c n).detected ≡ (plan_case_from p first c n).detected
  type_free first n c = from_looks (with_factor p x) n first c ∙ rw (same_looks n first (look c)) (sym (from_looks p n first c))
