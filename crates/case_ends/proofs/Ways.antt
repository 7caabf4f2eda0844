-- From what the code has worked out to the outcome of a case. Assumes nothing.
use Prim.Native.Nat.{ℕ, ◌-◌}
use mathlib.Core.Path.{◌≡◌, refl, sym, ap, ◌∙◌}
use mathlib.Core.Bool.{Bool, true, false, cond}
use Rattle.grid.specs.declared.parts.DcFaultType.{DcFaultType}
use Rattle.grid.specs.declared.simulator.DcSwitchingSimulator.{DcSwitchingSimulator}
use Rattle.fault_circuit.specs.Circuit.{type_factor}
use Rattle.fault_plan.specs.declared.plan.FaultPlan.{FaultPlan}
use Rattle.fault_plan.specs.Fault.{before_loop}
use Rattle.fault_window.specs.declared.steps.Window.{Window}
use Rattle.fault_sums.specs.declared.steps.Sums.{Sums}
use Rattle.fault_sums.specs.Sums.{no_sums, sums_of, with_factor}
use Rattle.case_reasons.specs.declared.reasons.CaseOutcome.{CaseOutcome}
use Rattle.case_steps.specs.declared.open_case.OpenCase.{OpenCase}
use Rattle.case_steps.specs.OpenCases.{start_case, outcome_in}
use Rattle.case_steps.specs.Plans.{plan_case_from}
use Rattle.case_detection.proofs.TypeFree.{type_free}
use Rattle.case_ends.specs.Ends.{sums_at, outcome_from, end_by, of_type}

module _ (p : FaultPlan) (first : ℕ) (w : Window) (c : OpenCase) where
  -- where the fault is cleared already, and where it is not
  pub otherwise : CaseOutcome
  otherwise = outcome_from w (sums_at p w c) c.clearing_current_ka (plan_case_from p first c (w.to - first)).detected

  pub cleared_end : c.variables.fault_cleared ≡ true → end_by p first w c ≡ outcome_in c
  unfolding end_by otherwise
  cleared_end e = ap (λ (t : Bool). cond t (outcome_in c) otherwise) e

  pub lasting_end : c.variables.fault_cleared ≡ false → end_by p first w c ≡ outcome_from w (sums_at p w c) c.clearing_current_ka (plan_case_from p first c (w.to - first)).detected
  unfolding end_by otherwise
  lasting_end e = ap (λ (t : Bool). cond t (outcome_in c) otherwise) e

  pub lasting_way : c.variables.fault_cleared ≡ false → {s : Sums} {d : Bool} {r : CaseOutcome} → s ≡ sums_at p w c → d ≡ (plan_case_from p first c (w.to - first)).detected
      → r ≡ outcome_from w s c.clearing_current_ka d → r ≡ end_by p first w c
  lasting_way e is-s is-d is-r = is-r ∙ (λ i. outcome_from w (is-s i) c.clearing_current_ka (is-d i)) ∙ sym (lasting_end e)

-- of a type of fault, from the first step on
pub site_way : (g : DcSwitchingSimulator) (p : FaultPlan) (w : Window) (type : DcFaultType) {s : Sums} {d : Bool} {r : CaseOutcome}
    → s ≡ sums_of (with_factor p.constants.circuit (type_factor type)) p.constants.dt_ms w.from no_sums (w.to - w.from)
    → d ≡ (plan_case_from p 0 (start_case g) (w.to - 0)).detected
    → r ≡ outcome_from w s (start_case g).clearing_current_ka d → r ≡ end_by (of_type p type) 0 w (start_case g)
unfolding before_loop
site_way g p w type is-s is-d is-r = lasting_way (of_type p type) 0 w (start_case g) refl is-s (is-d ∙ sym (type_free p (type_factor type) 0 (w.to - 0) (start_case g))) is-r
