-- The claims speak of what the code returns: what a caller learns from a contract of `rules`, as Rattle reads its clauses, gives the claim of the result.
-- Assumes nothing.
use mathlib.Core.Path.{◌≡◌, sym, subst}
use mathlib.Core.Logic.{◌↔◌}
use mathlib.Core.Bool.{true, false, not}
use Prim.Native.Nat.{ℕ}
use contract.Lifetimes.{Lfts}
use borrow.Fn.World.{ArgsD, ResD}
use borrow.Fn.Kinds.{ended_of}
use denote.Triple.Clauses.{AtExit}
use Rattle.part_checks.specs.PartChecks.{station_ok, fault_ok, order_ok}
use Rattle.rules.specs.Studies.{number_of, broken, flow_order, detection_order, switching_order, fault_order}
use Rattle.rule_claims.specs.Claims.{Decides}
use Rattle.rule_claims.proofs.Claims.{refusal_claims}
use Rattle.rules.specs.contracts.check_flow as check-flow-contract
use Rattle.rules.proofs.check_flow.Kinds as check-flow-kinds
use Rattle.rules.proofs.check_flow.Reads as check-flow-reads
use Rattle.rules.specs.contracts.check_detection as check-detection-contract
use Rattle.rules.proofs.check_detection.Kinds as check-detection-kinds
use Rattle.rules.proofs.check_detection.Reads as check-detection-reads
use Rattle.rules.specs.contracts.check_switching as check-switching-contract
use Rattle.rules.proofs.check_switching.Kinds as check-switching-kinds
use Rattle.rules.proofs.check_switching.Reads as check-switching-reads
use Rattle.rules.specs.contracts.check_fault as check-fault-contract
use Rattle.rules.proofs.check_fault.Kinds as check-fault-kinds
use Rattle.rules.proofs.check_fault.Reads as check-fault-reads
use Rattle.rules.specs.contracts.check_sweep as check-sweep-contract
use Rattle.rules.proofs.check_sweep.Kinds as check-sweep-kinds
use Rattle.rules.proofs.check_sweep.Reads as check-sweep-reads
use Rattle.rules.specs.contracts.check_operating_point as check-operating-point-contract
use Rattle.rules.proofs.check_operating_point.Kinds as check-operating-point-kinds
use Rattle.rules.proofs.check_operating_point.Reads as check-operating-point-reads

module _ (κs : Lfts 0) (a : ArgsD check-flow-contract.signature κs) (r : ResD check-flow-contract.signature κs) (e : AtExit (ended_of 0 check-flow-kinds.ps check-flow-kinds.r) κs) where
  pub check_flow_decides : check-flow-reads.Learnt κs a r e → Decides (number_of r) (broken a.0 false) flow_order
  check_flow_decides h = subst (λ (k : ℕ). Decides k (broken a.0 false) flow_order) (sym h) (refusal_claims.flow a.0)

module _ (κs : Lfts 0) (a : ArgsD check-detection-contract.signature κs) (r : ResD check-detection-contract.signature κs) (e : AtExit (ended_of 0 check-detection-kinds.ps check-detection-kinds.r) κs) where
  pub check_detection_decides : check-detection-reads.Learnt κs a r e → Decides (number_of r) (broken a.0 false) detection_order
  check_detection_decides h = subst (λ (k : ℕ). Decides k (broken a.0 false) detection_order) (sym h) (refusal_claims.detection a.0)

module _ (κs : Lfts 0) (a : ArgsD check-switching-contract.signature κs) (r : ResD check-switching-contract.signature κs) (e : AtExit (ended_of 0 check-switching-kinds.ps check-switching-kinds.r) κs) where
  pub check_switching_decides : check-switching-reads.Learnt κs a r e → Decides (number_of r) (broken a.0 false) switching_order
  check_switching_decides h = subst (λ (k : ℕ). Decides k (broken a.0 false) switching_order) (sym h) (refusal_claims.switching a.0)

module _ (κs : Lfts 0) (a : ArgsD check-fault-contract.signature κs) (r : ResD check-fault-contract.signature κs) (e : AtExit (ended_of 0 check-fault-kinds.ps check-fault-kinds.r) κs) where
  pub check_fault_decides : check-fault-reads.Learnt κs a r e → Decides (number_of r) (broken a.0 (not (fault_ok a.1.0))) fault_order
  check_fault_decides h = subst (λ (k : ℕ). Decides k (broken a.0 (not (fault_ok a.1.0))) fault_order) (sym h) (refusal_claims.fault a.0 a.1.0)

module _ (κs : Lfts 0) (a : ArgsD check-sweep-contract.signature κs) (r : ResD check-sweep-contract.signature κs) (e : AtExit (ended_of 0 check-sweep-kinds.ps check-sweep-kinds.r) κs) where
  pub check_sweep_decides : check-sweep-reads.Learnt κs a r e → Decides (number_of r) (broken a.0 (not (order_ok a.1.0))) fault_order
  check_sweep_decides h = subst (λ (k : ℕ). Decides k (broken a.0 (not (order_ok a.1.0))) fault_order) (sym h) (refusal_claims.sweep a.0 a.1.0)

module _ (κs : Lfts 0) (a : ArgsD check-operating-point-contract.signature κs) (r : ResD check-operating-point-contract.signature κs) (e : AtExit (ended_of 0 check-operating-point-kinds.ps check-operating-point-kinds.r) κs) where
  pub check_operating_point_decides : check-operating-point-reads.Learnt κs a r e → ((number_of r ≡ 6) ↔ (station_ok a.0 ≡ false)) × ((number_of r ≡ 0) ↔ (station_ok a.0 ≡ true))
  check_operating_point_decides h = subst (λ (k : ℕ). ((k ≡ 6) ↔ (station_ok a.0 ≡ false)) × ((k ≡ 0) ↔ (station_ok a.0 ≡ true))) (sym h) (refusal_claims.point_refused a.0, refusal_claims.point_accepted a.0)
