-- What a caller learns from the contracts in src/, as Rattle reads their clauses, is the definition of the result, and nothing is asked of the caller. Assumes nothing.
use mathlib.Core.Path.{◌≡◌}
use contract.Lifetimes.{Lfts}
use borrow.Fn.World.{ArgsD, ResD}
use borrow.Fn.Kinds.{ended_of}
use denote.Triple.Clauses.{AtExit}
use Rattle.rules.specs.Studies.{number_of, flow_refusal, detection_refusal, switching_refusal, fault_refusal, sweep_refusal, point_refusal}
use Rattle.rules.specs.contracts.studies.check_flow as check-flow-contract
use Rattle.rules.proofs.studies.check_flow.Kinds as check-flow-kinds
use Rattle.rules.proofs.studies.check_flow.Reads as check-flow-reads
use Rattle.rules.specs.contracts.studies.check_detection as check-detection-contract
use Rattle.rules.proofs.studies.check_detection.Kinds as check-detection-kinds
use Rattle.rules.proofs.studies.check_detection.Reads as check-detection-reads
use Rattle.rules.specs.contracts.studies.check_switching as check-switching-contract
use Rattle.rules.proofs.studies.check_switching.Kinds as check-switching-kinds
use Rattle.rules.proofs.studies.check_switching.Reads as check-switching-reads
use Rattle.rules.specs.contracts.studies.check_fault as check-fault-contract
use Rattle.rules.proofs.studies.check_fault.Kinds as check-fault-kinds
use Rattle.rules.proofs.studies.check_fault.Reads as check-fault-reads
use Rattle.rules.specs.contracts.studies.check_sweep as check-sweep-contract
use Rattle.rules.proofs.studies.check_sweep.Kinds as check-sweep-kinds
use Rattle.rules.proofs.studies.check_sweep.Reads as check-sweep-reads
use Rattle.rules.specs.contracts.studies.check_operating_point as check-operating-point-contract
use Rattle.rules.proofs.studies.check_operating_point.Kinds as check-operating-point-kinds
use Rattle.rules.proofs.studies.check_operating_point.Reads as check-operating-point-reads
use Rattle.rules.specs.contracts.studies.Refusal.number as number-contract
use Rattle.rules.proofs.studies.Refusal.number.Reads as number-reads

module _ (κs : Lfts 0) (a : ArgsD check-flow-contract.signature κs) (r : ResD check-flow-contract.signature κs) (e : AtExit (ended_of 0 check-flow-kinds.ps check-flow-kinds.r) κs) where
  pub check_flow_any : check-flow-reads.Asked κs a
  check_flow_any = tt

  pub check_flow_is : check-flow-reads.Learnt κs a r e → number_of r ≡ flow_refusal a.0
  check_flow_is h = h

module _ (κs : Lfts 0) (a : ArgsD check-detection-contract.signature κs) (r : ResD check-detection-contract.signature κs) (e : AtExit (ended_of 0 check-detection-kinds.ps check-detection-kinds.r) κs) where
  pub check_detection_any : check-detection-reads.Asked κs a
  check_detection_any = tt

  pub check_detection_is : check-detection-reads.Learnt κs a r e → number_of r ≡ detection_refusal a.0
  check_detection_is h = h

module _ (κs : Lfts 0) (a : ArgsD check-switching-contract.signature κs) (r : ResD check-switching-contract.signature κs) (e : AtExit (ended_of 0 check-switching-kinds.ps check-switching-kinds.r) κs) where
  pub check_switching_any : check-switching-reads.Asked κs a
  check_switching_any = tt

  pub check_switching_is : check-switching-reads.Learnt κs a r e → number_of r ≡ switching_refusal a.0
  check_switching_is h = h

module _ (κs : Lfts 0) (a : ArgsD check-fault-contract.signature κs) (r : ResD check-fault-contract.signature κs) (e : AtExit (ended_of 0 check-fault-kinds.ps check-fault-kinds.r) κs) where
  pub check_fault_any : check-fault-reads.Asked κs a
  check_fault_any = tt

  pub check_fault_is : check-fault-reads.Learnt κs a r e → number_of r ≡ fault_refusal a.0 a.1.0
  check_fault_is h = h

module _ (κs : Lfts 0) (a : ArgsD check-sweep-contract.signature κs) (r : ResD check-sweep-contract.signature κs) (e : AtExit (ended_of 0 check-sweep-kinds.ps check-sweep-kinds.r) κs) where
  pub check_sweep_any : check-sweep-reads.Asked κs a
  check_sweep_any = tt

  pub check_sweep_is : check-sweep-reads.Learnt κs a r e → number_of r ≡ sweep_refusal a.0 a.1.0
  check_sweep_is h = h

module _ (κs : Lfts 0) (a : ArgsD check-operating-point-contract.signature κs) (r : ResD check-operating-point-contract.signature κs) (e : AtExit (ended_of 0 check-operating-point-kinds.ps check-operating-point-kinds.r) κs) where
  pub check_operating_point_any : check-operating-point-reads.Asked κs a
  check_operating_point_any = tt

  pub check_operating_point_is : check-operating-point-reads.Learnt κs a r e → number_of r ≡ point_refusal a.0
  check_operating_point_is h = h

pub number_any : (κs : Lfts 0) (a : ArgsD number-contract.signature κs) → number-reads.Asked κs a
number_any κs a = tt
