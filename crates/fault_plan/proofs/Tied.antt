-- What a caller learns from the contracts in src/, as Rattle reads their clauses, is the definition of the result, and nothing is asked of the caller. Assumes nothing.
use mathlib.Core.Path.{◌≡◌}
use contract.Lifetimes.{Lfts}
use borrow.Fn.World.{ArgsD, ResD}
use borrow.Fn.Kinds.{ended_of}
use denote.Triple.Clauses.{AtExit}
use Rattle.fault_plan.specs.Fault.{fresh_variables, before_loop}
use Rattle.fault_plan.specs.Plans.{plan_of, constants_of}
use Rattle.fault_plan.specs.Quiet.{waits_by, rests_by, quiet_step}
use Rattle.fault_plan.specs.contracts.plan.fault_plan as plan-contract
use Rattle.fault_plan.proofs.plan.fault_plan.Kinds as plan-kinds
use Rattle.fault_plan.proofs.plan.fault_plan.Reads as plan-reads
use Rattle.fault_plan.specs.contracts.plan.first_fault_variables as first-contract
use Rattle.fault_plan.proofs.plan.first_fault_variables.Kinds as first-kinds
use Rattle.fault_plan.proofs.plan.first_fault_variables.Reads as first_reads
use Rattle.fault_plan.specs.contracts.variables.fresh_variables as fresh-contract
use Rattle.fault_plan.proofs.variables.fresh_variables.Kinds as fresh-kinds
use Rattle.fault_plan.proofs.variables.fresh_variables.Reads as fresh-reads
use Rattle.fault_plan.specs.contracts.quiet.waits as waits-contract
use Rattle.fault_plan.proofs.quiet.waits.Kinds as waits-kinds
use Rattle.fault_plan.proofs.quiet.waits.Reads as waits-reads
use Rattle.fault_plan.specs.contracts.quiet.rests as rests-contract
use Rattle.fault_plan.proofs.quiet.rests.Kinds as rests-kinds
use Rattle.fault_plan.proofs.quiet.rests.Reads as rests-reads
use Rattle.fault_plan.specs.contracts.quiet.quiet_step as quiet-contract
use Rattle.fault_plan.proofs.quiet.quiet_step.Kinds as quiet-kinds
use Rattle.fault_plan.proofs.quiet.quiet_step.Reads as quiet-reads
use Rattle.fault_plan.specs.contracts.plan.fault_constants as constants-contract
use Rattle.fault_plan.proofs.plan.fault_constants.Kinds as constants-kinds
use Rattle.fault_plan.proofs.plan.fault_constants.Reads as constants-reads

module _ (κs : Lfts 0) (a : ArgsD plan-contract.signature κs) (r : ResD plan-contract.signature κs) (e : AtExit (ended_of 0 plan-kinds.ps plan-kinds.r) κs) where
  pub plan_any : plan-reads.Asked κs a
  plan_any = tt

  pub plan_is : plan-reads.Learnt κs a r e → r ≡ plan_of a.0 a.1.0
  plan_is h = h

module _ (κs : Lfts 0) (a : ArgsD constants-contract.signature κs) (r : ResD constants-contract.signature κs) (e : AtExit (ended_of 0 constants-kinds.ps constants-kinds.r) κs) where
  pub constants_any : constants-reads.Asked κs a
  constants_any = tt

  pub constants_is : constants-reads.Learnt κs a r e → r ≡ constants_of a.0 a.1.0
  constants_is h = h

module _ (κs : Lfts 0) (a : ArgsD first-contract.signature κs) (r : ResD first-contract.signature κs) (e : AtExit (ended_of 0 first-kinds.ps first-kinds.r) κs) where
  pub first_any : first_reads.Asked κs a
  first_any = tt

  pub first_is : first_reads.Learnt κs a r e → r ≡ before_loop a.0
  first_is h = h

module _ (κs : Lfts 0) (a : ArgsD fresh-contract.signature κs) (r : ResD fresh-contract.signature κs) (e : AtExit (ended_of 0 fresh-kinds.ps fresh-kinds.r) κs) where
  pub fresh_any : fresh-reads.Asked κs a
  fresh_any = tt

  pub fresh_is : fresh-reads.Learnt κs a r e → r ≡ fresh_variables a.0 a.1.0
  fresh_is h = h

module _ (κs : Lfts 0) (a : ArgsD waits-contract.signature κs) (r : ResD waits-contract.signature κs) (e : AtExit (ended_of 0 waits-kinds.ps waits-kinds.r) κs) where
  pub waits_any : waits-reads.Asked κs a
  waits_any = tt

  pub waits_is : waits-reads.Learnt κs a r e → r ≡ waits_by a.0 a.1.0 a.1.1.0
  waits_is h = h

module _ (κs : Lfts 0) (a : ArgsD rests-contract.signature κs) (r : ResD rests-contract.signature κs) (e : AtExit (ended_of 0 rests-kinds.ps rests-kinds.r) κs) where
  pub rests_any : rests-reads.Asked κs a
  rests_any = tt

  pub rests_is : rests-reads.Learnt κs a r e → r ≡ rests_by a.0 a.1.0
  rests_is h = h

module _ (κs : Lfts 0) (a : ArgsD quiet-contract.signature κs) (r : ResD quiet-contract.signature κs) (e : AtExit (ended_of 0 quiet-kinds.ps quiet-kinds.r) κs) where
  pub quiet_any : quiet-reads.Asked κs a
  quiet_any = tt

  pub quiet_is : quiet-reads.Learnt κs a r e → r ≡ quiet_step a.0 a.1.0 a.1.1.0
  quiet_is h = h
