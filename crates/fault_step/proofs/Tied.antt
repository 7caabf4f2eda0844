-- What a caller learns from the contracts in src/, as Rattle reads their clauses, is the definition of the result, and nothing is asked of the caller. Assumes nothing.
use mathlib.Core.Path.{◌≡◌}
use contract.Lifetimes.{Lfts}
use borrow.Fn.World.{ArgsD, ResD}
use borrow.Fn.Kinds.{ended_of}
use denote.Triple.Clauses.{AtExit}
use Rattle.fault_plan.specs.Plans.{plan_step}
use Rattle.fault_step.specs.contracts.fault.fault_step as step-contract
use Rattle.fault_step.proofs.fault.fault_step.Kinds as step-kinds
use Rattle.fault_step.proofs.fault.fault_step.Reads as step-reads

module _ (κs : Lfts 0) (a : ArgsD step-contract.signature κs) (r : ResD step-contract.signature κs) (e : AtExit (ended_of 0 step-kinds.ps step-kinds.r) κs) where
  pub step_any : step-reads.Asked κs a
  step_any = tt

  pub step_is : step-reads.Learnt κs a r e → r ≡ plan_step a.0 a.1.0 a.1.1.0
  step_is h = h
