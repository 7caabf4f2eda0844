-- What a caller learns from the contracts in src/, as Rattle reads their clauses, is the definition of the result, and nothing is asked of the caller. Assumes nothing.
use mathlib.Core.Path.{◌≡◌}
use contract.Lifetimes.{Lfts}
use borrow.Fn.World.{ArgsD, ResD}
use borrow.Fn.Kinds.{ended_of}
use denote.Triple.Clauses.{AtExit}
use Rattle.switching_plan.specs.Switching.{before_switching}
use Rattle.switching_plan.specs.Plans.{switching_plan_of}
use Rattle.switching_plan.specs.contracts.plan.switching_plan as switching-plan-contract
use Rattle.switching_plan.proofs.plan.switching_plan.Kinds as switching-plan-kinds
use Rattle.switching_plan.proofs.plan.switching_plan.Reads as switching-plan-reads
use Rattle.switching_plan.specs.contracts.plan.first_switching_variables as first-switching-contract
use Rattle.switching_plan.proofs.plan.first_switching_variables.Kinds as first-switching-kinds
use Rattle.switching_plan.proofs.plan.first_switching_variables.Reads as first-switching-reads

module _ (κs : Lfts 0) (a : ArgsD switching-plan-contract.signature κs) (r : ResD switching-plan-contract.signature κs) (e : AtExit (ended_of 0 switching-plan-kinds.ps switching-plan-kinds.r) κs) where
  pub switching_plan_any : switching-plan-reads.Asked κs a
  switching_plan_any = tt

  pub switching_plan_is : switching-plan-reads.Learnt κs a r e → r ≡ switching_plan_of a.0 a.1.0 a.1.1.0
  switching_plan_is h = h

module _ (κs : Lfts 0) (a : ArgsD first-switching-contract.signature κs) (r : ResD first-switching-contract.signature κs) (e : AtExit (ended_of 0 first-switching-kinds.ps first-switching-kinds.r) κs) where
  pub first_switching_any : first-switching-reads.Asked κs a
  first_switching_any = tt

  pub first_switching_is : first-switching-reads.Learnt κs a r e → r ≡ before_switching a.0 a.1.0
  first_switching_is h = h
