-- What a caller learns from the contracts in src/, as Rattle reads their clauses, is the definition of the result, and nothing is asked of the caller. Assumes nothing.
use mathlib.Core.Path.{◌≡◌}
use contract.Lifetimes.{Lfts}
use borrow.Fn.World.{ArgsD, ResD}
use borrow.Fn.Kinds.{ended_of}
use denote.Triple.Clauses.{AtExit}
use Rattle.switching_plan.specs.Plans.{switching_plan_step}
use Rattle.switching_step.specs.contracts.switching.switching_step as switching-step-contract
use Rattle.switching_step.proofs.switching.switching_step.Kinds as switching-step-kinds
use Rattle.switching_step.proofs.switching.switching_step.Reads as switching-step-reads

module _ (κs : Lfts 0) (a : ArgsD switching-step-contract.signature κs) (r : ResD switching-step-contract.signature κs) (e : AtExit (ended_of 0 switching-step-kinds.ps switching-step-kinds.r) κs) where
  pub switching_step_any : switching-step-reads.Asked κs a
  switching_step_any = tt

  pub switching_step_is : switching-step-reads.Learnt κs a r e → r ≡ switching_plan_step a.0 a.1.0 a.1.1.0
  switching_step_is h = h
