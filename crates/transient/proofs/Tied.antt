-- What a caller learns from the contract in src/, as Rattle reads its clauses, is the definition of the result, and nothing is asked of the caller. Assumes nothing.
use mathlib.Core.Path.{◌≡◌}
use contract.Lifetimes.{Lfts}
use borrow.Fn.World.{ArgsD, ResD}
use borrow.Fn.Kinds.{ended_of}
use denote.Triple.Clauses.{AtExit}
use Rattle.transient.specs.Rk4.{rk4_step}
use Rattle.transient.specs.contracts.rk4.moved_numbers as moved-contract
use Rattle.transient.proofs.rk4.moved_numbers.Reads as moved-reads
use Rattle.transient.specs.contracts.rk4.rk4_step as step-contract
use Rattle.transient.proofs.rk4.rk4_step.Kinds as step-kinds
use Rattle.transient.proofs.rk4.rk4_step.Reads as step-reads

module _ (κs : Lfts 0) (a : ArgsD step-contract.signature κs) (r : ResD step-contract.signature κs) (e : AtExit (ended_of 0 step-kinds.ps step-kinds.r) κs) where
  pub step_any : step-reads.Asked κs a
  step_any = tt

  pub step_is : step-reads.Learnt κs a r e → r ≡ rk4_step a.0 a.1.0 a.1.1.0 a.1.1.1.0
  step_is h = h

module _ (κs : Lfts 1) (a : ArgsD moved-contract.signature κs) where
  pub moved_any : moved-reads.Asked κs a
  moved_any = tt
