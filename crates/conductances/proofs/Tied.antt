-- What a caller learns from the contracts in src/, as Rattle reads their clauses, is the definition of the result, and nothing is asked of the caller. Assumes nothing.
use mathlib.Core.Path.{◌≡◌}
use contract.Lifetimes.{Lfts}
use borrow.Fn.World.{ArgsD, ResD}
use borrow.Fn.Kinds.{ended_of}
use denote.Triple.Clauses.{AtExit}
use Rattle.conductances.specs.Conductances.{conductances_of}
use Rattle.conductances.specs.contracts.conductances.conductances_of as matrix-contract
use Rattle.conductances.proofs.conductances.conductances_of.Kinds as matrix-kinds
use Rattle.conductances.proofs.conductances.conductances_of.Reads as matrix-reads

module _ (κs : Lfts 1) (a : ArgsD matrix-contract.signature κs) (r : ResD matrix-contract.signature κs) (e : AtExit (ended_of 1 matrix-kinds.ps matrix-kinds.r) κs) where
  pub matrix_any : matrix-reads.Asked κs a
  matrix_any = tt

  pub matrix_is : matrix-reads.Learnt κs a r e → r ≡ conductances_of a.0.now
  matrix_is h = h
