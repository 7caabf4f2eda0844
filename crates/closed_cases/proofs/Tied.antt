-- Nothing is asked of a caller, as Rattle reads the clauses of the contracts in src/. Assumes nothing.
use contract.Lifetimes.{Lfts}
use borrow.Fn.World.{ArgsD}
use Rattle.closed_cases.specs.contracts.cable.ends_held as held-contract
use Rattle.closed_cases.proofs.cable.ends_held.Reads as held_reads
use Rattle.closed_cases.specs.contracts.cable.no_cable_ends as none-contract
use Rattle.closed_cases.proofs.cable.no_cable_ends.Reads as none_reads
use Rattle.closed_cases.specs.contracts.cable.is_tried as tried-contract
use Rattle.closed_cases.proofs.cable.is_tried.Reads as tried-reads
use Rattle.closed_cases.specs.contracts.closed.closed_outcome as closed-contract
use Rattle.closed_cases.proofs.closed.closed_outcome.Reads as closed-reads

module _ (κs : Lfts 0) where
  pub held_any : (a : ArgsD held-contract.signature κs) → held_reads.Asked κs a
  held_any a = tt

  pub none_any : (a : ArgsD none-contract.signature κs) → none_reads.Asked κs a
  none_any a = tt

  pub tried_any : (a : ArgsD tried-contract.signature κs) → tried-reads.Asked κs a
  tried_any a = tt

  pub closed_any : (a : ArgsD closed-contract.signature κs) → closed-reads.Asked κs a
  closed_any a = tt
