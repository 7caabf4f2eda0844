-- Nothing is asked of a caller. Assumes nothing.
use contract.Lifetimes.{Lfts}
use borrow.Fn.World.{ArgsD}
use Rattle.portions.specs.contracts.number as number-contract
use Rattle.portions.proofs.number.Reads as number-reads
use Rattle.portions.specs.contracts.reason as reason-contract
use Rattle.portions.proofs.reason.Reads as reason-reads

module _ (κs : Lfts 0) (a : ArgsD number-contract.signature κs) where
  pub number_any : number-reads.Asked κs a
  number_any = tt

module _ (κs : Lfts 0) (a : ArgsD reason-contract.signature κs) where
  pub reason_any : reason-reads.Asked κs a
  reason_any = tt
