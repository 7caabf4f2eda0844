-- Nothing is asked of a caller. Assumes nothing.
use contract.Lifetimes.{Lfts}
use borrow.Fn.World.{ArgsD}
use Rattle.fault_sums.specs.contracts.steps.fault_sums as fault-contract
use Rattle.fault_sums.proofs.steps.fault_sums.Reads as fault-reads
use Rattle.fault_sums.specs.contracts.steps.site_sums as site-contract
use Rattle.fault_sums.proofs.steps.site_sums.Reads as site-reads

module _ (κs : Lfts 0) (a : ArgsD fault-contract.signature κs) where
  pub fault_any : fault-reads.Asked κs a
  fault_any = tt

module _ (κs : Lfts 0) (a : ArgsD site-contract.signature κs) where
  pub site_any : site-reads.Asked κs a
  site_any = tt
