-- Nothing is asked of a caller. Assumes nothing.
use contract.Lifetimes.{Lfts}
use borrow.Fn.World.{ArgsD}
use Rattle.recovery.specs.contracts.recovery.recover_voltages as recover-contract
use Rattle.recovery.proofs.recovery.recover_voltages.Reads as recover-reads
use Rattle.recovery.specs.contracts.recovery.all_recovered as recovered-contract
use Rattle.recovery.proofs.recovery.all_recovered.Reads as recovered-reads
use Rattle.recovery.specs.contracts.recovery.none_below as below-contract
use Rattle.recovery.proofs.recovery.none_below.Reads as below-reads

module _ (κs : Lfts 2) (a : ArgsD recover-contract.signature κs) where
  pub recover_any : recover-reads.Asked κs a
  recover_any = tt

module _ (κs : Lfts 2) (a : ArgsD recovered-contract.signature κs) where
  pub recovered_any : recovered-reads.Asked κs a
  recovered_any = tt

module _ (κs : Lfts 2) (a : ArgsD below-contract.signature κs) where
  pub below_any : below-reads.Asked κs a
  below_any = tt
