-- Nothing is asked of a caller. Assumes nothing.
use contract.Lifetimes.{Lfts}
use borrow.Fn.World.{ArgsD}
use Rattle.run_start.specs.contracts.start.rated_voltages as rated-contract
use Rattle.run_start.proofs.start.rated_voltages.Reads as rated-reads
use Rattle.run_start.specs.contracts.start.breakers_all as breakers-contract
use Rattle.run_start.proofs.start.breakers_all.Reads as breakers-reads
use Rattle.run_start.specs.contracts.start.step_time_ms as time-contract
use Rattle.run_start.proofs.start.step_time_ms.Reads as time-reads

module _ (κs : Lfts 0) (a : ArgsD rated-contract.signature κs) where
  pub rated_any : rated-reads.Asked κs a
  rated_any = tt

module _ (κs : Lfts 0) (a : ArgsD breakers-contract.signature κs) where
  pub breakers_any : breakers-reads.Asked κs a
  breakers_any = tt

module _ (κs : Lfts 0) (a : ArgsD time-contract.signature κs) where
  pub time_any : time-reads.Asked κs a
  time_any = tt
