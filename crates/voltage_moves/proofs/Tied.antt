-- Nothing is asked of a caller. Assumes nothing.
use contract.Lifetimes.{Lfts}
use borrow.Fn.World.{ArgsD}
use Rattle.voltage_moves.specs.contracts.moves.move_voltages as move-contract
use Rattle.voltage_moves.proofs.moves.move_voltages.Reads as move-reads

module _ (κs : Lfts 4) (a : ArgsD move-contract.signature κs) where
  pub move_any : move-reads.Asked κs a
  move_any = tt
