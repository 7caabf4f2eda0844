-- Nothing is asked of a caller. Assumes nothing.
use contract.Lifetimes.{Lfts}
use borrow.Fn.World.{ArgsD}
use Rattle.fault_window.specs.contracts.steps.fault_window as window-contract
use Rattle.fault_window.proofs.steps.fault_window.Reads as window-reads

module _ (κs : Lfts 0) (a : ArgsD window-contract.signature κs) where
  pub window_any : window-reads.Asked κs a
  window_any = tt
