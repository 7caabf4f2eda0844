-- `decimal_column` asks nothing of its caller. Assumes nothing.
use contract.Lifetimes.{Lfts}
use borrow.Fn.World.{ArgsD}
use Rattle.decimals.specs.contracts.column.decimal_column as column-contract
use Rattle.decimals.proofs.column.decimal_column.Reads as column-reads

module _ (κs : Lfts 0) where
  pub column_any : (a : ArgsD column-contract.signature κs) → column-reads.Asked κs a
  column_any a = tt
