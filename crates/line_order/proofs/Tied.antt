-- Nothing is asked of a caller, as Rattle reads the clauses of the contracts in src/. Assumes nothing.
use contract.Lifetimes.{Lfts}
use borrow.Fn.World.{ArgsD}
use Rattle.line_order.specs.contracts.order.LineFault.number as number-contract
use Rattle.line_order.proofs.order.LineFault.number.Reads as number-reads
use Rattle.line_order.specs.contracts.order.place_of as place-of-contract
use Rattle.line_order.proofs.order.place_of.Reads as place-of-reads
use Rattle.line_order.specs.contracts.order.check_line as check-line-contract
use Rattle.line_order.proofs.order.check_line.Reads as check-line-reads

module _ (κs : Lfts 0) where
  pub number_any : (a : ArgsD number-contract.signature κs) → number-reads.Asked κs a
  number_any a = tt

  pub place_of_any : (a : ArgsD place-of-contract.signature κs) → place-of-reads.Asked κs a
  place_of_any a = tt

  pub check_line_any : (a : ArgsD check-line-contract.signature κs) → check-line-reads.Asked κs a
  check_line_any a = tt
