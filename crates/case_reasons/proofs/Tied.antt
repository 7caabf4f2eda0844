-- No function asks anything of its caller.
-- Assumes nothing.
use contract.Lifetimes.{Lfts}
use borrow.Fn.World.{ArgsD}
use Rattle.case_reasons.specs.contracts.reasons.reasons_for as reasons-for-contract
use Rattle.case_reasons.proofs.reasons.reasons_for.Reads as reasons-for-reads
use Rattle.case_reasons.specs.contracts.reasons.reasons_in as reasons-in-contract
use Rattle.case_reasons.proofs.reasons.reasons_in.Reads as reasons-in-reads
use Rattle.case_reasons.specs.contracts.row.put_row as put-row-contract
use Rattle.case_reasons.proofs.row.put_row.Reads as put-row-reads

module _ (κs : Lfts 0) where
  pub reasons_for_any : (a : ArgsD reasons-for-contract.signature κs) → reasons-for-reads.Asked κs a
  reasons_for_any a = tt

module _ (κs : Lfts 1) where
  pub reasons_in_any : (a : ArgsD reasons-in-contract.signature κs) → reasons-in-reads.Asked κs a
  reasons_in_any a = tt

  pub put_row_any : (a : ArgsD put-row-contract.signature κs) → put-row-reads.Asked κs a
  put_row_any a = tt
