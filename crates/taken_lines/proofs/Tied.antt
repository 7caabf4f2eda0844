-- Nothing is asked of a caller, as Rattle reads the clauses of the contracts in src/. Assumes nothing.
use contract.Lifetimes.{Lfts}
use borrow.Fn.World.{ArgsD}
use Rattle.taken_lines.specs.contracts.taken.empty_sheet as empty-sheet-contract
use Rattle.taken_lines.proofs.taken.empty_sheet.Reads as empty-sheet-reads
use Rattle.taken_lines.specs.contracts.taken.with_line as with-line-contract
use Rattle.taken_lines.proofs.taken.with_line.Reads as with-line-reads
use Rattle.taken_lines.specs.contracts.taken.has_stopped as has-stopped-contract
use Rattle.taken_lines.proofs.taken.has_stopped.Reads as has-stopped-reads

module _ (κs : Lfts 0) where
  pub empty_sheet_any : (a : ArgsD empty-sheet-contract.signature κs) → empty-sheet-reads.Asked κs a
  empty_sheet_any a = tt

  pub with_line_any : (a : ArgsD with-line-contract.signature κs) → with-line-reads.Asked κs a
  with_line_any a = tt

  pub has_stopped_any : (a : ArgsD has-stopped-contract.signature κs) → has-stopped-reads.Asked κs a
  has_stopped_any a = tt
