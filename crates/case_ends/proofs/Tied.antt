-- Nothing is asked of a caller, as Rattle reads the clauses of the contracts in src/. Assumes nothing.
use contract.Lifetimes.{Lfts}
use borrow.Fn.World.{ArgsD}
use Rattle.case_ends.specs.contracts.ends.case_end as end-contract
use Rattle.case_ends.proofs.ends.case_end.Reads as end_reads
use Rattle.case_ends.specs.contracts.ends.site_ends as site-contract
use Rattle.case_ends.proofs.ends.site_ends.Reads as site-reads

module _ (κs : Lfts 0) where
  pub end_any : (a : ArgsD end-contract.signature κs) → end_reads.Asked κs a
  end_any a = tt

  pub site_any : (a : ArgsD site-contract.signature κs) → site-reads.Asked κs a
  site_any a = tt
