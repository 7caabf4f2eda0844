-- Nothing is asked of a caller. Assumes nothing.
use contract.Lifetimes.{Lfts}
use borrow.Fn.World.{ArgsD}
use Rattle.records.specs.contracts.record.put_if_recorded as put-contract
use Rattle.records.proofs.record.put_if_recorded.Reads as put_reads
use Rattle.records.specs.contracts.record.record_counts as counts-contract
use Rattle.records.proofs.record.record_counts.Reads as counts-reads

module _ (κs : Lfts 1) (a : ArgsD put-contract.signature κs) where
  pub put_any : put_reads.Asked κs a
  put_any = tt

module _ (κs : Lfts 0) (a : ArgsD counts-contract.signature κs) where
  pub counts_any : counts-reads.Asked κs a
  counts_any = tt
