-- No function asks anything of its caller. Assumes nothing.
use contract.Lifetimes.{Lfts}
use borrow.Fn.World.{ArgsD}
use Rattle.sheet_bytes.specs.contracts.bytes.start as start-contract
use Rattle.sheet_bytes.proofs.bytes.start.Reads as start-reads
use Rattle.sheet_bytes.specs.contracts.bytes.stopped as stopped-contract
use Rattle.sheet_bytes.proofs.bytes.stopped.Reads as stopped-reads
use Rattle.sheet_bytes.specs.contracts.bytes.feed as feed-contract
use Rattle.sheet_bytes.proofs.bytes.feed.Reads as feed-reads
use Rattle.sheet_bytes.specs.contracts.bytes.ended as ended-contract
use Rattle.sheet_bytes.proofs.bytes.ended.Reads as ended-reads

module _ (κs : Lfts 0) where
  pub start_any : (a : ArgsD start-contract.signature κs) → start-reads.Asked κs a
  start_any a = tt

  pub stopped_any : (a : ArgsD stopped-contract.signature κs) → stopped-reads.Asked κs a
  stopped_any a = tt

  pub ended_any : (a : ArgsD ended-contract.signature κs) → ended-reads.Asked κs a
  ended_any a = tt

module _ (κs : Lfts 1) where
  pub feed_any : (a : ArgsD feed-contract.signature κs) → feed-reads.Asked κs a
  feed_any a = tt
