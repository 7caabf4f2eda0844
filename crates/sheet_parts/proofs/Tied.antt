-- Nothing is asked of a caller, as Rattle reads the clauses of the contracts in src/. Assumes nothing.
use contract.Lifetimes.{Lfts}
use borrow.Fn.World.{ArgsD}
use Rattle.sheet_parts.specs.contracts.parts.counted_on as counted-on-contract
use Rattle.sheet_parts.proofs.parts.counted_on.Reads as counted-on-reads
use Rattle.sheet_parts.specs.contracts.parts.with_station as with-station-contract
use Rattle.sheet_parts.proofs.parts.with_station.Reads as with-station-reads
use Rattle.sheet_parts.specs.contracts.parts.with_cable as with-cable-contract
use Rattle.sheet_parts.proofs.parts.with_cable.Reads as with-cable-reads
use Rattle.sheet_parts.specs.contracts.parts.with_breaker as with-breaker-contract
use Rattle.sheet_parts.proofs.parts.with_breaker.Reads as with-breaker-reads

module _ (κs : Lfts 0) where
  pub counted_on_any : (a : ArgsD counted-on-contract.signature κs) → counted-on-reads.Asked κs a
  counted_on_any a = tt

  pub with_station_any : (a : ArgsD with-station-contract.signature κs) → with-station-reads.Asked κs a
  with_station_any a = tt

  pub with_cable_any : (a : ArgsD with-cable-contract.signature κs) → with-cable-reads.Asked κs a
  with_cable_any a = tt

  pub with_breaker_any : (a : ArgsD with-breaker-contract.signature κs) → with-breaker-reads.Asked κs a
  with_breaker_any a = tt
