-- No function asks anything of its caller. Assumes nothing.
use contract.Lifetimes.{Lfts}
use borrow.Fn.World.{ArgsD}
use Rattle.network.specs.contracts.capacitance.station_capacitance_uf as capacitance-contract
use Rattle.network.proofs.capacitance.station_capacitance_uf.Reads as capacitance-reads
use Rattle.network.specs.contracts.network.network_of as network-contract
use Rattle.network.proofs.network.network_of.Reads as network-reads
use Rattle.network.specs.contracts.network.drain_of as drain-contract
use Rattle.network.proofs.network.drain_of.Reads as drain-reads
use Rattle.network.specs.contracts.network.no_drain as no-drain-contract
use Rattle.network.proofs.network.no_drain.Reads as no-drain-reads

module _ (κs : Lfts 0) where
  pub capacitance_any : (a : ArgsD capacitance-contract.signature κs) → capacitance-reads.Asked κs a
  capacitance_any a = tt

  pub network_any : (a : ArgsD network-contract.signature κs) → network-reads.Asked κs a
  network_any a = tt

  pub drain_any : (a : ArgsD drain-contract.signature κs) → drain-reads.Asked κs a
  drain_any a = tt

  pub no_drain_any : (a : ArgsD no-drain-contract.signature κs) → no-drain-reads.Asked κs a
  no_drain_any a = tt
