-- No function asks anything of its caller, whatever number of places a count is cut to.
-- Assumes nothing.
use Prim.Native.Nat.{ℕ}
use mir.Syntax.{w64}
use mir.Val.{Fits}
use contract.Lifetimes.{Lfts}
use borrow.Author.Rules.{rules}
use borrow.Fn.World.{ArgsD}
use denote.Param.{number}
use Rattle.grid.specs.contracts.cables.cable_resistance as cable-resistance-contract
use Rattle.grid.proofs.cables.cable_resistance.Reads as cable-resistance-reads
use Rattle.grid.specs.contracts.cables.cut_end as cut-end-contract
use Rattle.grid.proofs.cables.cut_end.Reads as cut-end-reads
use Rattle.grid.specs.contracts.parts.counted_submodules as counted-submodules-contract
use Rattle.grid.proofs.parts.counted_submodules.Reads as counted-submodules-reads
use Rattle.grid.specs.contracts.counts.Count.of as count-of-contract
use Rattle.grid.proofs.counts.Count.of.Reads as count-of-reads
use Rattle.grid.specs.contracts.simulator.DcSwitchingSimulator.new as new-contract
use Rattle.grid.proofs.simulator.DcSwitchingSimulator.new.Reads as new-reads
use Rattle.grid.specs.contracts.simulator.DcSwitchingSimulator.add_station as add-station-contract
use Rattle.grid.proofs.simulator.DcSwitchingSimulator.add_station.Reads as add-station-reads
use Rattle.grid.specs.contracts.simulator.DcSwitchingSimulator.add_cable as add-cable-contract
use Rattle.grid.proofs.simulator.DcSwitchingSimulator.add_cable.Reads as add-cable-reads
use Rattle.grid.specs.contracts.simulator.DcSwitchingSimulator.add_breaker as add-breaker-contract
use Rattle.grid.proofs.simulator.DcSwitchingSimulator.add_breaker.Reads as add-breaker-reads
use Rattle.grid.specs.contracts.simulator.DcSwitchingSimulator.present_stations as present-stations-contract
use Rattle.grid.proofs.simulator.DcSwitchingSimulator.present_stations.Reads as present-stations-reads
use Rattle.grid.specs.contracts.simulator.DcSwitchingSimulator.present_cables as present-cables-contract
use Rattle.grid.proofs.simulator.DcSwitchingSimulator.present_cables.Reads as present-cables-reads
use Rattle.grid.specs.contracts.simulator.DcSwitchingSimulator.present_breakers as present-breakers-contract
use Rattle.grid.proofs.simulator.DcSwitchingSimulator.present_breakers.Reads as present-breakers-reads

module _ (κs : Lfts 0) where
  pub cable_resistance_any : (a : ArgsD cable-resistance-contract.signature κs) → cable-resistance-reads.Asked κs a
  cable_resistance_any a = tt

  pub cut_end_any : (a : ArgsD cut-end-contract.signature κs) → cut-end-reads.Asked κs a
  cut_end_any a = tt

  pub counted-submodules_any : (a : ArgsD counted-submodules-contract.signature κs) → counted-submodules-reads.Asked κs a
  counted-submodules_any a = tt

  pub new_any : (a : ArgsD new-contract.signature κs) → new-reads.Asked κs a
  new_any a = tt

  pub add_station_any : (a : ArgsD add-station-contract.signature κs) → add-station-reads.Asked κs a
  add_station_any a = tt

  pub add_cable_any : (a : ArgsD add-cable-contract.signature κs) → add-cable-reads.Asked κs a
  add_cable_any a = tt

  pub add_breaker_any : (a : ArgsD add-breaker-contract.signature κs) → add-breaker-reads.Asked κs a
  add_breaker_any a = tt

module _ (κs : Lfts 1) where
  pub present_stations_any : (a : ArgsD present-stations-contract.signature κs) → present-stations-reads.Asked κs a
  present_stations_any a = tt

  pub present_cables_any : (a : ArgsD present-cables-contract.signature κs) → present-cables-reads.Asked κs a
  present_cables_any a = tt

  pub present_breakers_any : (a : ArgsD present-breakers-contract.signature κs) → present-breakers-reads.Asked κs a
  present_breakers_any a = tt

module _ (most : ℕ) (h : Fits w64 most) (κs : Lfts (count-of-contract.signature (number most)).lifetimes) where
  pub count_of_any : (a : ArgsD (count-of-contract.signature (number most)) κs) → count-of-reads.Asked most h κs a
  count_of_any a = search (rules)
