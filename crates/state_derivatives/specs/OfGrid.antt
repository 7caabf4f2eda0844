-- 000's `state_derivatives` as a function of a grid: what the network's tables hold, read from the grid itself. Definitions only.
use Rattle.std.specs.Prelude.{ℕ, List, get_or, Float}
use Rattle.grid.specs.Simulator.{blank_station, blank_cable, cables_of}
use Rattle.grid.specs.Cables.{resistance}
use Rattle.grid.specs.declared.parts.ConverterStation.{ConverterStation}
use Rattle.grid.specs.declared.parts.DcCable.{DcCable}
use Rattle.grid.specs.declared.simulator.DcSwitchingSimulator.{DcSwitchingSimulator}
use Rattle.network.specs.declared.network.Drain.{Drain}
use Rattle.network.specs.Network.{inductance, farads}
use Rattle.state_derivatives.specs.Derivatives.{derivatives}

module _ (g : DcSwitchingSimulator) where
  abbrev pub cable_at : ℕ → DcCable
  cable_at k = get_or g.cables k blank_cable

  abbrev pub station_at : ℕ → ConverterStation
  station_at i = get_or g.stations i blank_station

  abbrev pub from_of : ℕ → ℕ
  from_of k = (cable_at k).from_station

  abbrev pub to_of : ℕ → ℕ
  to_of k = (cable_at k).to_station

  abbrev pub resistance_of : ℕ → Float
  resistance_of k = resistance (cable_at k)

  abbrev pub inductance_of : ℕ → Float
  inductance_of k = inductance (cable_at k)

  abbrev pub capacitance_of : ℕ → Float
  capacitance_of i = farads (cables_of g) (station_at i)

  abbrev pub grid_derivatives : Drain → List Float → List Float
  grid_derivatives d y = derivatives from_of to_of resistance_of inductance_of capacitance_of d g.n_stations g.n_cables y
