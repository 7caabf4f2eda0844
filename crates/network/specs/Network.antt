-- What every stage of a step needs of a grid and of a fault. Definitions only.
use Rattle.std.specs.Prelude.{ℕ, cond, List, nat_lt, slice_index, slice_index_or, Float}
use Rattle.lists.specs.Tables.{padded}
use Rattle.float64.specs.Constants.{nought, kilo, milli, micro}
use Rattle.float64.specs.Arithmetic.{◌⊗◌}
use Rattle.float64.specs.Choice.{max_of}
use Rattle.grid.specs.Simulator.{blank_station, blank_cable, cables_of}
pub use Rattle.grid.specs.Simulator.{station_count, cable_count}
use Rattle.grid.specs.Cables.{resistance}
use Rattle.grid.specs.declared.parts.ConverterStation.{ConverterStation}
use Rattle.grid.specs.declared.parts.DcCable.{DcCable}
use Rattle.grid.specs.declared.parts.DcFaultEvent.{DcFaultEvent}
use Rattle.grid.specs.declared.simulator.DcSwitchingSimulator.{DcSwitchingSimulator}
use Rattle.network.specs.declared.network.Network.{Network}
use Rattle.network.specs.declared.network.Drain.{Drain}
use Rattle.network.specs.Constants.{least_farads, least_henries, least_fault_resistance}
use Rattle.network.specs.Capacitance.{capacitance_at}

-- total L of a cable in henries, at least 1e-9
abbrev pub inductance : DcCable → Float
inductance c = max_of (c.l_per_km ⊗ c.length_km ⊗ milli) least_henries

-- C at a station in farads, at least 1e-12
abbrev pub farads : List DcCable → ConverterStation → Float
farads cables s = max_of (capacitance_at cables s ⊗ micro) least_farads

-- a number of each of the first k cables, zero past them
abbrev pub cable_table : List DcCable → ℕ → (DcCable → Float) → List Float
cable_table cables k f = padded 64 k (λ i. f (slice_index_or cables i blank_cable)) nought

abbrev pub end_table : List DcCable → ℕ → (DcCable → ℕ) → List ℕ
end_table cables k f = padded 64 k (λ i. f (slice_index_or cables i blank_cable)) 0

-- and of each of the first n stations
abbrev pub station_table : List ConverterStation → ℕ → (ConverterStation → Float) → List Float
station_table stations n f = padded 32 n (λ i. f (slice_index_or stations i blank_station)) nought

-- the number at a position of such a table of ends
abbrev pub end : List ℕ → ℕ → ℕ
end ends k = slice_index ends k

-- the ends as given, R, L and C
unfoldable pub network_of : DcSwitchingSimulator → Network
network_of g =
    let m = cable_count g.n_cables in
    record {
      n_stations = station_count g.n_stations;
      n_cables = m;
      from = end_table g.cables m (λ c. c.from_station);
      to = end_table g.cables m (λ c. c.to_station);
      resistance_ohm = cable_table g.cables m resistance;
      inductance_h = cable_table g.cables m inductance;
      capacitance_f = station_table g.stations (station_count g.n_stations) (farads (cables_of g));
    }

-- past every station
abbrev pub nowhere : ℕ
nowhere = 32

abbrev pub no_drain : Drain
no_drain = record { from = nowhere; to = nowhere; resistance = nought; fraction = nought }

-- the drain at both ends of a cable: 000's r_f, at least 1e-6, times 1e3, and the fraction
abbrev pub drain_at : DcCable → DcFaultEvent → Drain
drain_at c f =
    record {
      from = c.from_station;
      to = c.to_station;
      resistance = max_of f.fault_resistance least_fault_resistance ⊗ kilo;
      fraction = f.location_fraction;
    }

-- of the faulted cable, if the grid has it
unfoldable pub drain_of : DcSwitchingSimulator → DcFaultEvent → Drain
drain_of g f = cond (nat_lt f.location_cable_id (cable_count g.n_cables)) (drain_at (slice_index_or g.cables f.location_cable_id blank_cable) f) no_drain
