-- What fault runs and switching runs begin with, and the time of their steps. Definitions only.
use Rattle.std.specs.Prelude.{ℕ, List, pos, slice_index_or, Float}
use Rattle.std.specs.Float.{binary64}
use Rattle.std.specs.Float.Ieee.{of_int}
use Rattle.lists.specs.Tables.{padded}
use Rattle.float64.specs.Constants.{nought}
use Rattle.float64.specs.Arithmetic.{◌⊗◌}
use Rattle.grid.specs.Simulator.{blank_station}
use Rattle.grid.specs.declared.parts.ConverterStation.{ConverterStation}
use Rattle.grid.specs.declared.simulator.DcSwitchingSimulator.{DcSwitchingSimulator}
use Rattle.network.specs.Network.{station_count}

-- t_ms at the step of a number, from 0
abbrev pub time_at : (dt : Float) → ℕ → Float
time_at dt step = of_int binary64 (pos step) ⊗ dt

-- the rated voltage of a station
abbrev pub rated : List ConverterStation → ℕ → Float
rated stations i = (slice_index_or stations i blank_station).v_dc_rated_kv

-- the rated voltages, in the places that the voltages have in a state
unfoldable pub rated_of : DcSwitchingSimulator → List Float
rated_of g = padded 96 (station_count g.n_stations) (rated g.stations) nought
