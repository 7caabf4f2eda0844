-- A worked example of a record, from document 01.5 and the published Rust's state. Assumes nothing.
use Prim.Native.Nat.{ℕ}
use mathlib.Core.Path.{◌≡◌, refl}
use mathlib.Core.Bool.{true, false}
use mathlib.Core.List.{[], ◌∷◌}
use lib.Ieee.{Float, of_bits, round}
use Rattle.lists.specs.Tables.{tab}
use Rattle.float64.specs.Constants.{nought, decimal}
use Rattle.grid.specs.Simulator.{blank_station, blank_cable, blank_breaker}
use Rattle.grid.specs.declared.simulator.DcSwitchingSimulator.{DcSwitchingSimulator}
use Rattle.state_derivatives.specs.declared.state.DcTransientState.{DcTransientState}
use Rattle.records.specs.Records.{record_with, record_of}

whole : ℕ → Float
whole n = decimal n 1

-- two stations, a cable and two breakers, in arrays that hold more
grid : DcSwitchingSimulator
grid =
    record {
      stations = blank_station ∷ blank_station ∷ blank_station ∷ [];
      cables = blank_cable ∷ blank_cable ∷ [];
      breakers = blank_breaker ∷ blank_breaker ∷ blank_breaker ∷ [];
      n_stations = 2;
      n_cables = 1;
      n_breakers = 2;
      dt_us = nought;
      duration_ms = nought;
    }

state : DcTransientState
state =
    record {
      time_ms = whole 1;
      y = whole 3 ∷ whole 4 ∷ whole 7 ∷ whole 90 ∷ [];
      station_currents_ka = whole 5 ∷ whole 6 ∷ whole 91 ∷ [];
      fault_current_ka = whole 2;
      breaker_states = true ∷ false ∷ true ∷ [];
    }

-- time, fault current, two voltages, two station currents, the cable's current, a breaker closed and one open
record_is : record_of grid state ≡ whole 1 ∷ whole 2 ∷ whole 3 ∷ whole 4 ∷ whole 5 ∷ whole 6 ∷ whole 7 ∷ whole 1 ∷ whole 0 ∷ []
unfolding record_with tab grid state whole of_bits round
record_is = refl
