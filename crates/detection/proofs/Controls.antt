-- Worked examples of the definitions: they are believed, so a wrong clause need break no other proof. The answers are worked out by hand from document 000.
use Prim.Native.Nat.{ℕ}
use mathlib.Core.Path.{◌≡◌, refl}
use mathlib.Core.Bool.{Bool, true, false}
use mathlib.Core.List.{[], ◌∷◌}
use lib.Ieee.{Float, nan, of_bits, of_int, round, neg, add, sub, mul, div, lt, le, eq, is_nan}
use Rattle.float64.specs.Constants.{nought, decimal}
use Rattle.float64.specs.Choice.{max_of, abs_of}
use Rattle.grid.specs.Simulator.{blank_station}
use Rattle.grid.specs.declared.parts.ConverterStation.{ConverterStation}
use Rattle.grid.specs.declared.simulator.DcSwitchingSimulator.{DcSwitchingSimulator}
use Rattle.state_derivatives.specs.declared.state.DcTransientState.{DcTransientState}
use Rattle.detection.specs.Detection.{detected, shown_by}

-- rated 100 kV and 200 kV
rated : ℕ → ConverterStation
rated kv =
    record {
      id = 0;
      topology = blank_station.topology;
      v_dc_rated_kv = decimal kv 1;
      p_rated_mw = nought;
      x_transformer_pu = nought;
      scr = nought;
      control_angle_deg = nought;
      x_commutation_pu = nought;
      arm_inductance_mh = nought;
      sm_capacitance_uf = nought;
    }

-- two stations and m cables
grid : ℕ → DcSwitchingSimulator
grid m = record { stations = rated 100 ∷ rated 200 ∷ []; cables = []; breakers = []; n_stations = 2; n_cables = m; n_breakers = 0; dt_us = nought; duration_ms = nought }

-- at t milliseconds: two voltages and two currents
state : ℕ → (v w i j : Float) → DcTransientState
state t v w i j = record { time_ms = decimal t 1; y = v ∷ w ∷ i ∷ j ∷ []; station_currents_ka = []; fault_current_ka = nought; breaker_states = [] }

earlier : DcTransientState
earlier = state 1 (decimal 100 1) (decimal 200 1) nought nought

-- at 80 percent of rated and 10 kA in a millisecond nothing shows, whichever state is the earlier; NaNs do not show; the second cable is read only where the grid has it
detected_are
    : (detected (grid 2) (state 2 (decimal 80 1) (decimal 160 1) (decimal 10 1) (neg (decimal 10 1))) earlier ≡ false)
    × (detected (grid 2) (state 0 (decimal 80 1) (decimal 160 1) (decimal 10 1) nan) earlier ≡ false)
    × (detected (grid 2) (state 2 (decimal 80 1) (decimal 159 1) nought nought) earlier ≡ true)
    × (detected (grid 2) (state 2 nan (decimal 160 1) nought (neg (decimal 11 1))) earlier ≡ true)
    × (detected (grid 1) (state 2 nan (decimal 160 1) nought (neg (decimal 11 1))) earlier ≡ false)
    × (detected (grid 2) (state 3 (decimal 80 1) (decimal 160 1) nought (decimal 11 1)) earlier ≡ false)
    × (detected (grid 2) (state 1 (decimal 80 1) (decimal 160 1) nought (decimal 1 100000000)) earlier ≡ false)
    × (detected (grid 2) (state 1 (decimal 80 1) (decimal 160 1) nought (decimal 2 100000000)) earlier ≡ true)
unfolding rated grid state earlier detected max_of abs_of is_nan lt le eq of_bits of_int round neg add sub mul div
detected_are = (refl, refl, refl, refl, refl, refl, refl, refl)

-- The same of numbers and times that are not exact: two stations rated 100.1 kV and 100.3 kV, two cables at 0.1 kA before. 0.8 of 100.1 is the double of 80.08, 0.8 of 100.3 is one past
-- that of 80.24. From 0.2 to 0.3 ms a current from 0.1 to 1.1 kA is a little faster than 10 kA in a millisecond; from 0.1 to 0.2 ms it is not.
shown : (n m : ℕ) (v w i j : Float) (t before : ℕ) → Bool
shown n m v w i j t before =
    shown_by (decimal 1001 10 ∷ decimal 1003 10 ∷ []) n m (v ∷ w ∷ i ∷ j ∷ []) (decimal 1001 10 ∷ decimal 1003 10 ∷ decimal 1 10 ∷ decimal 1 10 ∷ []) (decimal t 10) (decimal before 10)

shown_are
    : (shown 2 2 (decimal 8008 100) (decimal 8025 100) (decimal 1 10) (decimal 11 10) 2 1 ≡ false)
    × (shown 2 2 (decimal 8008 100) (decimal 8025 100) (decimal 1 10) (decimal 11 10) 3 2 ≡ true)
    × (shown 2 1 (decimal 8008 100) (decimal 8025 100) (decimal 1 10) (decimal 11 10) 3 2 ≡ false)
    × (shown 2 2 (decimal 8008 100) (decimal 8024 100) (decimal 1 10) (decimal 1 10) 3 2 ≡ true)
    × (shown 1 0 (decimal 8008 100) (decimal 8024 100) (decimal 1 10) (decimal 1 10) 3 2 ≡ false)
unfolding shown shown_by max_of abs_of is_nan lt le eq of_bits of_int round neg add sub mul div
shown_are = (refl, refl, refl, refl, refl)
