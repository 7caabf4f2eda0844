-- Numbers, states and a grid that worked examples of runs share. Assumes nothing.
use Rattle.std.proofs.Common.{ℕ, Bool, List, [], ◌∷◌}
use lib.Ieee.{Float, binary64, of_bits}
use Rattle.float64.specs.Constants.{nought, half, decimal}
use Rattle.float64.specs.Arithmetic.{◌⊕◌, ◌⊖◌, ◌⊗◌, of}
use Rattle.grid.specs.declared.parts.ConverterTopology.{ConverterTopology}
use Rattle.grid.specs.declared.parts.ConverterTopology.TheVariants.{TwoLevelVsc, Mmc}
use Rattle.grid.specs.declared.parts.ConverterStation.{ConverterStation}
use Rattle.grid.specs.declared.parts.DcCable.{DcCable}
use Rattle.grid.specs.declared.parts.DcBreaker.{DcBreaker}
use Rattle.grid.specs.declared.parts.DcBreakerType.TheVariants.{SolidState}
use Rattle.grid.specs.declared.simulator.DcSwitchingSimulator.{DcSwitchingSimulator}
use Rattle.state_derivatives.specs.declared.state.DcTransientState.{DcTransientState}

unfoldable pub double : ℕ → Float
double n = of_bits binary64 n

-- time and the fault's current; two voltages and the cable's current; two station currents
unfoldable pub state : (t i v w c p q : ℕ) → List Bool → DcTransientState
state t i v w c p q breakers = record { time_ms = double t; y = double v ∷ double w ∷ double c ∷ []; station_currents_ka = double p ∷ double q ∷ []; fault_current_ka = double i; breaker_states = breakers }

-- in the place of an RK4 step, at a time t, with a fault's current i and breakers b
unfoldable pub stepped : (t i : Float) → List Bool → DcTransientState → DcTransientState
stepped t i b s =
    record {
      time_ms = t;
      y = (of s.y 0 ⊖ decimal 25125 10000) ∷ (of s.y 1 ⊖ decimal 25 1000) ∷ (of s.y 2 ⊗ decimal 3 4) ∷ [];
      station_currents_ka = (of s.station_currents_ka 0 ⊕ decimal 1 4) ∷ (of s.station_currents_ka 1 ⊖ half) ∷ [];
      fault_current_ka = i;
      breaker_states = b;
    }

-- ---- a grid: steps of 10 µs, a duration of 0.05 ms

unfoldable pub station : ConverterTopology → (id kv mw uf : ℕ) → ConverterStation
station t id kv mw uf =
    record {
      id = id;
      topology = t;
      v_dc_rated_kv = decimal kv 1;
      p_rated_mw = decimal mw 1;
      x_transformer_pu = nought;
      scr = nought;
      control_angle_deg = nought;
      x_commutation_pu = nought;
      arm_inductance_mh = nought;
      sm_capacitance_uf = decimal uf 1;
    }

unfoldable pub cable : (from to km : ℕ) → DcCable
cable from to km = record { id = 0; from_station = from; to_station = to; r_per_km = half; l_per_km = decimal 2 1; c_per_km = decimal 1 4; length_km = decimal km 1 }

unfoldable pub breaker : (us : ℕ) → DcBreaker
breaker us = record { id = 0; station_id = 0; breaker_type = SolidState (decimal us 1) nought; max_breaking_current_ka = nought; energy_absorption_mj = nought }

-- the second cable's second end is past the count
unfoldable pub two : DcSwitchingSimulator
two =
    record {
      stations = station (Mmc 2) 0 100 50 6 ∷ station TwoLevelVsc 5 200 80 0 ∷ [];
      cables = cable 0 1 3 ∷ cable 0 9 4 ∷ [];
      breakers = breaker 10 ∷ breaker 30 ∷ [];
      n_stations = 2;
      n_cables = 2;
      n_breakers = 2;
      dt_us = decimal 10 1;
      duration_ms = decimal 5 100;
    }
