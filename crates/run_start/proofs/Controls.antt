-- Worked examples of the definitions, with the answers of the published Rust. Assumes nothing.
use Rattle.std.proofs.Common.{◌≡◌, ◌∷◌, replicate, refl}
use lib.Ieee.{binary64, of_bits, of_int, round, mul}
use Rattle.lists.specs.Tables.{tab, padded}
use Rattle.float64.specs.Constants.{nought, decimal}
use Rattle.grid.specs.Simulator.{blank_station, blank_cable, blank_breaker}
use Rattle.grid.specs.declared.parts.ConverterTopology.TheVariants.{Lcc}
use Rattle.grid.specs.declared.parts.ConverterStation.{ConverterStation}
use Rattle.grid.specs.declared.simulator.DcSwitchingSimulator.{DcSwitchingSimulator}
use Rattle.run_start.specs.Start.{time_at, rated_of}

-- step 3 of 0.1 ms is at 0.30000000000000004 ms, step 0 at 0
times_are : (time_at (decimal 1 10) 3 ≡ of_bits binary64 0x3fd3333333333334) × (time_at (decimal 1 10) 0 ≡ nought)
unfolding of_bits of_int round mul
times_are = (refl, refl)

station : ConverterStation
station =
    record {
      id = 7;
      topology = Lcc;
      v_dc_rated_kv = decimal 3201 10;
      p_rated_mw = decimal 5 1;
      x_transformer_pu = nought;
      scr = nought;
      control_angle_deg = nought;
      x_commutation_pu = nought;
      arm_inductance_mh = nought;
      sm_capacitance_uf = nought;
    }

-- of three stations in the array the count speaks of one
one : DcSwitchingSimulator
one =
    record {
      stations = station ∷ station ∷ station ∷ replicate 29 blank_station;
      cables = replicate 64 blank_cable;
      breakers = replicate 32 blank_breaker;
      n_stations = 1;
      n_cables = 0;
      n_breakers = 0;
      dt_us = nought;
      duration_ms = nought;
    }

rated_are : rated_of one ≡ decimal 3201 10 ∷ replicate 95 nought
unfolding station one rated_of padded tab
rated_are = refl
