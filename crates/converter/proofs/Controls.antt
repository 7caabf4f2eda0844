-- Worked examples of the definitions: they are believed, so a wrong clause need break no other proof. The answers are the published Rust's, with C for its cosine.
use Rattle.std.proofs.Common.{◌≡◌, ℕ, refl}
use lib.Ieee.{Float, binary64, of_bits, of_int, round, neg, add, sub, mul, div, lt, is_nan, size}
use Rattle.float64.specs.Constants.{nought, one, decimal}
use Rattle.float64.specs.Choice.{max_of, min_of, abs_of, clamp_of}
use Rattle.square_root.specs.Root.{root_of, floor_root, nearest_root}
use Rattle.elementary.specs.Wave.{C, series}
use Rattle.grid.specs.declared.parts.ConverterTopology.{ConverterTopology}
use Rattle.grid.specs.declared.parts.ConverterTopology.TheVariants.{Lcc, TwoLevelVsc, Mmc, Hybrid}
use Rattle.grid.specs.declared.parts.ConverterStation.{ConverterStation}
use Rattle.converter.specs.declared.point.ConverterOperatingPoint.{ConverterOperatingPoint}
use Rattle.converter.specs.Lcc.{lcc_point}
use Rattle.converter.specs.Point.{blank_point}
use Rattle.converter.specs.Vsc.{vsc_point, modulation, loss_factor}

double : ℕ → Float
double n = of_bits binary64 n

-- 100 kV, 50 MW, 0.2 of commutation reactance
station : ConverterTopology → ℕ → ConverterStation
station t degrees =
    record {
      id = 7;
      topology = t;
      v_dc_rated_kv = decimal 100 1;
      p_rated_mw = decimal 50 1;
      x_transformer_pu = nought;
      scr = nought;
      control_angle_deg = decimal degrees 1;
      x_commutation_pu = decimal 2 10;
      arm_inductance_mh = nought;
      sm_capacitance_uf = nought;
    }

point : (p v i angle factor losses : ℕ) → ConverterOperatingPoint
point p v i angle factor losses =
    record { station_id = 7; p_dc_mw = double p; v_dc_kv = double v; i_dc_ka = double i; firing_angle_deg = double angle; power_factor = double factor; losses_mw = double losses }

-- 0.3 kA at 60 degrees; 5 kA, where the overlap is at its most; and 2 kA at 120 degrees, where the power factor is cut at 0
lcc-are
    : (lcc_point (station Lcc 60) (decimal 3 10) ≡ point 0x40271fdfa7bf1924 0x4043453a611f3f9e 0x3fd3333333333333 0x404e000000000000 0x3fdc28f5c28f5c2b 0x3fd78d4fdf3b645b)
    × (lcc_point (station Lcc 60) (decimal 5 1) ≡ point 0xc086076ff0d294b6 0xc0619f8cc0a876f8 0x4014000000000000 0x404e000000000000 0x3fd36f0255dde975 0x4015666666666666)
    × (lcc_point (station Lcc 120) (decimal 2 1) ≡ point 0xc06f993d66ed2bfa 0xc05f993d66ed2bfa 0x4000000000000000 0x405e000000000000 0 0x3ff2666666666667)
unfolding lcc_point station point double C series clamp_of max_of min_of abs_of is_nan lt of_bits of_int round neg add sub mul div
lcc-are = (refl, refl, refl)

-- -12.3 MW at 97.3 kV
taken : ConverterTopology → ℕ → Type 0
taken t losses = vsc_point (station t 0) (neg (decimal 123 10)) (decimal 973 10) ≡ point 0xc02899999999999a 0x4058533333333333 0xbfc02e4e67a9b3b4 0x404ca5dc1a63c1f9 0x3ff0000000000000 losses

vsc_are : taken Lcc 0x3fc565ec6fb1a33d × taken TwoLevelVsc 0x3fd1d4efb2695d5e × taken (Mmc 400) 0x3fc2b92ee1bb6ed6 × taken (Mmc 0) 0x3fd1d4efb2695d5e × taken Hybrid 0x3fcc87e5ea422efd
unfolding taken vsc_point station point double modulation loss_factor root_of floor_root nearest_root size clamp_of max_of abs_of is_nan lt of_bits of_int round neg add sub mul div
vsc_are = (refl, refl, refl, refl, refl)

-- 1 MW at no voltage
idle_is : vsc_point (station TwoLevelVsc 0) one nought ≡ point 0x3ff0000000000000 0x3eb0c6f7a0b5ed8d 0x412e848000000000 0x404859c7e33b31ac 0x3ff0000000000000 0x426d1a94d2d40800
unfolding vsc_point station point double modulation loss_factor root_of floor_root nearest_root size clamp_of max_of abs_of is_nan lt of_bits of_int round neg add sub mul div
idle_is = refl

-- at the voltage whose AC voltage is 1e-6 there is none yet
edge_is : vsc_point (station TwoLevelVsc 0) one (double 0x3eb48c3d3a26c4f6) ≡ point 0x3ff0000000000000 0x3eb48c3d3a26c4f6 0x4128eae1296f5be2 0x404859c7e33b31ac 0x3ff0000000000000 0x4263670de9339265
unfolding vsc_point station point double modulation loss_factor root_of floor_root nearest_root size clamp_of max_of abs_of is_nan lt of_bits of_int round neg add sub mul div
edge_is = refl

-- a rated voltage of 3e-7 kV, which no study accepts, counts as 1e-6 where it divides
unrated : ConverterStation
unrated =
    record {
      id = 7;
      topology = TwoLevelVsc;
      v_dc_rated_kv = decimal 3 10000000;
      p_rated_mw = decimal 50 1;
      x_transformer_pu = nought;
      scr = nought;
      control_angle_deg = nought;
      x_commutation_pu = nought;
      arm_inductance_mh = nought;
      sm_capacitance_uf = nought;
    }

unrated_is : vsc_point unrated (neg (decimal 123 10)) (decimal 973 10) ≡ point 0xc02899999999999a 0x4058533333333333 0xbfc02e4e67a9b3b4 0x404ca5dc1a63c1f9 0x3ff0000000000000 0x3fd000000022bf89
unfolding vsc_point unrated point double modulation loss_factor root_of floor_root nearest_root size clamp_of max_of abs_of is_nan lt of_bits of_int round neg add sub mul div
unrated_is = refl

-- beside a refusal
blank_is : blank_point ≡ record { station_id = 0; p_dc_mw = double 0; v_dc_kv = double 0; i_dc_ka = double 0; firing_angle_deg = double 0; power_factor = double 0; losses_mw = double 0 }
unfolding double of_bits
blank_is = refl
