-- The line-commutated converter of document 01.1, a line of 000's `lcc_operating_point` to a definition.
use Rattle.std.specs.Prelude.{Float}
use Rattle.float64.specs.Constants.{nought, one, minus_one, two, pi}
use Rattle.square_root.specs.Constants.{sqrt2}
use Rattle.float64.specs.Arithmetic.{◌⊕◌, ◌⊖◌, ◌⊗◌, ◌⊘◌, squared}
use Rattle.float64.specs.Choice.{max_of, min_of, abs_of, clamp_of}
use Rattle.float64.specs.Angle.{radians_of}
use Rattle.elementary.specs.Wave.{C}
use Rattle.grid.specs.declared.parts.ConverterStation.{ConverterStation}
use Rattle.converter.specs.declared.point.ConverterOperatingPoint.{ConverterOperatingPoint}
use Rattle.converter.specs.Constants.{three, four, least, lcc_standing, lcc_resistance}

-- cos α, of the control angle
abbrev pub cos_alpha_of : ConverterStation → Float
cos_alpha_of s = C (radians_of s.control_angle_deg)

-- the AC voltage: rated·π / (3·√2)
abbrev pub ac_voltage : ConverterStation → Float
ac_voltage s = s.v_dc_rated_kv ⊗ pi ⊘ (three ⊗ sqrt2)

-- Vd0, the no-load DC voltage: (3·√2/π)·Vac
abbrev pub vd0 : ConverterStation → Float
vd0 s = (three ⊗ sqrt2 ⊘ pi) ⊗ ac_voltage s

-- the rated power, where it divides
abbrev pub dividing_power : ConverterStation → Float
dividing_power s = max_of s.p_rated_mw least

-- the base impedance: rated² / P
abbrev pub base_impedance : ConverterStation → Float
base_impedance s = squared s.v_dc_rated_kv ⊘ dividing_power s

-- Xc, the commutation reactance
abbrev pub xc : ConverterStation → Float
xc s = s.x_commutation_pu ⊗ base_impedance s

-- V = Vd0·cos α - (3/π)·Xc·I
abbrev pub lcc_voltage : ConverterStation → Float → Float
lcc_voltage s i = vd0 s ⊗ cos_alpha_of s ⊖ (three ⊘ pi) ⊗ xc s ⊗ i

-- P = V·I
abbrev pub lcc_power : ConverterStation → Float → Float
lcc_power s i = lcc_voltage s i ⊗ i

-- the overlap angle μ, approximated: |cos α - (cos α - 2·x·I/P·rated)|, the difference cut to -1..1, at most π/4
abbrev pub overlap_cosine : ConverterStation → Float → Float
overlap_cosine s i = clamp_of (cos_alpha_of s ⊖ two ⊗ s.x_commutation_pu ⊗ i ⊘ dividing_power s ⊗ s.v_dc_rated_kv) minus_one one

abbrev pub overlap : ConverterStation → Float → Float
overlap s i = min_of (abs_of (cos_alpha_of s ⊖ overlap_cosine s i)) (pi ⊘ four)

-- the power factor: cos α·(1 - μ/2), cut to 0..1
abbrev pub lcc_power_factor : ConverterStation → Float → Float
lcc_power_factor s i = clamp_of (cos_alpha_of s ⊗ (one ⊖ overlap s i ⊘ two)) nought one

-- losses: 0.7 percent of the rated power, and I²·R
abbrev pub converter_resistance : ConverterStation → Float
converter_resistance s = lcc_resistance ⊗ base_impedance s

abbrev pub lcc_losses : ConverterStation → Float → Float
lcc_losses s i = abs_of (lcc_standing ⊗ s.p_rated_mw ⊕ i ⊗ i ⊗ converter_resistance s)

unfoldable pub lcc_point : ConverterStation → Float → ConverterOperatingPoint
lcc_point s i =
    record {
      station_id = s.id;
      p_dc_mw = lcc_power s i;
      v_dc_kv = lcc_voltage s i;
      i_dc_ka = i;
      firing_angle_deg = s.control_angle_deg;
      power_factor = lcc_power_factor s i;
      losses_mw = lcc_losses s i;
    }
