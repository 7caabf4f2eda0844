-- The voltage-source converter of document 01.1, a line of 000's `vsc_operating_point` to a definition.
use Rattle.std.specs.Prelude.{cond, pos, Float}
use Rattle.std.specs.Float.{binary64}
use Rattle.std.specs.Float.Ieee.{of_int, lt}
use Rattle.float64.specs.Constants.{nought, one, k180, pi, half}
use Rattle.float64.specs.Arithmetic.{◌⊕◌, ◌⊗◌, ◌⊘◌}
use Rattle.float64.specs.Choice.{max_of, abs_of, clamp_of}
use Rattle.square_root.specs.Root.{root_of}
use Rattle.grid.specs.Parts.{submodules_of}
use Rattle.grid.specs.declared.parts.ConverterTopology.{ConverterTopology}
use Rattle.grid.specs.declared.parts.ConverterTopology.TheVariants.{Lcc, TwoLevelVsc, Mmc, Hybrid}
use Rattle.grid.specs.declared.parts.ConverterStation.{ConverterStation}
use Rattle.converter.specs.declared.point.ConverterOperatingPoint.{ConverterOperatingPoint}
use Rattle.converter.specs.Constants.{three_halves, least, least_square, vsc_standing, vsc_linear, vsc_square, most_modulation, idle_modulation, hybrid_part, lcc_part}

-- VSC: voltage at least 1e-6
abbrev pub vsc_voltage : Float → Float
vsc_voltage v = max_of v least

-- I = P / V
abbrev pub vsc_current : Float → Float → Float
vsc_current p v = p ⊘ vsc_voltage v

-- the AC voltage: V / √1.5
abbrev pub ac_voltage : Float → Float
ac_voltage v = v ⊘ root_of three_halves

-- the modulation index, back from the voltage: V / (Vac·√1.5), cut to 0..1.15; 0.85 where there is no voltage
unfoldable pub modulation : Float → Float
modulation v = cond (lt least (ac_voltage v)) (clamp_of (v ⊘ (ac_voltage v ⊗ root_of three_halves)) nought most_modulation) idle_modulation

-- the index as an angle
abbrev pub modulation_angle : Float → Float
modulation_angle v = modulation (vsc_voltage v) ⊗ k180 ⊘ pi

-- losses: a + b·|I| + c·I·I
abbrev pub rated_current : ConverterStation → Float
rated_current s = s.p_rated_mw ⊘ max_of s.v_dc_rated_kv least

abbrev pub a : ConverterStation → Float
a s = vsc_standing ⊗ s.p_rated_mw

abbrev pub b : ConverterStation → Float
b s = vsc_linear ⊗ s.p_rated_mw ⊘ max_of (rated_current s) least

abbrev pub c : ConverterStation → Float
c s = vsc_square ⊗ s.p_rated_mw ⊘ max_of (rated_current s ⊗ rated_current s) least_square

abbrev pub losses_at : ConverterStation → Float → Float
losses_at s i = a s ⊕ b s ⊗ abs_of i ⊕ c s ⊗ i ⊗ i

-- and of these, by topology: of an MMC the less the more submodules it has
unfoldable pub loss_factor : ConverterTopology → Float
loss_factor Lcc = lcc_part
loss_factor TwoLevelVsc = one
loss_factor (Mmc n) = half ⊕ half ⊘ root_of (of_int binary64 (pos (submodules_of n)))
loss_factor Hybrid = hybrid_part

abbrev pub vsc_losses : ConverterStation → Float → Float
vsc_losses s i = abs_of (losses_at s i ⊗ loss_factor s.topology)

unfoldable pub vsc_point : ConverterStation → Float → Float → ConverterOperatingPoint
vsc_point s p v =
    record {
      station_id = s.id;
      p_dc_mw = p;
      v_dc_kv = vsc_voltage v;
      i_dc_ka = vsc_current p v;
      firing_angle_deg = modulation_angle v;
      power_factor = one;
      losses_mw = vsc_losses s (vsc_current p v);
    }
