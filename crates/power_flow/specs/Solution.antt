-- Operating points and losses at given voltages. Definitions only.
use Rattle.std.specs.Prelude.{ℕ, Bool, true, false, cond, List, get_or, Float}
use Rattle.lists.specs.Tables.{padded}
use Rattle.float64.specs.Constants.{nought}
use Rattle.float64.specs.Arithmetic.{◌⊖◌, ◌⊗◌, ◌⊘◌, added_up, sum_of, of}
use Rattle.float64.specs.Choice.{abs_of}
use Rattle.grid.specs.Simulator.{blank_station, blank_cable}
use Rattle.grid.specs.declared.parts.ConverterStation.{ConverterStation}
use Rattle.grid.specs.declared.parts.ConverterTopology.{ConverterTopology}
use Rattle.grid.specs.declared.parts.ConverterTopology.TheVariants.{Lcc, TwoLevelVsc, Mmc, Hybrid}
use Rattle.grid.specs.declared.parts.DcCable.{DcCable}
use Rattle.converter.specs.declared.point.ConverterOperatingPoint.{ConverterOperatingPoint}
use Rattle.converter.specs.Point.{blank_point}
use Rattle.converter.specs.Lcc.{lcc_point}
use Rattle.converter.specs.Vsc.{vsc_point}
use Rattle.grid.specs.Cables.{resistance, cut}
use Rattle.flow_voltages.specs.Balance.{current}

unfoldable pub is_lcc : ConverterTopology → Bool
is_lcc Lcc = true
is_lcc TwoLevelVsc = false
is_lcc (Mmc k) = false
is_lcc Hybrid = false

-- an LCC's point is taken at its current, every other's at its power and voltage
abbrev pub converter_point : ConverterStation → Float → Float → ConverterOperatingPoint
converter_point s v i = cond (is_lcc s.topology) (lcc_point s (abs_of i)) (vsc_point s (abs_of (v ⊗ i)) v)

-- the grid's own power, voltage and current, with the converter's angle, power factor and losses
unfoldable pub operating_point : ConverterStation → Float → Float → ConverterOperatingPoint
operating_point s v i =
    record {
      station_id = s.id;
      p_dc_mw = v ⊗ i;
      v_dc_kv = v;
      i_dc_ka = i;
      firing_angle_deg = (converter_point s v i).firing_angle_deg;
      power_factor = (converter_point s v i).power_factor;
      losses_mw = (converter_point s v i).losses_mw;
    }

-- the point of station k
abbrev pub point_of : List ConverterStation → ℕ → List Float → List Float → ℕ → ConverterOperatingPoint
point_of stations n m v k = operating_point (get_or stations k blank_station) (of v k) (current m n v k)

abbrev pub operating_points : List ConverterStation → ℕ → List Float → List Float → List ConverterOperatingPoint
operating_points stations n m v = padded 32 n (point_of stations n m v) blank_point

-- its loss uses the end cut to the last station
abbrev pub cable_current : ℕ → List Float → DcCable → Float
cable_current n v c = (of v (cut n c.from_station) ⊖ of v (cut n c.to_station)) ⊘ resistance c

unfoldable pub cable_loss : ℕ → List Float → DcCable → Float
cable_loss n v c = abs_of (cable_current n v c ⊗ cable_current n v c ⊗ resistance c)

-- the loss of cable k
abbrev pub loss_of : List DcCable → ℕ → List Float → ℕ → Float
loss_of cables n v k = cable_loss n v (get_or cables k blank_cable)

abbrev pub cable_losses : List DcCable → ℕ → ℕ → List Float → List Float
cable_losses cables count n v = padded 64 count (loss_of cables n v) nought

-- the cables' losses from zero, then the stations'
unfoldable pub total_losses : List ConverterStation → ℕ → List DcCable → ℕ → List Float → List Float → Float
total_losses stations n cables count m v = added_up (sum_of (loss_of cables n v) count) (λ k. (point_of stations n m v k).losses_mw) n
