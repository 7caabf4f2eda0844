-- A point of zeros. Definitions only.
use Rattle.float64.specs.Constants.{nought}
use Rattle.converter.specs.declared.point.ConverterOperatingPoint.{ConverterOperatingPoint}

abbrev pub blank_point : ConverterOperatingPoint
blank_point =
    record {
      station_id = 0;
      p_dc_mw = nought;
      v_dc_kv = nought;
      i_dc_ka = nought;
      firing_angle_deg = nought;
      power_factor = nought;
      losses_mw = nought;
    }
