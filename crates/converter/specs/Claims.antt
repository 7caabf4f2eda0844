-- What document 01.1 says of a VSC's voltage in words. The proof is in proofs/Claims.antt.
use Rattle.std.specs.Prelude.{◌≡◌, true, Float}
use Rattle.std.specs.Float.Ieee.{le}
use Rattle.grid.specs.declared.parts.ConverterStation.{ConverterStation}
use Rattle.converter.specs.Constants.{least}
use Rattle.converter.specs.Vsc.{vsc_point}

pub record VoltageClaims : Type 0 where
  -- "VSC: voltage at least 1e-6", at any doubles, NaN among them
  pub vsc_voltage_lem : (s : ConverterStation) (p v : Float) → le least (vsc_point s p v).v_dc_kv ≡ true
