-- What document 01.1 says of operating points in words. The proofs are in proofs/Claims.antt.
use Rattle.std.specs.Prelude.{◌≡◌, Float}
use Rattle.float64.specs.Constants.{pi}
use Rattle.float64.specs.Arithmetic.{◌⊖◌, ◌⊗◌, ◌⊘◌}
use Rattle.grid.specs.declared.parts.ConverterStation.{ConverterStation}
use Rattle.rules.specs.Studies.{point_refusal}
use Rattle.converter.specs.Constants.{three}
use Rattle.converter.specs.Point.{blank_point}
use Rattle.converter.specs.Lcc.{cos_alpha_of, vd0, xc, lcc_point}
use Rattle.converter.specs.Vsc.{vsc_point}
use Rattle.operating_points.specs.Answer.{lcc_answer, vsc_answer}

pub record PointClaims : Type 0 where
  -- the converter's equations where the station is accepted, and zeros where it is refused by 6
  pub lcc_accepted : (s : ConverterStation) (i : Float) → point_refusal s ≡ 0 → lcc_answer s i ≡ lcc_point s i
  pub lcc_refused : (s : ConverterStation) (i : Float) → point_refusal s ≡ 6 → lcc_answer s i ≡ blank_point
  pub vsc_accepted : (s : ConverterStation) (p v : Float) → point_refusal s ≡ 0 → vsc_answer s p v ≡ vsc_point s p v
  pub vsc_refused : (s : ConverterStation) (p v : Float) → point_refusal s ≡ 6 → vsc_answer s p v ≡ blank_point
  -- "LCC: V = Vd0·cos α - (3/π)·Xc·I", every operation rounded once, of the point that is returned for an accepted station
  pub lcc_voltage_lem : (s : ConverterStation) (i : Float) → point_refusal s ≡ 0 → (lcc_answer s i).v_dc_kv ≡ (vd0 s ⊗ cos_alpha_of s) ⊖ (((three ⊘ pi) ⊗ xc s) ⊗ i)
