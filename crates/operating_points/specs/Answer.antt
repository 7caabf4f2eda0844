-- Operating points of document 01.1: the converter's where the station is accepted. Definitions only.
use Rattle.std.specs.Prelude.{cond, eqb, Float}
use Rattle.grid.specs.declared.parts.ConverterStation.{ConverterStation}
use Rattle.rules.specs.Studies.{point_refusal}
use Rattle.converter.specs.declared.point.ConverterOperatingPoint.{ConverterOperatingPoint}
use Rattle.converter.specs.Point.{blank_point}
use Rattle.converter.specs.Lcc.{lcc_point}
use Rattle.converter.specs.Vsc.{vsc_point}

-- An operating point takes one station and any doubles and checks 6 alone: the point where the station is accepted, else all zeros.
abbrev pub accepted : ConverterStation → ConverterOperatingPoint → ConverterOperatingPoint
accepted s point = cond (eqb (point_refusal s) 0) point blank_point

abbrev pub lcc_answer : ConverterStation → Float → ConverterOperatingPoint
lcc_answer s i = accepted s (lcc_point s i)

abbrev pub vsc_answer : ConverterStation → Float → Float → ConverterOperatingPoint
vsc_answer s p v = accepted s (vsc_point s p v)
