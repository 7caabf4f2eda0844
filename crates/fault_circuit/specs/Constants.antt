-- The constants of 000's fault circuit. Each is written by its bits, as a literal of the code is, and the law at the end says of which decimal it is the nearest double.
use Rattle.std.specs.Prelude.{◌≡◌, refl, ◌^◌, Float}
use Rattle.std.specs.Float.{binary64}
use Rattle.std.specs.Float.Ieee.{of_bits, round}
use Rattle.float64.specs.Constants.{decimal}

-- the smoothing inductance, in mH
abbrev pub smoothing : Float
smoothing = of_bits binary64 0x3ff0_0000_0000_0000

-- minimum 0.01 µF
abbrev pub least_capacitance : Float
least_capacitance = of_bits binary64 0x3f84_7ae1_47ae_147b

-- and 0.01 Ω
abbrev pub least_cable_resistance : Float
least_cable_resistance = of_bits binary64 0x3f84_7ae1_47ae_147b

-- the currents of the kinds of fault beside that from pole to pole
abbrev pub ground_part : Float
ground_part = of_bits binary64 0x3fe0_0000_0000_0000

abbrev pub internal_part : Float
internal_part = of_bits binary64 0x3fe6_6666_6666_6666

-- the current, in kA, below which there is none after clearing
abbrev pub least_current : Float
least_current = of_bits binary64 0x3eb0_c6f7_a0b5_ed8d

pub constants_are
    : (smoothing ≡ decimal 1 1)
    × (least_capacitance ≡ decimal 1 100)
    × (least_cable_resistance ≡ decimal 1 100)
    × (ground_part ≡ decimal 5 10)
    × (internal_part ≡ decimal 7 10)
    × (least_current ≡ decimal 1 (10 ^ 6))
unfolding of_bits round
constants_are = (refl, refl, refl, refl, refl, refl)
