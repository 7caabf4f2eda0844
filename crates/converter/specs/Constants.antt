-- The constants of 000's converters. Each is written by its bits, as a literal of the code is, and the law at the end says of which decimal it is the nearest double.
use Rattle.std.specs.Prelude.{◌≡◌, ◌^◌, refl, Float}
use Rattle.std.specs.Float.{binary64}
use Rattle.std.specs.Float.Ieee.{of_bits, round}
use Rattle.float64.specs.Constants.{decimal}

abbrev pub three : Float
three = of_bits binary64 0x4008_0000_0000_0000

abbrev pub four : Float
four = of_bits binary64 0x4010_0000_0000_0000

abbrev pub three_halves : Float
three_halves = of_bits binary64 0x3ff8_0000_0000_0000

-- what a voltage, and a rated power or a current that divides, is raised to
abbrev pub least : Float
least = of_bits binary64 0x3eb0_c6f7_a0b5_ed8d

-- what a squared current is raised to where it divides
abbrev pub least_square : Float
least_square = of_bits binary64 0x3d71_9799_812d_ea11

-- an LCC's losses without current, as a part of its rated power
abbrev pub lcc_standing : Float
lcc_standing = of_bits binary64 0x3f7c_ac08_3126_e979

-- its resistance, as a part of its base impedance
abbrev pub lcc_resistance : Float
lcc_resistance = of_bits binary64 0x3f50_624d_d2f1_a9fc

-- a VSC's losses without current, with it, and with its square, as parts of its rated power
abbrev pub vsc_standing : Float
vsc_standing = of_bits binary64 0x3f74_7ae1_47ae_147b

abbrev pub vsc_linear : Float
vsc_linear = of_bits binary64 0x3f50_624d_d2f1_a9fc

abbrev pub vsc_square : Float
vsc_square = of_bits binary64 0x3f74_7ae1_47ae_147b

-- the most that a modulation index may be, and what it is where there is no voltage
abbrev pub most_modulation : Float
most_modulation = of_bits binary64 0x3ff2_6666_6666_6666

abbrev pub idle_modulation : Float
idle_modulation = of_bits binary64 0x3feb_3333_3333_3333

-- the losses of a hybrid and of an LCC beside those of a two-level converter
abbrev pub hybrid_part : Float
hybrid_part = of_bits binary64 0x3fe9_9999_9999_999a

abbrev pub lcc_part : Float
lcc_part = of_bits binary64 0x3fe3_3333_3333_3333

pub constants_are
    : (three ≡ decimal 3 1)
    × (four ≡ decimal 4 1)
    × (three_halves ≡ decimal 15 10)
    × (least ≡ decimal 1 (10 ^ 6))
    × (least_square ≡ decimal 1 (10 ^ 12))
    × (lcc_standing ≡ decimal 7 1000)
    × (lcc_resistance ≡ decimal 1 1000)
    × (vsc_standing ≡ decimal 5 1000)
    × (vsc_linear ≡ decimal 1 1000)
    × (vsc_square ≡ decimal 5 1000)
    × (most_modulation ≡ decimal 115 100)
    × (idle_modulation ≡ decimal 85 100)
    × (hybrid_part ≡ decimal 8 10)
    × (lcc_part ≡ decimal 6 10)
unfolding of_bits round
constants_are = (refl, refl, refl, refl, refl, refl, refl, refl, refl, refl, refl, refl, refl, refl)
