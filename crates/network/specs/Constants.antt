-- The constants of 000's model. Each is written by its bits, as a literal of the code is, and the law at the end says of which decimal it is the nearest double.
use Rattle.std.specs.Prelude.{◌≡◌, ◌^◌, refl, Float}
use Rattle.std.specs.Float.{binary64}
use Rattle.std.specs.Float.Ieee.{of_bits, round}
use Rattle.float64.specs.Constants.{decimal}

abbrev pub six : Float
six = of_bits binary64 0x4018_0000_0000_0000

-- 000's angular frequency in the size of a converter's capacitor
abbrev pub frequency : Float
frequency = of_bits binary64 0x4073_a000_0000_0000

abbrev pub million : Float
million = of_bits binary64 0x412e_8480_0000_0000

-- the least capacitance of a station in microfarads, and in farads
abbrev pub least_microfarads : Float
least_microfarads = of_bits binary64 0x3f84_7ae1_47ae_147b

abbrev pub least_farads : Float
least_farads = of_bits binary64 0x3d71_9799_812d_ea11

-- the least inductance of a cable in henries, and resistance of a fault in ohms
abbrev pub least_henries : Float
least_henries = of_bits binary64 0x3e11_2e0b_e826_d695

abbrev pub least_fault_resistance : Float
least_fault_resistance = of_bits binary64 0x3eb0_c6f7_a0b5_ed8d

pub constants_are
    : (six ≡ decimal 6 1)
    × (frequency ≡ decimal 314 1)
    × (million ≡ decimal 1000000 1)
    × (least_microfarads ≡ decimal 1 100)
    × (least_farads ≡ decimal 1 (10 ^ 12))
    × (least_henries ≡ decimal 1 (10 ^ 9))
    × (least_fault_resistance ≡ decimal 1 (10 ^ 6))
unfolding of_bits round
constants_are = (refl, refl, refl, refl, refl, refl, refl)
