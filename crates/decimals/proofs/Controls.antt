-- Worked examples of the definitions: they are believed, so a wrong clause need break no other proof. The texts were made by a program with exact fractions.
use mathlib.Core.Path.{◌≡◌, refl}
use mathlib.Core.List.{[], ◌∷◌}
use lib.Ieee.{of_bits}
use Rattle.float64.specs.Pattern.{double_of}
use Rattle.decimals.specs.Decimals.{in_millionths, all_digits, six_places, fitted, decimal_column}

-- 0, -0, -4e-7, the least double above 0: a zero has no sign
zeros_are : (decimal_column (double_of 0) ≡ (32 ∷ 32 ∷ 32 ∷ 32 ∷ 32 ∷ 32 ∷ 32 ∷ 32 ∷ 32 ∷ 32 ∷ 32 ∷ 32 ∷ 32 ∷ 48 ∷ 46 ∷ 48 ∷ 48 ∷ 48 ∷ 48 ∷ 48 ∷ 48 ∷ [])) × (decimal_column (double_of 9223372036854775808) ≡ (32 ∷ 32 ∷ 32 ∷ 32 ∷ 32 ∷ 32 ∷ 32 ∷ 32 ∷ 32 ∷ 32 ∷ 32 ∷ 32 ∷ 32 ∷ 48 ∷ 46 ∷ 48 ∷ 48 ∷ 48 ∷ 48 ∷ 48 ∷ 48 ∷ [])) × (decimal_column (double_of 13734527450597863240) ≡ (32 ∷ 32 ∷ 32 ∷ 32 ∷ 32 ∷ 32 ∷ 32 ∷ 32 ∷ 32 ∷ 32 ∷ 32 ∷ 32 ∷ 32 ∷ 48 ∷ 46 ∷ 48 ∷ 48 ∷ 48 ∷ 48 ∷ 48 ∷ 48 ∷ [])) × (decimal_column (double_of 1) ≡ (32 ∷ 32 ∷ 32 ∷ 32 ∷ 32 ∷ 32 ∷ 32 ∷ 32 ∷ 32 ∷ 32 ∷ 32 ∷ 32 ∷ 32 ∷ 48 ∷ 46 ∷ 48 ∷ 48 ∷ 48 ∷ 48 ∷ 48 ∷ 48 ∷ []))
unfolding decimal_column in_millionths six_places fitted all_digits of_bits
zeros_are = (refl, refl, refl, refl)

-- 2^-7 and 3 * 2^-7 lie half way: 0.007812 and 0.023438 are the even ones; -2^-7; 5e-7 as a double lies a little below half, 1.5e-6 above
ties_are : (decimal_column (double_of 4575657221408423936) ≡ (32 ∷ 32 ∷ 32 ∷ 32 ∷ 32 ∷ 32 ∷ 32 ∷ 32 ∷ 32 ∷ 32 ∷ 32 ∷ 32 ∷ 32 ∷ 48 ∷ 46 ∷ 48 ∷ 48 ∷ 55 ∷ 56 ∷ 49 ∷ 50 ∷ [])) × (decimal_column (double_of 4582412620849479680) ≡ (32 ∷ 32 ∷ 32 ∷ 32 ∷ 32 ∷ 32 ∷ 32 ∷ 32 ∷ 32 ∷ 32 ∷ 32 ∷ 32 ∷ 32 ∷ 48 ∷ 46 ∷ 48 ∷ 50 ∷ 51 ∷ 52 ∷ 51 ∷ 56 ∷ [])) × (decimal_column (double_of 13799029258263199744) ≡ (32 ∷ 32 ∷ 32 ∷ 32 ∷ 32 ∷ 32 ∷ 32 ∷ 32 ∷ 32 ∷ 32 ∷ 32 ∷ 32 ∷ 45 ∷ 48 ∷ 46 ∷ 48 ∷ 48 ∷ 55 ∷ 56 ∷ 49 ∷ 50 ∷ [])) × (decimal_column (double_of 4512825593480736141) ≡ (32 ∷ 32 ∷ 32 ∷ 32 ∷ 32 ∷ 32 ∷ 32 ∷ 32 ∷ 32 ∷ 32 ∷ 32 ∷ 32 ∷ 32 ∷ 48 ∷ 46 ∷ 48 ∷ 48 ∷ 48 ∷ 48 ∷ 48 ∷ 48 ∷ [])) × (decimal_column (double_of 4519690376349541460) ≡ (32 ∷ 32 ∷ 32 ∷ 32 ∷ 32 ∷ 32 ∷ 32 ∷ 32 ∷ 32 ∷ 32 ∷ 32 ∷ 32 ∷ 32 ∷ 48 ∷ 46 ∷ 48 ∷ 48 ∷ 48 ∷ 48 ∷ 48 ∷ 50 ∷ []))
unfolding decimal_column in_millionths six_places fitted all_digits of_bits
ties_are = (refl, refl, refl, refl, refl)

-- the widest that 20 characters hold, and those that they do not: 9999999999999.998, 1e13, -999999999999.9999, -1e12
widest_are : (decimal_column (double_of 4801453603149578239) ≡ (32 ∷ 57 ∷ 57 ∷ 57 ∷ 57 ∷ 57 ∷ 57 ∷ 57 ∷ 57 ∷ 57 ∷ 57 ∷ 57 ∷ 57 ∷ 57 ∷ 46 ∷ 57 ∷ 57 ∷ 56 ∷ 48 ∷ 52 ∷ 55 ∷ [])) × (decimal_column (double_of 4801453603149578240) ≡ (42 ∷ 42 ∷ 42 ∷ 42 ∷ 42 ∷ 42 ∷ 42 ∷ 42 ∷ 42 ∷ 42 ∷ 42 ∷ 42 ∷ 42 ∷ 42 ∷ 42 ∷ 42 ∷ 42 ∷ 42 ∷ 42 ∷ 42 ∷ 42 ∷ [])) × (decimal_column (double_of 14009883241494872063) ≡ (32 ∷ 45 ∷ 57 ∷ 57 ∷ 57 ∷ 57 ∷ 57 ∷ 57 ∷ 57 ∷ 57 ∷ 57 ∷ 57 ∷ 57 ∷ 57 ∷ 46 ∷ 57 ∷ 57 ∷ 57 ∷ 56 ∷ 55 ∷ 56 ∷ [])) × (decimal_column (double_of 14009883241494872064) ≡ (42 ∷ 42 ∷ 42 ∷ 42 ∷ 42 ∷ 42 ∷ 42 ∷ 42 ∷ 42 ∷ 42 ∷ 42 ∷ 42 ∷ 42 ∷ 42 ∷ 42 ∷ 42 ∷ 42 ∷ 42 ∷ 42 ∷ 42 ∷ 42 ∷ []))
unfolding decimal_column in_millionths six_places fitted all_digits of_bits
widest_are = (refl, refl, refl, refl)

-- the largest double, an infinity, a NaN
others_are : (decimal_column (double_of 9218868437227405311) ≡ (42 ∷ 42 ∷ 42 ∷ 42 ∷ 42 ∷ 42 ∷ 42 ∷ 42 ∷ 42 ∷ 42 ∷ 42 ∷ 42 ∷ 42 ∷ 42 ∷ 42 ∷ 42 ∷ 42 ∷ 42 ∷ 42 ∷ 42 ∷ 42 ∷ [])) × (decimal_column (double_of 18442240474082181120) ≡ (42 ∷ 42 ∷ 42 ∷ 42 ∷ 42 ∷ 42 ∷ 42 ∷ 42 ∷ 42 ∷ 42 ∷ 42 ∷ 42 ∷ 42 ∷ 42 ∷ 42 ∷ 42 ∷ 42 ∷ 42 ∷ 42 ∷ 42 ∷ 42 ∷ [])) × (decimal_column (double_of 9221120237041090560) ≡ (42 ∷ 42 ∷ 42 ∷ 42 ∷ 42 ∷ 42 ∷ 42 ∷ 42 ∷ 42 ∷ 42 ∷ 42 ∷ 42 ∷ 42 ∷ 42 ∷ 42 ∷ 42 ∷ 42 ∷ 42 ∷ 42 ∷ 42 ∷ 42 ∷ []))
unfolding decimal_column in_millionths six_places fitted all_digits of_bits
others_are = (refl, refl, refl)

-- a peak, a clearing current, an energy and a loss of a link, as the Rust has them
figures_are : (decimal_column (double_of 4615324419562025298) ≡ (32 ∷ 32 ∷ 32 ∷ 32 ∷ 32 ∷ 32 ∷ 32 ∷ 32 ∷ 32 ∷ 32 ∷ 32 ∷ 32 ∷ 32 ∷ 51 ∷ 46 ∷ 54 ∷ 49 ∷ 53 ∷ 55 ∷ 55 ∷ 53 ∷ [])) × (decimal_column (double_of 4613765749141435606) ≡ (32 ∷ 32 ∷ 32 ∷ 32 ∷ 32 ∷ 32 ∷ 32 ∷ 32 ∷ 32 ∷ 32 ∷ 32 ∷ 32 ∷ 32 ∷ 50 ∷ 46 ∷ 57 ∷ 50 ∷ 51 ∷ 53 ∷ 56 ∷ 54 ∷ [])) × (decimal_column (double_of 4588769038250295250) ≡ (32 ∷ 32 ∷ 32 ∷ 32 ∷ 32 ∷ 32 ∷ 32 ∷ 32 ∷ 32 ∷ 32 ∷ 32 ∷ 32 ∷ 32 ∷ 48 ∷ 46 ∷ 48 ∷ 53 ∷ 57 ∷ 55 ∷ 51 ∷ 50 ∷ [])) × (decimal_column (double_of 4620615738249781035) ≡ (32 ∷ 32 ∷ 32 ∷ 32 ∷ 32 ∷ 32 ∷ 32 ∷ 32 ∷ 32 ∷ 32 ∷ 32 ∷ 32 ∷ 32 ∷ 55 ∷ 46 ∷ 57 ∷ 51 ∷ 49 ∷ 49 ∷ 56 ∷ 52 ∷ []))
unfolding decimal_column in_millionths six_places fitted all_digits of_bits
figures_are = (refl, refl, refl, refl)
