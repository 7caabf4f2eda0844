-- Worked examples of the definitions: they are believed, so a wrong clause need break no other proof. The texts and numbers were written by hand from document 01.9.
use mathlib.Core.Path.{◌≡◌, refl}
use mathlib.Core.List.{[], ◌∷◌}
use Rattle.printed_numbers.specs.Printed.{digits_of, right_justified, with_number, printed_decimal}

-- 0 in 4 columns, 7 in 12, the largest number of 64 bits in 21, 123456 in 4: its last digits, and in no column
printed_are : (right_justified 4 0 ≡ (32 ∷ 32 ∷ 32 ∷ 48 ∷ [])) × (right_justified 12 7 ≡ (32 ∷ 32 ∷ 32 ∷ 32 ∷ 32 ∷ 32 ∷ 32 ∷ 32 ∷ 32 ∷ 32 ∷ 32 ∷ 55 ∷ [])) × (right_justified 21 18446744073709551615 ≡ (32 ∷ 49 ∷ 56 ∷ 52 ∷ 52 ∷ 54 ∷ 55 ∷ 52 ∷ 52 ∷ 48 ∷ 55 ∷ 51 ∷ 55 ∷ 48 ∷ 57 ∷ 53 ∷ 53 ∷ 49 ∷ 54 ∷ 49 ∷ 53 ∷ [])) × (right_justified 4 123456 ≡ (51 ∷ 52 ∷ 53 ∷ 54 ∷ [])) × (right_justified 0 5 ≡ [])
unfolding right_justified digits_of
printed_are = (refl, refl, refl, refl, refl)

-- 42 in the middle 3 of 5 columns; where the last column is past the end, nothing
written_are : (with_number (97 ∷ 98 ∷ 99 ∷ 100 ∷ 101 ∷ []) 1 3 42 ≡ (97 ∷ 32 ∷ 52 ∷ 50 ∷ 101 ∷ [])) × (with_number (97 ∷ 98 ∷ 99 ∷ 100 ∷ 101 ∷ []) 3 3 42 ≡ (97 ∷ 98 ∷ 99 ∷ 100 ∷ 101 ∷ []))
unfolding with_number right_justified digits_of
written_are = (refl, refl)

-- 1.50, 0.005 and 12
decimals_are : (printed_decimal 150 2 ≡ (32 ∷ 32 ∷ 32 ∷ 32 ∷ 32 ∷ 32 ∷ 32 ∷ 32 ∷ 49 ∷ 46 ∷ 53 ∷ 48 ∷ [])) × (printed_decimal 5 3 ≡ (32 ∷ 32 ∷ 32 ∷ 32 ∷ 32 ∷ 32 ∷ 32 ∷ 48 ∷ 46 ∷ 48 ∷ 48 ∷ 53 ∷ [])) × (printed_decimal 12 0 ≡ (32 ∷ 32 ∷ 32 ∷ 32 ∷ 32 ∷ 32 ∷ 32 ∷ 32 ∷ 32 ∷ 32 ∷ 49 ∷ 50 ∷ []))
unfolding printed_decimal digits_of
decimals_are = (refl, refl, refl)
