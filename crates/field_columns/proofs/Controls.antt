-- Worked examples of the definitions: they are believed, so a wrong clause need break no other proof. The texts and numbers were written by hand from document 01.9; the bits of the doubles
-- were computed in Python.
use mathlib.Core.Path.{◌≡◌, refl}
use mathlib.Core.List.{List, [], ◌∷◌, ◌++◌}
use Prim.Native.Nat.{ℕ, ◌-◌}
use lib.ListN.{length, replicate}
use lib.Ieee.{binary64, of_bits, round, size}
use Rattle.field_columns.specs.Fields.{field_of, whole_of, real_of}
use Rattle.std.specs.Prelude.{Option, Some, None, Float}
use Rattle.field_columns.specs.declared.fields.Decimal.{Decimal}

-- text at the end of 12 columns
abbrev at_end_lem : List ℕ → List ℕ
at_end_lem text = replicate (12 - length text) 32 ++ text

abbrev decimal : ℕ → ℕ → Option Decimal
decimal n p = Some (record { digits = n; places = p })

abbrev double : ℕ → Option Float
double bits = Some (of_bits binary64 bits)

-- "7", "007", "1.5", "001.50", "0.000001", "23456.789012", and 12 digits
numbers_are : (field_of (at_end_lem (55 ∷ [])) ≡ decimal 7 0) × (field_of (at_end_lem (48 ∷ 48 ∷ 55 ∷ [])) ≡ decimal 7 0) × (field_of (at_end_lem (49 ∷ 46 ∷ 53 ∷ [])) ≡ decimal 15 1) × (field_of (at_end_lem (48 ∷ 48 ∷ 49 ∷ 46 ∷ 53 ∷ 48 ∷ [])) ≡ decimal 150 2) × (field_of (at_end_lem (48 ∷ 46 ∷ 48 ∷ 48 ∷ 48 ∷ 48 ∷ 48 ∷ 49 ∷ [])) ≡ decimal 1 6) × (field_of (at_end_lem (50 ∷ 51 ∷ 52 ∷ 53 ∷ 54 ∷ 46 ∷ 55 ∷ 56 ∷ 57 ∷ 48 ∷ 49 ∷ 50 ∷ [])) ≡ decimal 23456789012 6) × (field_of (at_end_lem (57 ∷ 57 ∷ 57 ∷ 57 ∷ 57 ∷ 57 ∷ 57 ∷ 57 ∷ 57 ∷ 57 ∷ 57 ∷ 57 ∷ [])) ≡ decimal 999999999999 0)
unfolding field_of
numbers_are = (refl, refl, refl, refl, refl, refl, refl)

-- spaces alone, "1.", ".5", "1.2.3", "-5", "+5", "1,5", "1e5", "1 5" and 7 digits after the point
forms_wrong : (field_of (at_end_lem ([])) ≡ None) × (field_of (at_end_lem (49 ∷ 46 ∷ [])) ≡ None) × (field_of (at_end_lem (46 ∷ 53 ∷ [])) ≡ None) × (field_of (at_end_lem (49 ∷ 46 ∷ 50 ∷ 46 ∷ 51 ∷ [])) ≡ None) × (field_of (at_end_lem (45 ∷ 53 ∷ [])) ≡ None) × (field_of (at_end_lem (43 ∷ 53 ∷ [])) ≡ None) × (field_of (at_end_lem (49 ∷ 44 ∷ 53 ∷ [])) ≡ None) × (field_of (at_end_lem (49 ∷ 101 ∷ 53 ∷ [])) ≡ None) × (field_of (at_end_lem (49 ∷ 32 ∷ 53 ∷ [])) ≡ None) × (field_of (at_end_lem (48 ∷ 46 ∷ 48 ∷ 48 ∷ 48 ∷ 48 ∷ 48 ∷ 48 ∷ 49 ∷ [])) ≡ None)
unfolding field_of
forms_wrong = (refl, refl, refl, refl, refl, refl, refl, refl, refl, refl)

-- "5" before the spaces, a space behind "5", 11 columns, 13, none, a NUL, a tab before "5", the bytes 47 and 58 next to the digits, and byte 178, which is a raised 2 in Latin-1
columns_wrong : (field_of (53 ∷ 32 ∷ 32 ∷ 32 ∷ 32 ∷ 32 ∷ 32 ∷ 32 ∷ 32 ∷ 32 ∷ 32 ∷ 32 ∷ []) ≡ None) × (field_of (32 ∷ 32 ∷ 32 ∷ 32 ∷ 32 ∷ 32 ∷ 32 ∷ 32 ∷ 32 ∷ 32 ∷ 53 ∷ 32 ∷ []) ≡ None) × (field_of (32 ∷ 32 ∷ 32 ∷ 32 ∷ 32 ∷ 32 ∷ 32 ∷ 32 ∷ 32 ∷ 32 ∷ 53 ∷ []) ≡ None) × (field_of (32 ∷ 32 ∷ 32 ∷ 32 ∷ 32 ∷ 32 ∷ 32 ∷ 32 ∷ 32 ∷ 32 ∷ 32 ∷ 32 ∷ 53 ∷ []) ≡ None) × (field_of ([]) ≡ None) × (field_of (at_end_lem (0 ∷ [])) ≡ None) × (field_of (at_end_lem (9 ∷ 53 ∷ [])) ≡ None) × (field_of (at_end_lem (53 ∷ 47 ∷ [])) ≡ None) × (field_of (at_end_lem (53 ∷ 58 ∷ [])) ≡ None) × (field_of (at_end_lem (178 ∷ [])) ≡ None)
unfolding field_of
columns_wrong = (refl, refl, refl, refl, refl, refl, refl, refl, refl, refl)

-- a whole-number field: "007", and "7.0", which has a point
wholes_are : (whole_of (at_end_lem (48 ∷ 48 ∷ 55 ∷ [])) ≡ Some 7) × (whole_of (at_end_lem (55 ∷ 46 ∷ 48 ∷ [])) ≡ None) × (whole_of (at_end_lem (120 ∷ [])) ≡ None)
unfolding whole_of field_of
wholes_are = (refl, refl, refl)

-- "0.1", "1999.9", "0.000001", "99999.999999", 12 digits, "0.3", "0", and a field that is wrong
doubles_are : (real_of (at_end_lem (48 ∷ 46 ∷ 49 ∷ [])) ≡ double 4591870180066957722) × (real_of (at_end_lem (49 ∷ 57 ∷ 57 ∷ 57 ∷ 46 ∷ 57 ∷ [])) ≡ double 4656510468663908762) × (real_of (at_end_lem (48 ∷ 46 ∷ 48 ∷ 48 ∷ 48 ∷ 48 ∷ 48 ∷ 49 ∷ [])) ≡ double 4517329193108106637) × (real_of (at_end_lem (57 ∷ 57 ∷ 57 ∷ 57 ∷ 57 ∷ 46 ∷ 57 ∷ 57 ∷ 57 ∷ 57 ∷ 57 ∷ 57 ∷ [])) ≡ double 4681608360884106129) × (real_of (at_end_lem (57 ∷ 57 ∷ 57 ∷ 57 ∷ 57 ∷ 57 ∷ 57 ∷ 57 ∷ 57 ∷ 57 ∷ 57 ∷ 57 ∷ [])) ≡ double 4786511204640088064) × (real_of (at_end_lem (48 ∷ 46 ∷ 51 ∷ [])) ≡ double 4599075939470750515) × (real_of (at_end_lem (48 ∷ [])) ≡ double 0) × (real_of (at_end_lem (49 ∷ 46 ∷ [])) ≡ None)
unfolding real_of field_of round size of_bits
doubles_are = (refl, refl, refl, refl, refl, refl, refl, refl)
