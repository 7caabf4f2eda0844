-- A field as document 01.9 has it: 12 columns, a decimal number right-justified after spaces, no sign, one digit or more (leading zeros allowed), then perhaps a point and 1 to 6 digits. The
-- value is the nearest double; a point in a whole-number field is wrong. Bytes are ASCII: a space is 32, a point 46, the digits 48 to 57.
use Rattle.std.specs.Prelude.{ℕ, ◌+◌, ◌*◌, ◌-◌, ◌^◌, Bool, false, ◌&&◌, cond, List, [], ◌∷◌, ◌++◌, eqb, leb, ltb, length, Option, Some, None, Float}
use Rattle.std.specs.Float.{binary64}
use Rattle.std.specs.Float.Ieee.{round}
use Rattle.lists.specs.Scans.{every}
use Rattle.field_columns.specs.declared.fields.Decimal.{Decimal}

-- ---- the form

abbrev pub is_digit : ℕ → Bool
is_digit b = leb 48 b && leb b 57

-- one digit or more, and nothing else
abbrev pub some_digits : List ℕ → Bool
some_digits bs = ltb 0 (length bs) && every is_digit bs

-- the bytes after the spaces at the start
abbrev pub after_spaces : List ℕ → List ℕ
after_spaces [] = []
after_spaces (b ∷ bs) = cond (eqb b 32) (after_spaces bs) (b ∷ bs)

-- all bytes, or those before and those after the first point
pub data Parts : Type 0 where
  no_point : List ℕ → Parts
  at_point : List ℕ → List ℕ → Parts

abbrev pub before : ℕ → Parts → Parts
before b (no_point w) = no_point (b ∷ w)
before b (at_point w f) = at_point (b ∷ w) f

abbrev pub split : List ℕ → Parts
split [] = no_point []
split (b ∷ bs) = cond (eqb b 46) (at_point [] bs) (before b (split bs))

-- ---- the number

-- the number that digits spell, after the digits of n
abbrev pub number_from : ℕ → List ℕ → ℕ
number_from n [] = n
number_from n (b ∷ bs) = number_from (n * 10 + (b - 48)) bs

abbrev pub number : List ℕ → ℕ
number bs = number_from 0 bs

abbrev pub decimal_of : Parts → Option Decimal
decimal_of (no_point w) = cond (some_digits w) (Some (record { digits = number w; places = 0 })) None
decimal_of (at_point w f) = cond (some_digits w && (some_digits f && leb (length f) 6)) (Some (record { digits = number (w ++ f); places = length f })) None

-- ---- the three readings of the columns of a field

unfoldable pub field_of : List ℕ → Option Decimal
field_of cs = cond (eqb (length cs) 12) (decimal_of (split (after_spaces cs))) None

-- of a whole-number field
abbrev pub as_whole : Option Decimal → Option ℕ
as_whole (Some d) = cond (eqb d.places 0) (Some d.digits) None
as_whole None = None

unfoldable pub whole_of : List ℕ → Option ℕ
whole_of cs = as_whole (field_of cs)

-- digits / 10 ^ places, rounded once: the nearest double, as `FieldClaims` has it
abbrev pub value_of : Decimal → Float
value_of d = round binary64 false d.digits (10 ^ d.places)

abbrev pub as_real : Option Decimal → Option Float
as_real (Some d) = Some (value_of d)
as_real None = None

unfoldable pub real_of : List ℕ → Option Float
real_of cs = as_real (field_of cs)
