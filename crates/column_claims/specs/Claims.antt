-- What document 01.9 says of fields in words, and what a reader expects beside the definitions. The proofs are in proofs/Claims.antt.
use Rattle.std.specs.Prelude.{ℕ, zero, suc, ◌-◌, ◌^◌, ◌<◌, ◌≤◌, ◌≡◌, ◌⊎◌, ◌↔◌, true, List, [], ◌∷◌, ◌++◌, length, get_or, replicate, Some, Float}
use Rattle.field_columns.specs.declared.fields.Decimal.{Decimal}
use Rattle.field_columns.specs.Fields.{some_digits, number, field_of, whole_of, value_of}
use Rattle.rounding.specs.Nearest.{NearestDouble}
use Rattle.printed_numbers.specs.Printed.{digits_of, right_justified, printed_decimal}

-- ---- the form of a field, piece by piece

-- spaces, and one digit or more
pub record Plain (cs : List ℕ) (d : Decimal) : Type 0 where
  pub spaces : ℕ
  pub whole : List ℕ
  pub made_of : cs ≡ replicate spaces 32 ++ whole
  pub whole_digits : some_digits whole ≡ true
  pub digits_are : d.digits ≡ number whole
  pub places_are : d.places ≡ 0

-- spaces, one digit or more, a point, and 1 to 6 digits
pub record Pointed (cs : List ℕ) (d : Decimal) : Type 0 where
  pub spaces : ℕ
  pub whole : List ℕ
  pub fraction : List ℕ
  pub made_of : cs ≡ replicate spaces 32 ++ (whole ++ (46 ∷ fraction))
  pub whole_digits : some_digits whole ≡ true
  pub fraction_digits : some_digits fraction ≡ true
  pub fraction_most : length fraction ≤ 6
  pub digits_are : d.digits ≡ number (whole ++ fraction)
  pub places_are : d.places ≡ length fraction

pub record FieldClaims : Type 0 where
  -- what a field is: 12 columns of one of these two forms
  pub form : (cs : List ℕ) (d : Decimal) → field_of cs ≡ Some d ↔ (length cs ≡ 12) × (Plain cs d ⊎ Pointed cs d)
  -- 12 digits at most, so that a number of 64 bits and a double hold them
  pub digits_below : (cs : List ℕ) (d : Decimal) → field_of cs ≡ Some d → d.digits < 10 ^ 12
  -- the value is the nearest double
  pub nearest : (cs : List ℕ) (d : Decimal) → field_of cs ≡ Some d → NearestDouble d.digits (10 ^ d.places) (value_of d)
  -- and no other double is as near: a field is never half way between two
  pub only : (cs : List ℕ) (d : Decimal) (y : Float) → field_of cs ≡ Some d → NearestDouble d.digits (10 ^ d.places) y → y ≡ value_of d

-- ---- printing

-- the digits that 12 columns hold: one fewer where there is a point
abbrev pub Holds12 : (digits places : ℕ) → Type 0
Holds12 digits zero = digits < 10 ^ 12
Holds12 digits (suc p) = digits < 10 ^ 11

pub record PrintedClaims : Type 0 where
  -- as many bytes as there are columns
  pub columns : (width n : ℕ) → length (right_justified width n) ≡ width
  -- spaces and then the digits, where the columns hold these
  pub spaces_then_digits : (width n : ℕ) → 0 < width → n < 10 ^ width → right_justified width n ≡ replicate (width - length (digits_of n)) 32 ++ digits_of n
  -- digits and nothing else, and they spell the number
  pub only_digits : (n : ℕ) → n < 2 ^ 64 → some_digits (digits_of n) ≡ true
  pub spelled : (n : ℕ) → n < 2 ^ 64 → number (digits_of n) ≡ n
  -- the first one is no 0, but for the number 0
  pub no_zero_first : (n : ℕ) → n < 2 ^ 64 → 0 < n → get_or (digits_of n) 0 48 ≡ 48 → ⊥
  pub nought : digits_of 0 ≡ 48 ∷ []
  -- what is printed in 12 columns is read back
  pub whole_back : (n : ℕ) → n < 10 ^ 12 → whole_of (right_justified 12 n) ≡ Some n
  pub decimal_back : (digits places : ℕ) → places ≤ 6 → Holds12 digits places → field_of (printed_decimal digits places) ≡ Some (record { digits = digits; places = places })
