-- The claims of specs/Claims.antt, proved. Assumes nothing.
use Prim.Native.Nat.{ℕ, ◌-◌, ◌<◌, ◌^◌}
use mathlib.Core.Path.{◌≡◌, refl}
use mathlib.Core.List.{[], ◌∷◌, ◌++◌}
use native.Mathlib.Omega.{arith}
use lib.ListN.{length, replicate}
use Rattle.printed_numbers.specs.Printed.{digits_of, right_justified}
use Rattle.column_claims.specs.Claims.{FieldClaims, PrintedClaims}
use Rattle.field_columns.proofs.Below.{number_limited}
use Rattle.rounding.proofs.NearestValue.{nearest_double, only_nearest}
use Rattle.printed_numbers.proofs.Justified.{length_right_justified, spaces_before}
use Rattle.column_claims.proofs.Spelled.{digits_spell, some_digits_lem, few_digits}
use Rattle.column_claims.proofs.RoundTrip.{form, whole_back, decimal_back}

pub field_claims : FieldClaims
field_claims =
    record {
      form = form;
      digits_below = λ cs d h. (number_limited cs d h).below;
      nearest = λ cs d h. nearest_double d.digits d.places (number_limited cs d h).below (number_limited cs d h).at_most;
      only = λ cs d y h n. only_nearest d.digits d.places (number_limited cs d h).below (number_limited cs d h).at_most y n;
    }

-- a number of 64 bits has 20 digits at most
twenty : (n : ℕ) → n < 2 ^ 64 → n < 10 ^ 20
twenty n h = omega arith

nought : digits_of 0 ≡ 48 ∷ []
unfolding digits_of
nought = refl

spaces_then_digits : (width n : ℕ) → 0 < width → n < 10 ^ width → right_justified width n ≡ replicate (width - length (digits_of n)) 32 ++ digits_of n
unfolding right_justified
spaces_then_digits width n p h = spaces_before width (digits_of n) (few_digits width n p h)

pub printed_claims : PrintedClaims
printed_claims =
    record {
      columns = length_right_justified;
      spaces_then_digits = spaces_then_digits;
      only_digits = λ n h. some_digits_lem (digits_of n) n (digits_spell n (twenty n h));
      spelled = λ n h. (digits_spell n (twenty n h)).is;
      no_zero_first = λ n h p. (digits_spell n (twenty n h)).first p;
      nought = nought;
      whole_back = whole_back;
      decimal_back = decimal_back;
    }
