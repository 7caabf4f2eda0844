-- A double to six places, as request Q-1 has it: "decimals with six places, right-justified in 21, the exact value of the double rounded half to even". Bytes are ASCII: a space is 32, a star 42,
-- a minus sign 45, a point 46.
use Rattle.std.specs.Prelude.{ℕ, ◌*◌, ◌/◌, ◌^◌, Bool, ◌&&◌, cond, List, [], ◌∷◌, ◌++◌, ltb, leb, ℤ, length, replicate, Float}
use Rattle.std.specs.Float.{nan, inf, fin}
use Rattle.std.specs.Float.Ieee.{up, down}
use Rattle.std.specs.Float.Ieee.Nearest.{closest}
use Rattle.printed_numbers.specs.Printed.{numeral, last_digits, justified}

-- the size of a double m * 2 ^ e in millionths: the fraction m * up e * 10 ^ 6 / down e, to the nearest whole number, a tie to the even one
unfoldable pub in_millionths : ℕ → ℤ → ℕ
in_millionths m e = closest (m * up e * 10 ^ 6) (down e)

-- all digits of a number: no double has as many as 316
unfoldable pub all_digits : ℕ → List ℕ
all_digits n = numeral 316 n

-- "A printed number below 0 begins with a minus sign, a printed zero never"
abbrev pub sign_text : Bool → ℕ → List ℕ
sign_text negative q = cond (negative && ltb 0 q) (45 ∷ []) []

-- q millionths with six places
unfoldable pub six_places : Bool → ℕ → List ℕ
six_places negative q = sign_text negative q ++ (all_digits (q / 10 ^ 6) ++ (46 ∷ last_digits 6 q))

abbrev pub stars : List ℕ
stars = replicate 21 42

-- "A value that needs more than 20 characters .. fills its column with 21 stars"
unfoldable pub fitted : List ℕ → List ℕ
fitted text = cond (leb (length text) 20) (justified 21 text) stars

-- ", or is NaN or infinite"
unfoldable pub decimal_column : Float → List ℕ
decimal_column nan = stars
decimal_column (inf s) = stars
decimal_column (fin s m e) = fitted (six_places s (in_millionths m e))
