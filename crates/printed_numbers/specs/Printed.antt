-- A number as text, right-justified in columns. Bytes are ASCII.
use Rattle.std.specs.Prelude.{ℕ, zero, suc, ◌+◌, ◌/◌, ◌%◌, ◌^◌, cond, List, [], ◌∷◌, ◌++◌, ltb, leb, length, take, drop, replicate}

-- n's decimal digits, the highest first, without leading zeros: the last k of them, where there are more
abbrev pub numeral : ℕ → ℕ → List ℕ
numeral zero n = []
numeral (suc k) n = cond (ltb n 10) ((48 + n) ∷ []) (numeral k (n / 10) ++ ((48 + n % 10) ∷ []))

-- those of a number of 64 bits, of which there are 20 at most
unfoldable pub digits_of : ℕ → List ℕ
digits_of n = numeral 20 n

-- text in `width` columns, spaces before it: the last `width` bytes of spaces and text
abbrev pub justified : ℕ → List ℕ → List ℕ
justified width text = drop (length text) (replicate width 32 ++ text)

-- a number in `width` columns: of one with more digits, its last ones
unfoldable pub right_justified : ℕ → ℕ → List ℕ
right_justified width n = justified width (digits_of n)

-- memory with a number written into the columns from `at` on, where it has all of these columns; else as it was
unfoldable pub with_number : List ℕ → (at width n : ℕ) → List ℕ
with_number out at width n = cond (leb (at + width) (length out)) (take at out ++ right_justified width n ++ drop (at + width) out) out

-- ---- a number with a point, for the laws of reading it back. No function prints one.

-- the last p digits of n, zeros among them
abbrev pub last_digits : ℕ → ℕ → List ℕ
last_digits zero n = []
last_digits (suc p) n = last_digits p (n / 10) ++ ((48 + n % 10) ∷ [])

-- digits / 10 ^ places: the whole part, and where there are places a point and that many digits
abbrev pub decimal_text : ℕ → ℕ → List ℕ
decimal_text digits zero = digits_of digits
decimal_text digits (suc p) = digits_of (digits / 10 ^ suc p) ++ (46 ∷ last_digits (suc p) digits)

-- in the 12 columns of a field
unfoldable pub printed_decimal : ℕ → ℕ → List ℕ
printed_decimal digits places = justified 12 (decimal_text digits places)
