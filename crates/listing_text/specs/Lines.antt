-- The program's lines as document 01.9 has them: "rows (R, four columns of 4, four of 21 ..) and E with cases and steps, 12 each; or X, number in 4, line in 12". As request Q-1 has it, the last
-- four columns of a row are "decimals with six places". Bytes are ASCII: R is 82, E 69, X 88, and a line ends with a line feed, 10.
use Rattle.std.specs.Prelude.{ℕ, List, [], ◌∷◌, ◌++◌, take, drop}
use Rattle.float64.specs.Pattern.{double_of}
use Rattle.printed_numbers.specs.Printed.{right_justified}
use Rattle.decimals.specs.Decimals.{decimal_column}

abbrev pub line : ℕ → List ℕ → List ℕ
line letter columns = (letter ∷ []) ++ columns ++ (10 ∷ [])

-- numbers side by side, in columns of one width
abbrev pub columns_of : ℕ → List ℕ → List ℕ
columns_of width [] = []
columns_of width (n ∷ ns) = right_justified width n ++ columns_of width ns

-- doubles, given by their bits, side by side as decimals
abbrev pub decimals_of : List ℕ → List ℕ
decimals_of [] = []
decimals_of (b ∷ bs) = decimal_column (double_of b) ++ decimals_of bs

unfoldable pub row_text : List ℕ → List ℕ
row_text row = line 82 (columns_of 4 (take 4 row) ++ decimals_of (drop 4 row))

unfoldable pub end_text : (cases steps : ℕ) → List ℕ
end_text cases steps = line 69 (right_justified 12 cases ++ right_justified 12 steps)

unfoldable pub refusal_text : (number line : ℕ) → List ℕ
refusal_text number at = line 88 (right_justified 4 number ++ right_justified 12 at)
