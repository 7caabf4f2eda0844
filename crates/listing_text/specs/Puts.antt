-- What the functions that write several numbers promise to those that write a line. No caller needs it.
use Rattle.std.specs.Prelude.{ℕ, ◌+◌, List, [], ◌∷◌, set}
use Rattle.std.proofs.lemmas.List.Edits.{sets}
use Rattle.float64.specs.Pattern.{double_of}
use Rattle.printed_numbers.specs.Printed.{with_number}
use Rattle.decimals.specs.Decimals.{decimal_column}

abbrev pub put_all : List ℕ → (at width : ℕ) → List ℕ → List ℕ
put_all out at width [] = out
put_all out at width (n ∷ ns) = put_all (with_number out at width n) (at + width) width ns

abbrev pub put_values : List ℕ → (at : ℕ) → List ℕ → List ℕ
put_values out at [] = out
put_values out at (b ∷ bs) = put_values (sets out at (decimal_column (double_of b))) (at + 21) bs

abbrev pub two_put : List ℕ → (letter width first second : ℕ) → List ℕ
two_put out letter width first second = with_number (with_number (set out 0 letter) 1 width first) (1 + width) 12 second
