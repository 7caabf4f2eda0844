-- What a reader expects of the lines beside their definitions. The proofs are in proofs/Claims.antt.
use Rattle.std.specs.Prelude.{ℕ, ◌+◌, ◌*◌, ◌^◌, ◌<◌, ◌≡◌, List, [], ◌∷◌, length, get_or, take, drop, replicate}
use Rattle.float64.specs.Pattern.{double_of}
use Rattle.field_columns.specs.Fields.{number, after_spaces}
use Rattle.decimals.specs.Decimals.{decimal_column}
use Rattle.listing_text.specs.Lines.{row_text, end_text, refusal_text}

-- the numbers in columns of these widths, one beside the other
abbrev pub read_back : (widths text : List ℕ) → List ℕ
read_back [] text = []
read_back (w ∷ ws) text = number (after_spaces (take w text)) ∷ read_back ws (drop w text)

-- each number fits its column and is one of 64 bits
abbrev pub Fit : (widths numbers : List ℕ) → Type 0
Fit [] [] = Unit {0}
Fit [] (n ∷ ns) = ⊥
Fit (w ∷ ws) [] = ⊥
Fit (w ∷ ws) (n ∷ ns) = (n < 10 ^ w) × (n < 2 ^ 64) × Fit ws ns

abbrev pub row_widths : List ℕ
row_widths = replicate 4 4

pub record LineClaims : Type 0 where
  -- how long a line is, whatever its numbers
  pub row_length_lem : (row : List ℕ) → length row ≡ 8 → length (row_text row) ≡ 102
  pub end_length : (cases steps : ℕ) → length (end_text cases steps) ≡ 26
  pub refusal_length : (number line : ℕ) → length (refusal_text number line) ≡ 18
  -- the columns behind the letter hold the numbers, where these fit
  pub row_back : (row : List ℕ) → Fit row_widths (take 4 row) → read_back row_widths (drop 1 (row_text row)) ≡ take 4 row
  pub end_back : (cases steps : ℕ) → Fit (12 ∷ 12 ∷ []) (cases ∷ steps ∷ []) → read_back (12 ∷ 12 ∷ []) (drop 1 (end_text cases steps)) ≡ cases ∷ steps ∷ []
  pub refusal_back : (number line : ℕ) → Fit (4 ∷ 12 ∷ []) (number ∷ line ∷ []) → read_back (4 ∷ 12 ∷ []) (drop 1 (refusal_text number line)) ≡ number ∷ line ∷ []
  -- and the last four columns of a row hold its doubles, each as a decimal
  pub row_values : (row : List ℕ) (k : ℕ) → length row ≡ 8 → k < 4 → take 21 (drop (17 + 21 * k) (row_text row)) ≡ decimal_column (double_of (get_or row (4 + k) 0))
