-- The fields of a line of a sheet, as document 01.9 has them: "A line is one letter and fields of 12 columns .. ended by a line feed." Definitions only.
use Rattle.std.specs.Prelude.{ℕ, ◌+◌, ◌*◌, Bool, ◌&&◌, List, eqb, length, take, drop, get_or, is_some, unwrap_or, Float}
use Rattle.lists.specs.Scans.{each}
use Rattle.float64.specs.Constants.{nought}
use Rattle.field_columns.specs.Fields.{whole_of, real_of}
use Rattle.sheet_lines.specs.declared.fields.Form.{Form}

-- the columns of a field: field 0 stands right behind the letter
abbrev pub columns_of : List ℕ → ℕ → List ℕ
columns_of line field = take 12 (drop (1 + 12 * field) line)

-- ---- whether a field has its form

-- a whole number, without a point
abbrev pub is_whole : List ℕ → ℕ → Bool
is_whole line field = is_some (whole_of (columns_of line field))

-- a number
abbrev pub is_real : List ℕ → ℕ → Bool
is_real line field = is_some (real_of (columns_of line field))

-- ---- the number in a field of that form, and 0 in another

abbrev pub whole : List ℕ → ℕ → ℕ
whole line field = unwrap_or (whole_of (columns_of line field)) 0

abbrev pub real : List ℕ → ℕ → Float
real line field = unwrap_or (real_of (columns_of line field)) nought

-- ---- a line

-- how long a line of so many fields is, with its letter and its line feed
abbrev pub length_of : ℕ → ℕ
length_of fields = 1 + 12 * fields + 1

-- the line has the fields of a form, whole numbers and others, a line feed behind them, and nothing else
unfoldable pub formed : List ℕ → Form → Bool
formed line form =
    eqb (length line) (length_of (form.wholes + form.reals)) &&
    eqb (get_or line (1 + 12 * (form.wholes + form.reals)) 0) 10 &&
    each form.wholes (λ k. is_whole line (form.first_whole + k)) &&
    each form.reals (λ k. is_real line (form.first_real + k))
