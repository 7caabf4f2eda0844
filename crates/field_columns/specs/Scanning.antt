-- How the code reads a field, a column at a time: what its functions promise each other. No caller needs these.
use Rattle.std.specs.Prelude.{ℕ, ◌+◌, ◌*◌, ◌-◌, ◌<◌, ◌&&◌, cond, eqb, leb, ltb, Option, Some, None}
use Rattle.field_columns.specs.Fields.{is_digit}
use Rattle.field_columns.specs.declared.fields.Decimal.{Decimal}
use Rattle.field_columns.specs.declared.scan.Scan.{Scan}
use Rattle.field_columns.specs.declared.scan.Scan.TheVariants.{Spaces, Digits, Fraction}

abbrev pub digit_of : ℕ → Option ℕ
digit_of b = cond (is_digit b) (Some (b - 48)) None

-- None from the first column on that cannot stand in a field
abbrev pub scan_of : Option Scan → ℕ → Option Scan
scan_of (Some Spaces) b = cond (eqb b 32) (Some Spaces) (cond (is_digit b) (Some (Digits (b - 48))) None)
scan_of (Some (Digits n)) b = cond (eqb b 46) (Some (Fraction n 0)) (cond (is_digit b) (Some (Digits (n * 10 + (b - 48)))) None)
scan_of (Some (Fraction n p)) b = cond (is_digit b) (Some (Fraction (n * 10 + (b - 48)) (p + 1))) None
scan_of None b = None

abbrev pub answer_of : Option Scan → Option Decimal
answer_of (Some Spaces) = None
answer_of (Some (Digits n)) = Some (record { digits = n; places = 0 })
answer_of (Some (Fraction n p)) = cond (ltb 0 p && leb p 6) (Some (record { digits = n; places = p })) None
answer_of None = None

-- another digit fits
abbrev pub Roomy : Scan → Type 0
Roomy Spaces = Unit {0}
Roomy (Digits n) = n < 1000000000000000000
Roomy (Fraction n p) = (n < 1000000000000000000) × (p < 1000000)
