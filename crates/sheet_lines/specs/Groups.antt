-- What the functions that read several fields at once promise to those that read a line. No caller needs it.
use Rattle.std.specs.Prelude.{ℕ, ◌+◌, List}
use Rattle.sheet_lines.specs.Fields.{whole, real}
use Rattle.sheet_lines.specs.declared.fields.Wholes.{Wholes}
use Rattle.sheet_lines.specs.declared.fields.Reals.{Reals}

abbrev pub wholes_in : List ℕ → Wholes
wholes_in line = record { first = whole line 0; second = whole line 1; third = whole line 2 }

abbrev pub reals_in : List ℕ → ℕ → Reals
reals_in line field = record { first = real line field; second = real line (field + 1); third = real line (field + 2); fourth = real line (field + 3) }
