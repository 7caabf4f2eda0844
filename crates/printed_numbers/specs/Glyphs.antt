-- What the function that writes a column promises to the one that writes them all. No caller needs it.
use Rattle.std.specs.Prelude.{ℕ, ◌+◌, ◌%◌, cond, eqb}

abbrev pub glyph_of : ℕ → ℕ
glyph_of rest = cond (eqb rest 0) 32 (48 + rest % 10)
