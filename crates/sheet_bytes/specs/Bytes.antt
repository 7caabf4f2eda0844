-- A sheet read a byte at a time, as the code does it; `SheetClaims` says that this gives `sheet_answer`. Definitions only.
use Rattle.std.specs.Prelude.{ℕ, ◌+◌, Bool, cond, eqb, ltb, take, set, replicate, None}
use Rattle.sheet_lines.specs.Lines.{line_of}
use Rattle.taken_lines.specs.Taken.{empty_sheet, stopped_at, with_line}
use Rattle.taken_lines.specs.declared.taken.Sheet.{Sheet}
use Rattle.sheet_bytes.specs.declared.bytes.Reading.{Reading}

-- the longest line, an S line: a letter, eleven fields of 12 columns, a line feed
abbrev pub longest : ℕ
longest = 134

unfoldable pub start_of : Reading
start_of = record { sheet = empty_sheet; line = replicate longest 0; length = 0 }

abbrev pub stopped_in : Reading → Bool
stopped_in r = stopped_at r.sheet

-- a byte that ends its line, one that does not, and one that stands past the end of the longest line
abbrev pub line_taken : Reading → ℕ → Reading
line_taken r b = record { sheet = with_line r.sheet (line_of (take (r.length + 1) (set r.line r.length b))); line = set r.line r.length b; length = 0 }

abbrev pub byte_kept : Reading → ℕ → Reading
byte_kept r b = record { sheet = r.sheet; line = set r.line r.length b; length = r.length + 1 }

abbrev pub too_long : Reading → Reading
too_long r = record { sheet = with_line r.sheet None; line = r.line; length = r.length }

unfoldable pub byte_taken : Reading → ℕ → Reading
byte_taken r b = cond (stopped_in r) r (cond (ltb r.length longest) (cond (eqb b 10) (line_taken r b) (byte_kept r b)) (too_long r))

-- the sheet at the end of the input: a line that has not ended is of wrong form
unfoldable pub ended_of : Reading → Sheet
ended_of r = cond (eqb r.length 0) r.sheet (with_line r.sheet None)
