use mathlib.Core.Path.{◌≡◌}
use lib.Seq.{sets}
use Rattle.printed_numbers.proofs.Cells.{cells}
use Rattle.printed_numbers.proofs.printed.put_digits.Given as goal

-- the columns from j on are written
abbrev pub invariant-loop-j : goal.invariant-loop-j
invariant-loop-j l = sets l.columns 0 (cells l.j l.rest) ≡ sets l.initial.columns 0 (cells l.last l.initial.rest)
