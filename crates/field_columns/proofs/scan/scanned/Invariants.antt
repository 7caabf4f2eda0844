use mathlib.Core.Path.{◌≡◌}
use mathlib.Core.List.{foldl}
use lib.ListN.{take}
use Rattle.std.specs.Prelude.{Some}
use Rattle.field_columns.specs.Scanning.{scan_of}
use Rattle.field_columns.specs.declared.scan.Scan.TheVariants.{Spaces}
use Rattle.field_columns.proofs.scan.scanned.Given as goal

abbrev pub invariant-loop-b : goal.invariant-loop-b
invariant-loop-b l = Some l.s ≡ foldl scan_of (Some Spaces) (take l.b-index l.columns)
