-- `first_bad` meets its contract. Assumes nothing.
use mathlib.Core.Path.{◌≡◌}
use mathlib.Core.Bool.{Bool, true}
use lib.ListN.{take}
use Rattle.lists.specs.Scans.{every}
use Rattle.part_positions.proofs.positions.first_bad.Given as goal

abbrev pub invariant-loop-i : goal.invariant-loop-i
invariant-loop-i g l = (ok : _ → Bool) → ((x : _) (b : Bool) → goal.F-post g l.accepts x b → b ≡ ok x) → every ok (take l.i l.parts) ≡ true
