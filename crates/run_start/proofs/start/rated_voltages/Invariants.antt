-- `rated_voltages` meets its contract. Assumes nothing.
use Rattle.run_start.specs.Start.{rated}
use Rattle.float64.specs.Constants.{nought}
use Rattle.lists.proofs.Fills.{upto}
use Rattle.lists.specs.Tables.{blank}
use Rattle.std.proofs.Common.{◌≡◌}
use Rattle.run_start.proofs.start.rated_voltages.Given as goal

abbrev pub invariant-loop-i : goal.invariant-loop-i
invariant-loop-i l = l.y ≡ upto l.i (rated l.s-items) (blank 96 nought)
