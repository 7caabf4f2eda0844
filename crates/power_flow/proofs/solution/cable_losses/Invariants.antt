-- `cable_losses` meets its contract. Assumes nothing.
use Rattle.power_flow.specs.Solution.{loss_of}
use Rattle.float64.specs.Arithmetic.{sum_of}
use Rattle.float64.specs.Constants.{nought}
use mathlib.Core.Path.{◌≡◌}
use Rattle.lists.specs.Tables.{blank}
use Rattle.lists.proofs.Fills.{upto}
use Rattle.power_flow.proofs.solution.cable_losses.Given as goal

abbrev pub invariant-loop-i : goal.invariant-loop-i
invariant-loop-i l =
    (l.losses ≡ upto l.i (loss_of l.g.cables l.n.value l.v) (blank 64 nought)) × (l.sum ≡ sum_of (loss_of l.g.cables l.n.value l.v) l.i)
