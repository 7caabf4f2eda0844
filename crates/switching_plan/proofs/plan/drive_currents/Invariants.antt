-- `drive_currents` meets its contract. Assumes nothing.
use Rattle.switching_plan.specs.Switching.{driven}
use Rattle.float64.specs.Constants.{nought}
use Rattle.lists.proofs.Fills.{upto}
use Rattle.lists.specs.Tables.{blank}
use Prim.Native.Nat.{◌+◌}
use mathlib.Core.Path.{◌≡◌}
use Rattle.switching_plan.proofs.plan.drive_currents.Given as goal

abbrev pub invariant-loop-k : goal.invariant-loop-k
invariant-loop-k l = l.y ≡ upto (l.n.value + l.k) (driven l.stations l.cables l.n.value) (blank 96 nought)
