-- `add_currents` meets its contract. Assumes nothing.
use Rattle.network.specs.Network.{end}
use Rattle.state_derivatives.specs.Derivatives.{net}
use Rattle.float64.specs.Constants.{nought}
use Rattle.lists.specs.Tables.{padded}
use mathlib.Core.Path.{◌≡◌}
use Rattle.state_derivatives.proofs.derivatives.add_currents.Given as goal

abbrev pub invariant-loop-k : goal.invariant-loop-k
invariant-loop-k l = l.nets ≡ padded 32 l.n (net (end l.network.from) (end l.network.to) l.n l.y l.k) nought
