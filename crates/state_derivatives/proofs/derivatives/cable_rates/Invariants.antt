-- `cable_rates` meets its contract. Assumes nothing.
use Rattle.network.specs.Network.{end}
use Prim.Native.Nat.{ℕ, ◌-◌, ◌+◌}
use mathlib.Core.List.{List}
use lib.Ieee.{Float}
use Rattle.network.specs.declared.network.Network.{Network}
use Rattle.state_derivatives.specs.Derivatives.{cable_rate}
use Rattle.float64.specs.Arithmetic.{of}
use Rattle.lists.proofs.Fills.{upto}
use lib.Dec.{ltb}
use mathlib.Core.Bool.{cond}
use mathlib.Core.Path.{◌≡◌}
use Rattle.state_derivatives.proofs.derivatives.cable_rates.Given as goal

-- what stands at place i: the first n as they are, and the cables' rates behind them
abbrev pub rates : List Float → Network → ℕ → List Float → ℕ → Float
rates dy w n y i = cond (ltb i n) (of dy i) (cable_rate (end w.from) (end w.to) (of w.resistance_ohm) (of w.inductance_h) n y (i - n))

abbrev pub invariant-loop-k : goal.invariant-loop-k
invariant-loop-k l = l.dy ≡ upto (l.n + l.k) (rates l.initial.dy l.network l.n l.y) l.initial.dy
