-- `divisor` meets its contract. Assumes nothing.
use Rattle.voltage_moves.specs.Moves.{divisor}
use native.Mathlib.Omega.{arith}
use mathlib.Core.Path.{◌≡◌}
use Rattle.voltage_moves.proofs.moves.divisor.Goals as goal

pub returns : goal.returns
unfolding divisor
returns c = let all : c.above.j ≡ c.args.n.value = omega arith in rw (c.above.invariant, all)
