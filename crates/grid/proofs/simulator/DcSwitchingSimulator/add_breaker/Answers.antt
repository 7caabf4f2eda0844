-- `add_breaker` meets its contract. Assumes nothing.
use native.Mathlib.Omega.{arith}
use borrow.Author.Tests.{lt-ltb, le-ltb}
use Rattle.grid.specs.Simulator.{with_breaker}
use Rattle.grid.proofs.simulator.DcSwitchingSimulator.add_breaker.Goals as goal

pub returns-then-breakers-ge-MOST_BREAKERS : goal.returns-then-breakers-ge-MOST_BREAKERS
unfolding with_breaker
returns-then-breakers-ge-MOST_BREAKERS c = rw (le-ltb c.args.self.n_breakers 32 (omega arith))

pub returns : goal.returns
unfolding with_breaker
returns c = rw (lt-ltb c.args.self.n_breakers 32 (omega arith))
