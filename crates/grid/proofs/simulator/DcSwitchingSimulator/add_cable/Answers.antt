-- `add_cable` meets its contract. Assumes nothing.
use native.Mathlib.Omega.{arith}
use borrow.Author.Tests.{lt-ltb, le-ltb}
use Rattle.grid.specs.Simulator.{with_cable}
use Rattle.grid.proofs.simulator.DcSwitchingSimulator.add_cable.Goals as goal

pub returns-then-cables-ge-MOST_CABLES : goal.returns-then-cables-ge-MOST_CABLES
unfolding with_cable
returns-then-cables-ge-MOST_CABLES c = rw (le-ltb c.args.self.n_cables 64 (omega arith))

pub returns : goal.returns
unfolding with_cable
returns c = rw (lt-ltb c.args.self.n_cables 64 (omega arith))
