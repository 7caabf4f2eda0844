-- `add_station` meets its contract. Assumes nothing.
use native.Mathlib.Omega.{arith}
use borrow.Author.Tests.{lt-ltb, le-ltb}
use Rattle.grid.specs.Simulator.{with_station}
use Rattle.grid.proofs.simulator.DcSwitchingSimulator.add_station.Goals as goal

pub returns-then-stations-ge-MOST_STATIONS : goal.returns-then-stations-ge-MOST_STATIONS
unfolding with_station
returns-then-stations-ge-MOST_STATIONS c = rw (le-ltb c.args.self.n_stations 32 (omega arith))

pub returns : goal.returns
unfolding with_station
returns c = rw (lt-ltb c.args.self.n_stations 32 (omega arith))
