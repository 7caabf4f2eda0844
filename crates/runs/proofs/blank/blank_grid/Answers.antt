-- `blank_grid` meets its contract. Assumes nothing.
use Rattle.grid.specs.Simulator.{new_simulator}
use Rattle.runs.proofs.blank.blank_grid.Goals as goal

pub returns : goal.returns
unfolding new_simulator
returns c = rw c.new-g.ensures
