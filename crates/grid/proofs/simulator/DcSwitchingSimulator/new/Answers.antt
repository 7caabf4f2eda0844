-- `new` meets its contract. Assumes nothing.
use lib.Ieee.{of_bits, of_int, round}
use Rattle.ranges.specs.Ranges.{real_in}
use Rattle.grid.specs.Simulator.{kept_time_step, kept_duration, new_simulator}
use Rattle.grid.proofs.simulator.DcSwitchingSimulator.new.Goals as goal

pub returns : goal.returns
unfolding new_simulator kept_time_step kept_duration real_in of_bits of_int round
returns c = rw (c.kept.ensures, c.kept-2.ensures)
