-- `time_outside` meets its contract. Assumes nothing.
use Rattle.rule_tests.specs.Rules.{time_outside}
use lib.Ieee.{of_bits, of_int, round}
use Rattle.ranges.specs.Ranges.{real_in}
use Rattle.rule_tests.proofs.tests.time_outside.Goals as goal

pub returns : goal.returns
unfolding time_outside real_in of_bits of_int round
returns c = rw (c.in_range-step.ensures, c.in_range-duration.ensures)
