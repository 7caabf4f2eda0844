-- `check_event` meets its contract. Assumes nothing.
use Rattle.part_checks.specs.PartChecks.{fault_ok}
use mathlib.Core.Path.{refl, ◌∙◌}
use lib.Ieee.{of_bits, of_int, round}
use Rattle.ranges.specs.Ranges as range
use Rattle.ranges.proofs.WholeNumbers.{whole_is}
use Rattle.ranges.specs.Ranges.{real_in}
use Rattle.part_checks.proofs.accepted.check_event.Goals as goal

pub returns : goal.returns
unfolding fault_ok real_in of_bits of_int round
returns c = rw (c.whole_in_range-cable.ensures ∙ whole_is range.faulted_cable refl _, c.in_range-fraction.ensures, c.in_range-resistance.ensures, c.in_range-inception.ensures)
