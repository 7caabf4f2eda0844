-- `check_order` meets its contract. Assumes nothing.
use Rattle.part_checks.specs.PartChecks.{order_ok}
use mathlib.Core.Path.{refl, ◌∙◌}
use lib.Ieee.{of_bits, of_int, round}
use Rattle.ranges.specs.Ranges as range
use Rattle.ranges.proofs.WholeNumbers.{whole_is}
use Rattle.ranges.specs.Ranges.{real_in}
use Rattle.part_checks.proofs.accepted.check_order.Goals as goal

pub returns : goal.returns
unfolding order_ok real_in of_bits of_int round
returns c = rw (c.in_range-resistance.ensures, c.in_range-inception.ensures, c.whole_in_range-low.ensures ∙ whole_is range.low_tenth refl _, c.whole_in_range-high.ensures ∙ whole_is range.high_tenth refl _)
