-- `check_cable` meets its contract. Assumes nothing.
use Rattle.part_checks.specs.PartChecks.{cable_ok}
use mathlib.Core.Path.{refl, ◌∙◌}
use lib.Ieee.{of_bits, of_int, round}
use Rattle.ranges.specs.Ranges as range
use Rattle.ranges.proofs.WholeNumbers.{whole_is}
use Rattle.ranges.specs.Ranges.{real_in}
use Rattle.part_checks.proofs.accepted.check_cable.Goals as goal

pub returns : goal.returns
unfolding cable_ok real_in of_bits of_int round
returns c =
    rw (c.whole_in_range-id.ensures ∙ whole_is range.cable_id refl _, c.whole_in_range-from.ensures ∙ whole_is range.from_station refl _, c.whole_in_range-to.ensures ∙ whole_is range.to_station refl _, c.in_range-r.ensures, c.in_range-l.ensures, c.in_range-cap.ensures, c.in_range-length.ensures)
