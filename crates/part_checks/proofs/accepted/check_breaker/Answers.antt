-- `check_breaker` meets its contract. Assumes nothing.
use Rattle.part_checks.specs.PartChecks.{breaker_ok}
use mathlib.Core.Path.{refl, ◌∙◌}
use lib.Ieee.{of_bits, of_int, round}
use Rattle.ranges.specs.Ranges as range
use Rattle.ranges.proofs.WholeNumbers.{whole_is}
use Rattle.ranges.specs.Ranges.{real_in}
use Rattle.part_checks.proofs.accepted.check_breaker.Goals as goal

pub returns : goal.returns
unfolding breaker_ok real_in of_bits of_int round
returns c = rw (c.check_breaker_type-times.ensures, c.whole_in_range-id.ensures ∙ whole_is range.breaker_id refl _, c.whole_in_range-station.ensures ∙ whole_is range.breaker_station refl _, c.in_range-current.ensures, c.in_range-energy.ensures)
