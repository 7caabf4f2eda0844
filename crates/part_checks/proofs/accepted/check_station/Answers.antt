-- `check_station` meets its contract. Assumes nothing.
use Rattle.part_checks.specs.PartChecks.{station_ok}
use mathlib.Core.Path.{refl, ◌∙◌}
use lib.Ieee.{of_bits, of_int, round}
use Rattle.ranges.specs.Ranges as range
use Rattle.ranges.proofs.WholeNumbers.{whole_is}
use Rattle.ranges.specs.Ranges.{real_in}
use Rattle.part_checks.proofs.accepted.check_station.Goals as goal

pub returns : goal.returns
unfolding station_ok real_in of_bits of_int round
returns c =
    rw (c.check_topology-t.ensures, c.whole_in_range-id.ensures ∙ whole_is range.station_id refl _, c.in_range-kv.ensures, c.in_range-mw.ensures, c.in_range-x.ensures, c.in_range-scr.ensures, c.in_range-angle.ensures, c.in_range-xc.ensures, c.in_range-arm.ensures, c.in_range-sm.ensures)
