-- `check_breaker_type` meets its contract. Assumes nothing.
use Rattle.part_checks.specs.PartChecks.{breaker_type_ok}
use mathlib.Core.Path.{sym, ap, ◌∙◌}
use lib.Ieee.{of_bits, of_int, round}
use Rattle.ranges.specs.Ranges.{real_in}
use Rattle.part_checks.proofs.accepted.check_breaker_type.Goals as goal

pub returns-in-Mechanical : goal.returns-in-Mechanical
unfolding breaker_type_ok real_in of_bits of_int round
returns-in-Mechanical c = c.in_range.ensures ∙ ap breaker_type_ok (sym c.in-Mechanical.is)

pub returns-in-SolidState : goal.returns-in-SolidState
unfolding breaker_type_ok real_in of_bits of_int round
returns-in-SolidState c = rw (c.in_range-in-SolidState.ensures, c.in_range-in-SolidState-2.ensures) (ap breaker_type_ok (sym c.in-SolidState.is))

pub returns-in-HybridBreaker : goal.returns-in-HybridBreaker
unfolding breaker_type_ok real_in of_bits of_int round
returns-in-HybridBreaker c = rw (c.in_range-in-HybridBreaker.ensures, c.in_range-in-HybridBreaker-2.ensures) (ap breaker_type_ok (sym c.in-HybridBreaker.is))
