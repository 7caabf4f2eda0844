use mathlib.Core.Path.{◌≡◌}
use lib.ListN.{length}
use native.Mathlib.Omega.{arith}
use Rattle.printed_numbers.specs.Printed.{digits_of}
use Rattle.decimals.proofs.Digits.{digit_count, log_below, log_digits}
use Rattle.decimals.proofs.column.sign_place.Goals as goal

pub overflow_sub-result : goal.overflow_sub-result
overflow_sub-result c = omega (arith, log_below c.args.whole c.ilog10.result c.requires c.ilog10.ensures.power_le)

pub returns-in-0 : goal.returns-in-0
returns-in-0 c =
    let e : length (digits_of c.args.whole) ≡ 1 = digit_count 0 c.args.whole (omega arith) (omega arith) (λ h. absurd (omega arith)) in
    omega arith

pub returns-in_default : goal.returns-in_default
returns-in_default c =
    let r = c.ilog10.ensures in
    omega (arith, log_below c.args.whole c.ilog10.result c.requires r.power_le, log_digits c.args.whole c.ilog10.result c.requires r.power_le r.next_power_gt)
