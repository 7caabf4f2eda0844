-- `millionths` meets its contract, by the ranges of the exponent's field. Assumes nothing.
use mathlib.Core.Path.{refl}
use Prim.Native.Nat.{◌+◌, ◌-◌, ◌/◌, ◌%◌, ◌^◌}
use native.Mathlib.Omega.{arith}
use Rattle.float64.proofs.Whole.{one_shifted}
use Rattle.decimals.proofs.Sizes.{size_large, size_small, size-one, size_none, size_rounded}
use Rattle.decimals.proofs.millionths.millionths.Goals as goal

pub returns-then-field-ge-TOO_LARGE : goal.returns-then-field-ge-TOO_LARGE
returns-then-field-ge-TOO_LARGE c = let b = c.args.bits in size_large (b / 2 ^ 52) (b % 2 ^ 52) c.if-field-ge-TOO_LARGE.true

pub returns-then-field-lt-SMALL : goal.returns-then-field-lt-SMALL
returns-then-field-lt-SMALL c = let b = c.args.bits in size_small (b / 2 ^ 52) (b % 2 ^ 52) (omega arith) c.if-field-lt-SMALL.true

pub returns-then-m-gt-LAST_BELOW_HALF : goal.returns-then-m-gt-LAST_BELOW_HALF
returns-then-m-gt-LAST_BELOW_HALF c =
    let b = c.args.bits in
    size-one (b / 2 ^ 52) (b % 2 ^ 52) (2 ^ 52 + b % 2 ^ 52) c.if-field-eq-SMALL.true refl (omega arith) c.if-m-gt-LAST_BELOW_HALF.true

pub returns-else-m-gt-LAST_BELOW_HALF : goal.returns-else-m-gt-LAST_BELOW_HALF
returns-else-m-gt-LAST_BELOW_HALF c =
    let b = c.args.bits in
    size_none (b / 2 ^ 52) (b % 2 ^ 52) (2 ^ 52 + b % 2 ^ 52) c.if-field-eq-SMALL.true refl c.if-m-gt-LAST_BELOW_HALF.false

pub returns : goal.returns
returns c =
    let b = c.args.bits in
    size_rounded (b / 2 ^ 52) (b % 2 ^ 52) _ _ _ _ (omega arith) (omega arith) c.product-p.ensures.0 (one_shifted (1066 - b / 2 ^ 52) (omega arith)) c.nearest.ensures
