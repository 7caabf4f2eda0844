-- `from_bits` meets its contract. Assumes nothing.
use Rattle.float64.proofs.NanPattern.{nan_above, no_nan_below}
use Rattle.float64.proofs.pattern.from_bits.Goals as goal

pub returns-then-bits-gt9218868437227405312 : goal.returns-then-bits-gt9218868437227405312
returns-then-bits-gt9218868437227405312 c = nan_above _ c.if-bits-gt9218868437227405312.true

pub float_from_bits-result : goal.float_from_bits-result
float_from_bits-result c = no_nan_below _ c.if-bits-gt9218868437227405312.false
