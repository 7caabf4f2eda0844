-- `recorded_steps` meets its contract. Assumes nothing.
use native.Mathlib.Omega.{arith}
use Rattle.timing.proofs.Records.{no_records, some_records}
use Rattle.timing.proofs.steps.recorded_steps.Goals as goal

pub returns-then-total_steps-lt1 : goal.returns-then-total_steps-lt1
returns-then-total_steps-lt1 c = no_records _ c.if-total_steps-lt1.true

pub returns : goal.returns
returns c = let e = some_records c.args.total_steps c.if-total_steps-lt1.false in rw (c.div_ceil.ensures, c.record_interval.ensures) (omega arith)
