-- `block_times` meets its contract: the first n lanes are filled. Assumes nothing.
use Rattle.run_start.specs.Start.{time_at}
use Rattle.float64.specs.Constants.{nought}
use Rattle.lists.specs.Tables.{blank}
use Rattle.lists.proofs.Counting.{at_end_lem}
use Rattle.lists.proofs.Fills.{upto, upto_padded}
use Prim.Native.Nat.{◌+◌}
use mathlib.Core.Path.{◌∙◌}
use Rattle.fault_sums.proofs.steps.block_times.Goals as goal

pub returns : goal.returns
returns c =
    at_end_lem (λ k. upto k (λ j. time_at c.args.dt_ms (c.args.first + j)) (blank 16 nought)) c.loop-j.auto.j-end c.loop-j-test.false c.loop-j.invariant
    ∙ upto_padded c.args.steps.value 16 _ nought c.args.steps.fits
