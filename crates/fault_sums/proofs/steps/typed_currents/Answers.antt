-- `typed_currents` meets its contract: lane by lane. Assumes nothing.
use Rattle.lanes.proofs.Lanes.{lanes_left, lanes_of_blank}
use Rattle.lists.specs.Tables.{blank}
use Rattle.float64.specs.Constants.{nought}
use Rattle.float64.specs.Arithmetic.{◌⊗◌, of}
use lib.Ieee.{Float}
use Prim.Native.Nat.{ℕ}
use Rattle.fault_sums.proofs.steps.typed_currents.Goals as goal

pub returns : goal.returns
returns c =
    let f : ℕ → Float = λ k. of c.args.i.now k ⊗ c.args.factor in
    lanes_of_blank 16 f nought (lanes_left 16 f (blank 16 nought) c.loop-j.auto.j-end c.loop-j-test.false c.loop-j.invariant)
