-- `seconds_since` meets its contract. Assumes nothing.
use Rattle.lists.proofs.Fills.{upto_none, upto_more}
use Rattle.float64.specs.Arithmetic.{of}
use Rattle.fault_current.specs.Current.{seconds_since}
use Rattle.lanes.proofs.Lanes.{lanes_left}
use Rattle.fault_currents.proofs.sites.seconds_since.Goals as goal

pub loop-j-init : goal.loop-j-init
loop-j-init c = upto_none _ _

pub loop-j-preserved : goal.loop-j-preserved
loop-j-preserved c = upto_more _ _ _ c.loop-j.invariant (rw c.max.ensures)

pub returns : goal.returns
returns c =
    lanes_left 16 (λ n. seconds_since c.args.moment_ms (of c.args.t_ms.now n)) c.args.t.now c.loop-j.auto.j-end c.loop-j-test.false c.loop-j.invariant
