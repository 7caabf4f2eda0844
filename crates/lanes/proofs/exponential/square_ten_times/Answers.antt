-- `square_ten_times` meets its contract. Assumes nothing.
use Rattle.lanes.proofs.Turns.{squared_none, squared-turn}
use Rattle.lanes.proofs.exponential.square_ten_times.Goals as goal

pub loop-turn-init : goal.loop-turn-init
loop-turn-init c = squared_none 16 c.args.p.now

pub loop-turn-preserved : goal.loop-turn-preserved
loop-turn-preserved c = squared-turn 16 c.loop-turn._turn c.args.p.now c.loop-turn.invariant c.square_lanes.ensures
