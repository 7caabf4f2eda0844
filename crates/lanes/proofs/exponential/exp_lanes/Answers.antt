-- `exp_lanes` meets its contract. Assumes nothing.
use Rattle.lists.specs.Tables.{blank}
use Rattle.lanes.proofs.Composed.{exp_composed}
use Rattle.lanes.proofs.exponential.exp_lanes.Goals as goal

pub returns : goal.returns
unfolding blank
returns c =
    exp_composed 16 c.args.t.now c.divide_by_1024.ensures c.add_terms.ensures c.square_ten_times.ensures c.zero_below_700.ensures
