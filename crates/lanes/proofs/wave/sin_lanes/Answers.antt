-- `sin_lanes` meets its contract. Assumes nothing.
use Rattle.lists.specs.Tables.{blank}
use Rattle.lanes.proofs.Composed.{sin_composed}
use Rattle.lanes.proofs.wave.sin_lanes.Goals as goal

pub returns : goal.returns
unfolding blank
returns c =
    sin_composed 16 c.args.t.now c.reduce_angles.ensures c.square_lanes.ensures c.subtract_terms.ensures c.clamp_products.ensures
