-- `lcc_point` meets its contract. Assumes nothing.
use Rattle.converter.specs.Lcc.{lcc_point}
use Rattle.converter.proofs.lcc.lcc_point.Goals as goal

pub returns : goal.returns
unfolding lcc_point
returns c = rw (c.losses.ensures, c.power_factor.ensures, c.voltage-v_dc.ensures, c.of-lcc.ensures)
