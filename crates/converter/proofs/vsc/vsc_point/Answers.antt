-- `vsc_point` meets its contract. Assumes nothing.
use Rattle.converter.specs.Vsc.{vsc_point}
use Rattle.converter.proofs.vsc.vsc_point.Goals as goal

pub returns : goal.returns
unfolding vsc_point
returns c =
    rw (c.abs.ensures, c.losses.ensures, c.modulation.ensures, c.loss_factor-factor.ensures, c.max-v_dc.ensures)
