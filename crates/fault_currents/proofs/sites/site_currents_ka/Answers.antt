-- `site_currents_ka` meets its contract. Assumes nothing.
use Rattle.lists.specs.Tables.{blank}
use Rattle.fault_currents.proofs.Composed.{site_composed}
use Rattle.fault_currents.proofs.sites.site_currents_ka.Goals as goal

pub returns : goal.returns
unfolding blank
returns c =
    site_composed 16 c.args.circuit c.args.t_ms.now c.seconds_since.ensures c.amperes.ensures c.to_kiloamperes.ensures
