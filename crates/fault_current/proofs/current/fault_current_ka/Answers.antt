-- `fault_current_ka` meets its contract. Assumes nothing.
use Rattle.fault_current.specs.Current.{current_by}
use Rattle.fault_current.proofs.current.fault_current_ka.Goals as goal

pub returns : goal.returns
unfolding current_by
returns c =
    rw (c.abs.ensures, c.amperes.ensures, c.seconds_since-t.ensures)
