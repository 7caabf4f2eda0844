-- `amperes` meets its contract. Assumes nothing.
use Rattle.fault_current.specs.Current.{amperes_by}
use Rattle.fault_currents.proofs.sites.amperes.Goals as goal

pub returns-in-Underdamped : goal.returns-in-Underdamped
unfolding amperes_by
returns-in-Underdamped c = rw c.in-Underdamped.is c.underdamped_amperes.ensures

pub returns-in-Overdamped : goal.returns-in-Overdamped
unfolding amperes_by
returns-in-Overdamped c = rw c.in-Overdamped.is c.overdamped_amperes.ensures

pub returns-in-Critical : goal.returns-in-Critical
unfolding amperes_by
returns-in-Critical c = rw c.in-Critical.is c.critical_amperes.ensures

pub returns-in-Still : goal.returns-in-Still
unfolding amperes_by
returns-in-Still c = rw c.in-Still.is c.no_amperes.ensures
