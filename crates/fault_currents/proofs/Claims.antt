-- The claims of specs/Claims. Assumes nothing.
use mathlib.Core.Path.{refl}
use Rattle.fault_current.specs.Current.{current_by}
use Rattle.fault_currents.specs.Claims.{SiteClaims}

pub site_claims : SiteClaims
unfolding current_by
site_claims = record { typed = λ c t. refl }
