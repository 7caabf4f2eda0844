-- `cable_ends` meets its contract. Assumes nothing.
use Rattle.std.proofs.Common.{◌≡◌}
use Rattle.lists.specs.Tables.{blank}
use Rattle.lists.proofs.Fills.{upto}
use Rattle.closed_cases.specs.Cables.{blank_site, site_at}
use Rattle.closed_cases.proofs.cable.cable_ends.Given as goal

abbrev pub invariant-loop-tenth : goal.invariant-loop-tenth
invariant-loop-tenth l = l.sites ≡ upto l.tenth (site_at l.common l.cable) (blank 11 blank_site)
