-- `check_topology` meets its contract. Assumes nothing.
use Rattle.part_checks.specs.PartChecks.{topology_ok}
use mathlib.Core.Path.{refl, sym, ap, ◌∙◌}
use mathlib.Core.Logic.{⊎_elim}
use lib.Ieee.{of_bits, of_int, round}
use Rattle.ranges.specs.Ranges as range
use Rattle.ranges.proofs.WholeNumbers.{whole_is}
use Rattle.part_checks.proofs.accepted.check_topology.Goals as goal

pub returns-in-Mmc : goal.returns-in-Mmc
unfolding topology_ok of_bits of_int round
returns-in-Mmc c = c.whole_in_range.ensures ∙ whole_is range.submodules refl _ ∙ ap topology_ok (sym c.in-Mmc.is)

pub returns-in-Lcc : goal.returns-in-Lcc
unfolding topology_ok
returns-in-Lcc c = ⊎_elim (λ e. ap topology_ok (sym e)) (⊎_elim (λ e. ap topology_ok (sym e)) (λ e. ap topology_ok (sym e))) c.in-Lcc.is
