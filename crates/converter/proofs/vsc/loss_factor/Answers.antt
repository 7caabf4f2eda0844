-- `loss_factor` meets its contract. Assumes nothing.
use Rattle.converter.specs.Vsc.{loss_factor}
use Rattle.std.proofs.Common.{sym, ap}
use Rattle.converter.proofs.vsc.loss_factor.Goals as goal

pub returns-in-Lcc : goal.returns-in-Lcc
unfolding loss_factor
returns-in-Lcc c = ap loss_factor (sym c.in-Lcc.is)

pub returns-in-TwoLevelVsc : goal.returns-in-TwoLevelVsc
unfolding loss_factor
returns-in-TwoLevelVsc c = ap loss_factor (sym c.in-TwoLevelVsc.is)

pub returns-in-Mmc : goal.returns-in-Mmc
unfolding loss_factor
returns-in-Mmc c = rw (c.sqrt.ensures, c.nearest_u64_to_f64.ensures, c.counted_submodules.ensures) (ap loss_factor (sym c.in-Mmc.is))

pub returns-in-Hybrid : goal.returns-in-Hybrid
unfolding loss_factor
returns-in-Hybrid c = ap loss_factor (sym c.in-Hybrid.is)
