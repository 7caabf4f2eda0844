-- `reduced_angle` meets its contract. Assumes nothing.
use Rattle.elementary.proofs.Reduced.{reduced_less, reduced_kept}
use Rattle.elementary.proofs.wave.reduced_angle.Goals as goal

pub returns-then-r : goal.returns-then-r
returns-then-r c = reduced_less _ _ c.whole_part-n.ensures c.if-r.true

pub returns-else-r : goal.returns-else-r
returns-else-r c = reduced_kept _ _ c.whole_part-n.ensures c.if-r.false
