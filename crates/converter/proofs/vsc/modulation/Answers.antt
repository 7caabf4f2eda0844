-- `modulation` meets its contract. Assumes nothing.
use Rattle.converter.proofs.Constants.{root_is}
use Rattle.converter.specs.Vsc.{modulation}
use Rattle.std.proofs.Common.{◌∙◌}
use Rattle.converter.proofs.vsc.modulation.Goals as goal

pub returns-then-v_ac_kv : goal.returns-then-v_ac_kv
unfolding modulation
returns-then-v_ac_kv c = c.clamp.ensures ∙ rw (root_is, c.if-v_ac_kv.true)

pub returns : goal.returns
unfolding modulation
returns c = rw (root_is, c.if-v_ac_kv.false)
