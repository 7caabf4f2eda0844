-- `mismatches_at` meets its contract. Assumes nothing.
use Rattle.flow_voltages.proofs.Passes.{mismatches_are}
use Rattle.flow_voltages.proofs.Turns.{filled}
use Rattle.lists.specs.Tables.{blank}
use Rattle.float64.specs.Arithmetic.{◌⊖◌, ◌⊗◌, of}
use Rattle.float64.specs.Constants.{nought}
use native.Mathlib.Omega.{arith}
use mathlib.Core.Path.{refl, ◌∙◌}
use Rattle.lists.proofs.Fills.{upto_first}
use Rattle.flow_voltages.proofs.balance.mismatches_at.Goals as goal

pub loop-i-init : goal.loop-i-init
unfolding blank
loop-i-init c = (omega arith, upto_first 32 _ nought refl)

pub returns : goal.returns
returns c =
    filled c.args.m.now.n.value c.loop-i.i (λ k. of c.args.wanted.now k ⊖ of c.args.v.now k ⊗ of c.station_currents.new.sums k) c.args.m.now.n.fits c.loop-i.auto.i c.loop-i.invariant.0 c.loop-i-test.false c.loop-i.invariant.1
    ∙ rw c.station_currents.ensures (mismatches_are c.args.m.now.entries c.args.wanted.now c.args.m.now.n.value c.args.v.now c.args.m.now.n.fits)
