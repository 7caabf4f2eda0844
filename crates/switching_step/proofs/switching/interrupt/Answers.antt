-- `interrupt` meets its contract. Assumes nothing.
use Rattle.switching_step.proofs.Parts.{halved}
use native.Mathlib.Omega.{arith}
use Rattle.switching_step.proofs.switching.interrupt.Goals as goal

pub returns-then-opens : goal.returns-then-opens
returns-then-opens c = rw (c.halve.ensures, c.if-opens.true) (halved c.args.n.value c.args.m.value c.args.y.now (omega (arith, c.args.n.fits, c.args.m.fits)))
