-- `cable_losses` meets its contract. Assumes nothing.
use Rattle.power_flow.specs.Solution.{loss_of}
use Rattle.float64.specs.Constants.{nought}
use mathlib.Core.Path.{◌∙◌}
use Rattle.lists.specs.Tables.{blank}
use Rattle.lists.proofs.Counting.{at_end_lem}
use Rattle.lists.proofs.Fills.{upto, upto_padded}
use Rattle.power_flow.proofs.solution.cable_losses.Goals as goal

pub returns-clause-losses : goal.returns-clause-losses
returns-clause-losses c =
    at_end_lem (λ k. upto k (loss_of c.args.g.now.cables c.of-n.result.value c.args.v.now) (blank 64 nought)) c.loop-i.auto.i-end c.loop-i-test.false c.loop-i.invariant.0
    ∙ upto_padded c.of-n_cables.result.value 64 _ nought c.of-n_cables.result.fits ∙ rw (c.of-n.ensures, c.of-n_cables.ensures)
