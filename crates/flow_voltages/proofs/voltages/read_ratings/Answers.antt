-- `read_ratings` meets its contract. Assumes nothing.
use Rattle.flow_voltages.specs.Constants.{loading}
use Rattle.grid.specs.Simulator.{blank_station}
use Rattle.flow_voltages.specs.Balance.{but_first}
use Rattle.float64.specs.Arithmetic.{◌⊗◌}
use Rattle.float64.specs.Constants.{nought}
use lib.Ieee.{neg}
use lib.ListN.{get_or}
use lib.Dec.{eqb}
use mathlib.Core.Bool.{cond}
use mathlib.Core.Path.{◌∙◌}
use Rattle.lists.specs.Tables.{blank}
use Rattle.lists.proofs.Counting.{at_end_lem}
use Rattle.lists.proofs.Fills.{upto, upto_padded}
use Rattle.flow_voltages.proofs.voltages.read_ratings.Goals as goal

pub returns-clause-rated : goal.returns-clause-rated
returns-clause-rated c =
    at_end_lem (λ k. upto k (λ i. (get_or c.args.g.now.stations i blank_station).v_dc_rated_kv) (blank 32 nought)) c.loop-i.auto.i-end c.loop-i-test.false c.loop-i.invariant.0
    ∙ upto_padded c.of-n.result.value 32 _ nought c.of-n.result.fits ∙ rw c.of-n.ensures

pub returns-clause-wanted : goal.returns-clause-wanted
unfolding but_first
returns-clause-wanted c =
    at_end_lem (λ k. upto k (λ i. cond (eqb i 0) nought (neg (get_or c.args.g.now.stations i blank_station).p_rated_mw ⊗ loading)) (blank 32 nought)) c.loop-i.auto.i-end c.loop-i-test.false c.loop-i.invariant.1
    ∙ upto_padded c.of-n.result.value 32 _ nought c.of-n.result.fits ∙ rw c.of-n.ensures
