-- `read_ratings` meets its contract. Assumes nothing.
use Rattle.flow_voltages.specs.Constants.{loading}
use Rattle.grid.specs.Simulator.{blank_station}
use Rattle.float64.specs.Arithmetic.{◌⊗◌}
use Rattle.float64.specs.Constants.{nought}
use lib.Ieee.{neg}
use lib.ListN.{get_or}
use lib.Dec.{eqb}
use mathlib.Core.Bool.{cond}
use mathlib.Core.Path.{◌≡◌}
use Rattle.lists.specs.Tables.{blank}
use Rattle.lists.proofs.Fills.{upto}
use Rattle.flow_voltages.proofs.voltages.read_ratings.Given as goal

abbrev pub invariant-loop-i : goal.invariant-loop-i
invariant-loop-i l =
    (l.rated ≡ upto l.i (λ k. (get_or l.g.stations k blank_station).v_dc_rated_kv) (blank 32 nought)) × (l.wanted ≡ upto l.i (λ k. cond (eqb k 0) nought (neg (get_or l.g.stations k blank_station).p_rated_mw ⊗ loading)) (blank 32 nought))
