-- `network_of` meets its contract. Assumes nothing.
use Rattle.network.specs.Network.{inductance, farads}
use Rattle.grid.specs.Cables.{resistance}
use Rattle.grid.specs.Simulator.{blank_cable, blank_station}
use Rattle.float64.specs.Constants.{nought}
use Rattle.lists.proofs.Fills.{upto}
use Rattle.lists.specs.Tables.{blank}
use Rattle.std.proofs.Common.{◌≡◌, get_or}
use Rattle.network.proofs.network.network_of.Given as goal

abbrev pub invariant-loop-k : goal.invariant-loop-k
invariant-loop-k l =
    (l.from ≡ upto l.k (λ k. (get_or l.cables k blank_cable).from_station) (blank 64 0))
    × (l.to ≡ upto l.k (λ k. (get_or l.cables k blank_cable).to_station) (blank 64 0))
    × (l.resistance_ohm ≡ upto l.k (λ k. resistance (get_or l.cables k blank_cable)) (blank 64 nought))
    × (l.inductance_h ≡ upto l.k (λ k. inductance (get_or l.cables k blank_cable)) (blank 64 nought))

abbrev pub invariant-loop-i : goal.invariant-loop-i
invariant-loop-i l = l.capacitance_f ≡ upto l.i (λ i. farads l.cables (get_or l.stations i blank_station)) (blank 32 nought)
