-- `state_derivatives` meets its contract. Assumes nothing.
use Rattle.float64.specs.Arithmetic.{◌⊘◌, of}
use Rattle.network.specs.Network.{end}
use Rattle.state_derivatives.specs.Derivatives.{net, drained, derivatives, stations_in, cables_in}
use Rattle.float64.specs.Constants.{nought}
use Rattle.lists.specs.Tables.{blank, padded}
use Rattle.state_derivatives.proofs.Stages.{over_zeros, nets_drained, rates_joined}
use native.Mathlib.Omega.{arith}
use Prim.Native.Nat.{◌≤◌}
use mathlib.Core.Path.{◌≡◌, refl, ◌∙◌}
use Rattle.state_derivatives.proofs.derivatives.state_derivatives.Goals as goal

pub returns : goal.returns
unfolding derivatives blank
returns c =
    let w = c.args.network.now in
    let d = c.args.drain in
    let n = stations_in w in
    let m = cables_in w in
    let y = c.args.state.y in
    let small : n ≤ 32 = omega arith in
    let drains : _ ≡ padded 32 n (λ i. drained d y i (net (end w.from) (end w.to) n y m i)) nought =
    c.drain_ends.ensures
    ∙ rw (c.of-n.ensures, c.add_currents.ensures) (nets_drained (end w.from) (end w.to) n y (of w.resistance_ohm) (of w.inductance_h) (of w.capacitance_f) d m small) in
    let rates = c.station_rates.ensures ∙ over_zeros 96 n (λ i. of c.drain_ends.new.nets i ⊘ of w.capacitance_f i) (omega arith) in
    c.cable_rates.ensures
    ∙ rw rates (rates_joined (end w.from) (end w.to) n y (of w.resistance_ohm) (of w.inductance_h) (of w.capacitance_f) d m small _ drains)
