-- `rk4_step` meets its contract. Assumes nothing.
use Rattle.state_derivatives.specs.Derivatives.{net, stations_in, cables_in}
use Rattle.transient.specs.Rk4.{step_by}
use Rattle.network.specs.Network.{end}
use Rattle.float64.specs.Constants.{nought}
use Rattle.lists.specs.Tables.{padded}
use mathlib.Core.Path.{◌∙◌}
use Rattle.transient.proofs.rk4.rk4_step.Goals as goal

pub returns : goal.returns
unfolding step_by
returns c =
    let w = c.args.network in
    let numbers = c.moved_numbers-raised.ensures in
    let currents = c.net_currents-currents.ensures ∙ λ i. padded 32 (stations_in w) (net (end w.from) (end w.to) (stations_in w) (numbers i) (cables_in w)) nought in
    λ i.
    record {
      time_ms = c.args.state.time_ms;
      y = numbers i;
      station_currents_ka = currents i;
      fault_current_ka = c.args.state.fault_current_ka;
      breaker_states = c.args.state.breaker_states;
    }
