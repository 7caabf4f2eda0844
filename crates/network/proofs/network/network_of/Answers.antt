-- `network_of` meets its contract. Assumes nothing.
use Rattle.network.specs.Network.{network_of, inductance, farads, station_count, station_table}
use Rattle.grid.specs.declared.parts.ConverterStation.{ConverterStation}
use Rattle.grid.specs.declared.parts.DcCable.{DcCable}
use Rattle.grid.specs.Cables.{resistance}
use Rattle.grid.specs.Simulator.{blank_station, blank_cable}
use Rattle.network.proofs.Slices.{counted, filled}
use Rattle.lists.proofs.Fills.{upto_none, upto_more, get_d_within}
use Rattle.lists.proofs.Scanning.{unmapped}
use Rattle.lists.specs.Tables.{blank}
use Rattle.float64.specs.Constants.{nought}
use Rattle.std.proofs.Common.{◌≡◌, List, length, ap, ◌∙◌, arith, rules}
use Rattle.network.proofs.network.network_of.Goals as goal

pub loop-k-init : goal.loop-k-init
unfolding blank
loop-k-init c = (upto_none _ _, upto_none _ _, upto_none _ _, upto_none _ _)

pub loop-k-preserved : goal.loop-k-preserved
loop-k-preserved c =
    let k = c.loop-k.k in
    let same = get_d_within c.present_cables-cables.result.now k _ blank_cable c.loop-k-test.true in
    let h = c.loop-k.invariant in
    (upto_more _ _ k h.0 (ap (λ (x : DcCable). x.from_station) same), upto_more _ _ k h.1 (ap (λ (x : DcCable). x.to_station) same), upto_more _ _ k h.2 (c.cable_resistance.ensures ∙ ap (λ (x : DcCable). resistance x) same), upto_more _ _ k h.3 (c.cable_inductance.ensures ∙ ap (λ (x : DcCable). inductance x) same))

pub loop-i-init : goal.loop-i-init
unfolding blank
loop-i-init c = upto_none _ _

pub loop-i-preserved : goal.loop-i-preserved
loop-i-preserved c =
    let i = c.loop-i.i in
    let same = get_d_within c.present_stations-stations.result.now i _ blank_station c.loop-i-test.true in
    upto_more _ _ i c.loop-i.invariant (c.max.ensures ∙ rw (c.capacitance_with.ensures, c.joined_capacitance-joined.ensures) (ap (λ (s : ConverterStation). farads c.present_cables-cables.result.now s) same))

pub returns : goal.returns
unfolding network_of
returns c =
    let g = c.args.g in
    let cables_long : length g.cables ≡ 64 = search (rules, unmapped) in
    let stations_long : length g.stations ≡ 32 = search (rules, unmapped) in
    let p = c.present_cables-cables.ensures in
    let q = c.present_stations-stations.ensures in
    let few = c.loop-k.auto.k-end in
    let all = c.loop-k-test.false in
    let h = c.loop-k.invariant in
    let stations_are = filled (farads c.present_cables-cables.result.now) blank_station nought 32 32 g.n_stations g.stations _ stations_long (omega arith) q c.loop-i.auto.i-end c.loop-i-test.false c.loop-i.invariant in
    let capacitances = stations_are ∙ ap (λ (cables : List DcCable). station_table g.stations (station_count g.n_stations) (farads cables)) p in
    let n = counted 32 g.n_stations g.stations _ stations_long q in
    let m = counted 64 g.n_cables g.cables _ cables_long p in
    let from = filled (λ (x : DcCable). x.from_station) blank_cable 0 64 64 g.n_cables g.cables _ cables_long (omega arith) p few all h.0 in
    let to = filled (λ (x : DcCable). x.to_station) blank_cable 0 64 64 g.n_cables g.cables _ cables_long (omega arith) p few all h.1 in
    let r = filled resistance blank_cable nought 64 64 g.n_cables g.cables _ cables_long (omega arith) p few all h.2 in
    let l = filled inductance blank_cable nought 64 64 g.n_cables g.cables _ cables_long (omega arith) p few all h.3 in
    λ i.
    record {
      n_stations = n i;
      n_cables = m i;
      from = from i;
      to = to i;
      resistance_ohm = r i;
      inductance_h = l i;
      capacitance_f = capacitances i;
    }
