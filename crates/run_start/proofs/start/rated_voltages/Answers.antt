-- `rated_voltages` meets its contract. Assumes nothing.
use Rattle.run_start.specs.Start.{rated_of}
use Rattle.grid.specs.declared.parts.ConverterStation.{ConverterStation}
use Rattle.grid.specs.Simulator.{blank_station}
use Rattle.network.proofs.Slices.{filled}
use Rattle.float64.specs.Constants.{nought}
use Rattle.lists.proofs.Fills.{upto_none, upto_more, get_d_within}
use Rattle.lists.proofs.Scanning.{unmapped}
use Rattle.lists.specs.Tables.{blank}
use Rattle.std.proofs.Common.{◌≡◌, length, ap, arith, rules}
use Rattle.run_start.proofs.start.rated_voltages.Goals as goal

pub loop-i-init : goal.loop-i-init
unfolding blank
loop-i-init c = upto_none _ _

pub loop-i-preserved : goal.loop-i-preserved
loop-i-preserved c =
    let i = c.loop-i.i in
    let same = get_d_within _ i _ blank_station c.loop-i-test.true in
    upto_more _ _ i c.loop-i.invariant (ap (λ (s : ConverterStation). s.v_dc_rated_kv) same)

pub returns : goal.returns
unfolding rated_of
returns c =
    let g = c.args.g in
    let long : length g.stations ≡ 32 = search (rules, unmapped) in
    filled (λ (s : ConverterStation). s.v_dc_rated_kv) blank_station nought 96 32 g.n_stations g.stations _ long (omega arith) c.present_stations-s-items.ensures c.loop-i.auto.i-end c.loop-i-test.false c.loop-i.invariant
