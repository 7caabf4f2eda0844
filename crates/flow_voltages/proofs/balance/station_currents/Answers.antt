-- `station_currents` meets its contract. Assumes nothing.
use Rattle.flow_voltages.proofs.Columns.{column_more}
use mathlib.Core.Path.{◌∙◌}
use Rattle.flow_voltages.proofs.balance.station_currents.Goals as goal

pub loop-j-preserved : goal.loop-j-preserved
loop-j-preserved c =
    c.add_column.ensures ∙ rw c.loop-j.invariant (column_more c.args.m.now.entries c.args.m.now.n.value c.args.v.now c.loop-j.j c.args.m.now.n.fits c.args.m.now.symmetric c.loop-j-test.true)
