-- `connect` meets its contract. Assumes nothing.
use Rattle.conductances.proofs.Entries.{joins_entries, skips_entries}
use borrow.Author.Tests.{lt-ltb, le-ltb}
use native.Mathlib.Omega.{arith}
use Rattle.conductances.proofs.conductances.connect.Goals as goal
use Rattle.conductances.proofs.conductances.connect.Goals.{else-from-n-via-then-from-n+else-to-n, else-from-n-via-else-from-n}

pub returns-then-to-n : goal.returns-then-to-n
returns-then-to-n c =
    rw (lt-ltb c.args.c.from_station c.args.n.value c.if-from-n.true, lt-ltb c.args.c.to_station c.args.n.value c.if-to-n.true, c.cable_resistance-g.ensures)
    (joins_entries c.args.c.from_station c.args.c.to_station _ c.args.m.now (omega (arith, c.args.n.fits)) (omega (arith, c.args.n.fits)))

pub returns-else-from-n : goal.returns-else-from-n
returns-else-from-n c =
    elim c.else-from-n.branch [
      | else-from-n-via-then-from-n+else-to-n w ↦ rw (lt-ltb c.args.c.from_station c.args.n.value w.if-from-n.true, le-ltb c.args.c.to_station c.args.n.value w.if-to-n.false) (skips_entries c.args.m.now)
      | else-from-n-via-else-from-n w ↦ rw (le-ltb c.args.c.from_station c.args.n.value w.if-from-n.false) (skips_entries c.args.m.now)
    ]
