-- `put_breakers` meets its contract. Assumes nothing.
use Rattle.std.proofs.Common.{◌≡◌, map, take}
use lib.Seq.{sets}
use Rattle.records.specs.Records.{closed_number}
use Rattle.records.proofs.record.put_breakers.Given as goal

abbrev pub invariant-loop-i : goal.invariant-loop-i
invariant-loop-i l = l.records ≡ sets l.initial.records l.at (map closed_number (take l.i l.breakers))
