use Prim.Native.Nat.{◌+◌, ◌*◌}
use mathlib.Core.Path.{◌≡◌}
use lib.ListN.{drop}
use Rattle.listing_text.specs.Puts.{put_values}
use Rattle.listing_text.proofs.lines.put_values.Given as goal

abbrev pub invariant-loop-bits : goal.invariant-loop-bits
invariant-loop-bits l = (l.place ≡ l.at + 21 * l.bits-index) × (put_values l.out l.place (drop l.bits-index l.values) ≡ put_values l.initial.out l.at l.values)
