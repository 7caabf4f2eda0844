use Prim.Native.Nat.{◌+◌, ◌*◌, ◌≤◌}
use mathlib.Core.Path.{◌≡◌}
use lib.ListN.{drop}
use Rattle.listing_text.specs.Puts.{put_all}
use Rattle.listing_text.proofs.lines.put_columns.Given as goal

abbrev pub invariant-loop-n : goal.invariant-loop-n
invariant-loop-n l = (l.place ≤ l.at + 21 * l.n-index) × (put_all l.out l.place l.width (drop l.n-index l.numbers) ≡ put_all l.initial.out l.at l.width l.numbers)
