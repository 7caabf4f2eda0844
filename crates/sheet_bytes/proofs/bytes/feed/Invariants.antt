use mathlib.Core.Path.{◌≡◌}
use mathlib.Core.Bool.{false}
use mathlib.Core.List.{foldl}
use lib.ListN.{length, take}
use Rattle.taken_lines.specs.Taken.{stopped_at}
use Rattle.sheet_bytes.specs.Bytes.{byte_taken}
use Rattle.sheet_bytes.proofs.bytes.feed.Given as goal

-- r is what the bytes so far make of it, and no line of them is refused
abbrev pub invariant-loop-b : goal.invariant-loop-b
invariant-loop-b l = (l.r ≡ foldl byte_taken l.initial.r (take l.b-index l.piece)) × (stopped_at l.r.sheet ≡ false) × (length l.r.line ≡ 134)
