-- After a turn `read_sheet` has read the bytes before it, and then those of the piece. Assumes nothing.
use mathlib.Core.Path.{sym, ◌∙◌, ap}
use mathlib.Core.List.{foldl, foldl-append}
use Rattle.std.proofs.Common.{◌≡◌, ℕ, List, ◌++◌, take}
use Rattle.sheet_bytes.specs.Bytes.{start_of, byte_taken}
use Rattle.sheet_bytes.specs.declared.bytes.Reading.{Reading}
use Rattle.sweep.specs.Turns.{IsRead}
use Rattle.sweep.proofs.read_sheet.Goals as goal

-- A piece more.
more : (r fed : Reading) (piece : List ℕ) → IsRead r → fed ≡ foldl byte_taken r piece → IsRead fed
more r fed piece i e = (i.0 ++ piece, e ∙ ap (λ r. foldl byte_taken r piece) i.1 ∙ sym (foldl-append byte_taken start_of i.0 piece))

pub loop-turn-preserved : goal.loop-turn-preserved
loop-turn-preserved g c = more _ _ (take c.in-Some.n c.read_some.new.buffer) c.loop-turn.invariant c.feed-reading.ensures

pub returns-then-stopped : goal.returns-then-stopped
returns-then-stopped g c = more _ _ (take c.in-Some.n c.read_some.new.buffer) c.loop-turn.invariant c.feed-reading.ensures
