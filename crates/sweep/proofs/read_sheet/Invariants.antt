-- What `read_sheet` holds is what the bytes read so far make of it. Assumes nothing.
use Rattle.sweep.specs.Turns.{IsRead}
use Rattle.sweep.proofs.read_sheet.Given as goal

abbrev pub invariant-loop-turn : goal.invariant-loop-turn
invariant-loop-turn g l = IsRead l.reading
