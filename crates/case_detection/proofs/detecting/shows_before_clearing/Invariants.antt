-- `shows_before_clearing` meets its contract: the steps that are left, from the numbers, the time and the flag of the last, detect what all of them do. Assumes nothing.
use Rattle.case_detection.proofs.Looks.{at, look_from}
use Prim.Native.Nat.{◌-◌}
use mathlib.Core.Path.{◌≡◌}
use Rattle.case_detection.proofs.detecting.shows_before_clearing.Given as goal

abbrev pub invariant-loop-step : goal.invariant-loop-step
invariant-loop-step l =
    (look_from l.fn.plan l.step (at l.y l.time_ms l.active) (l.end - l.step)).detected ≡ (look_from l.fn.plan l.first (at l.initial.y l.initial.time_ms l.initial.active) (l.end - l.first)).detected
