-- `read_full` ends: each read that goes on has got a byte, and none passes the end of the lines. Assumes nothing.
use Rattle.std.proofs.Common.{◌-◌, ◌≤◌}
use Rattle.replay.proofs.reader.read_full.Given as goal

abbrev pub invariant-loop-done : goal.invariant-loop-done
invariant-loop-done l = l.done ≤ 22528

abbrev pub decreases-loop-done : goal.decreases-loop-done
decreases-loop-done l = 22528 - l.done
