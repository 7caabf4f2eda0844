-- `block_times` meets its contract: the first n lanes are filled. Assumes nothing.
use Rattle.run_start.specs.Start.{time_at}
use Rattle.float64.specs.Constants.{nought}
use Rattle.lists.specs.Tables.{blank}
use Rattle.lists.proofs.Fills.{upto}
use Prim.Native.Nat.{◌+◌}
use mathlib.Core.Path.{◌≡◌}
use Rattle.fault_sums.proofs.steps.block_times.Given as goal

abbrev pub invariant-loop-j : goal.invariant-loop-j
invariant-loop-j l = l.t_ms ≡ upto l.j (λ k. time_at l.dt_ms (l.first + k)) (blank 16 nought)
