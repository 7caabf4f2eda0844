-- `breakers_all` meets its contract. Assumes nothing.
use Rattle.lists.proofs.Fills.{upto}
use Rattle.lists.specs.Tables.{blank}
use Rattle.std.proofs.Common.{◌≡◌, false}
use Rattle.run_start.proofs.start.breakers_all.Given as goal

abbrev pub invariant-loop-i : goal.invariant-loop-i
invariant-loop-i l = l.breakers ≡ upto l.i (λ _. l.closed) (blank 32 false)
