-- `set_operated` meets its contract. Assumes nothing.
use Rattle.lists.proofs.Fills.{upto}
use mathlib.Core.Path.{◌≡◌}
use Rattle.switching_plan.specs.Switching.{is_operated}
use mathlib.Core.Bool.{false, not, cond}
use lib.ListN.{get_or}
use Rattle.switching_step.proofs.switching.set_operated.Given as goal

abbrev pub invariant-loop-i : goal.invariant-loop-i
invariant-loop-i l =
    l.breakers ≡ upto l.i (λ k. cond (is_operated l.n l.breaker_id k) (not l.open) (get_or l.initial.breakers k false)) l.initial.breakers
