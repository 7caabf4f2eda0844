-- `exp` meets its contract. The terms that are still to be added give the answer of all eighteen; p has been squared as often as the turns say. Assumes nothing.
use mathlib.Core.Path.{◌≡◌}
use Rattle.elementary.specs.Exponential.{terms, squared}
use Rattle.elementary.proofs.exponential.exp.Given as goal

abbrev pub invariant-loop-k : goal.invariant-loop-k
invariant-loop-k l = terms l.k l.y l.p ≡ terms 18 l.y l.initial.p

abbrev pub invariant-loop-turn : goal.invariant-loop-turn
invariant-loop-turn l = l.p ≡ squared l._turn l.initial.p
