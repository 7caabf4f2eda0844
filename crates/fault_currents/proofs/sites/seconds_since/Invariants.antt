-- `seconds_since` meets its contract. Assumes nothing.
use mathlib.Core.Path.{◌≡◌}
use Rattle.lists.proofs.Fills.{upto}
use Rattle.float64.specs.Arithmetic.{of}
use Rattle.fault_current.specs.Current.{seconds_since}
use Rattle.fault_currents.proofs.sites.seconds_since.Given as goal

abbrev pub invariant-loop-j : goal.invariant-loop-j
invariant-loop-j l = l.t ≡ upto l.j (λ n. seconds_since l.moment_ms (of l.t_ms n)) l.initial.t
