-- `fastest_breaker_clearing_ms` meets its contract. Assumes nothing.
use mathlib.Core.Path.{◌≡◌}
use mathlib.Core.List.{foldl}
use lib.ListN.{take}
use Rattle.breaker_times.specs.Breakers.{faster, largest}
use Rattle.breaker_times.proofs.breakers.fastest_breaker_clearing_ms.Given as goal

abbrev pub invariant-loop-b : goal.invariant-loop-b
invariant-loop-b l = l.fastest ≡ foldl faster largest (take l.b-index l.b-items)
