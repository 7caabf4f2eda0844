-- `breaker_clearing_time_ms` meets its contract. Assumes nothing.
use Rattle.breaker_times.specs.Breakers.{clearing_time_of}
use mathlib.Core.Path.{sym, ap}
use Rattle.breaker_times.proofs.breakers.breaker_clearing_time_ms.Goals as goal

pub returns-in-Mechanical : goal.returns-in-Mechanical
unfolding clearing_time_of
returns-in-Mechanical c = ap clearing_time_of (sym c.in-Mechanical.is)

pub returns-in-SolidState : goal.returns-in-SolidState
unfolding clearing_time_of
returns-in-SolidState c = ap clearing_time_of (sym c.in-SolidState.is)

pub returns-in-HybridBreaker : goal.returns-in-HybridBreaker
unfolding clearing_time_of
returns-in-HybridBreaker c = ap clearing_time_of (sym c.in-HybridBreaker.is)
