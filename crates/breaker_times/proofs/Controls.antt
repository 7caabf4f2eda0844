-- Worked examples of the definitions: they are believed, so a wrong clause need break no other proof. The answers were written by hand from document 01.
use mathlib.Core.Path.{◌≡◌, refl}
use mathlib.Core.List.{[], ◌∷◌, foldl}
use lib.Ieee.{of_bits, round, div, lt, is_nan}
use Rattle.float64.specs.Constants.{nought, decimal}
use Rattle.float64.specs.Choice.{min_of}
use Rattle.grid.specs.declared.parts.DcBreakerType.TheVariants.{Mechanical, SolidState}
use Rattle.breaker_times.specs.Breakers.{clearing_time_of, faster}

-- breakers of 7 ms and 500 µs: the faster one's time
fastest_are : foldl faster (decimal 100 1) (record { id = 0; station_id = 0; breaker_type = Mechanical (decimal 7 1); max_breaking_current_ka = nought; energy_absorption_mj = nought } ∷ record { id = 0; station_id = 0; breaker_type = SolidState (decimal 500 1) nought; max_breaking_current_ka = nought; energy_absorption_mj = nought } ∷ []) ≡ decimal 5 10
unfolding clearing_time_of min_of is_nan lt of_bits round div
fastest_are = refl
