-- Worked examples of what stands beside a refusal: all zero and false, in arrays of 32, 64 and 32. Written by hand.
use mathlib.Core.Path.{◌≡◌, refl}
use lib.ListN.{length, replicate}
use lib.Ieee.{of_bits, round}
use Rattle.lists.specs.Tables.{tab, blank}
use Rattle.float64.specs.Constants.{decimal}
use Rattle.records.specs.Records.{record_with}
use Rattle.runs.specs.Blank.{blank_grid, blank_state}

-- every number of the state, and every breaker
state_is : record_with 32 64 32 blank_state ≡ replicate 162 (decimal 0 1)
unfolding record_with tab blank of_bits round
state_is = refl

grid_is
    : (length blank_grid.stations ≡ 32) × (length blank_grid.cables ≡ 64) × (length blank_grid.breakers ≡ 32)
    × (blank_grid.n_stations ≡ 0) × (blank_grid.n_cables ≡ 0) × (blank_grid.n_breakers ≡ 0)
    × (blank_grid.dt_us ≡ decimal 0 1) × (blank_grid.duration_ms ≡ decimal 0 1)
unfolding of_bits round
grid_is = (refl, refl, refl, refl, refl, refl, refl, refl)
