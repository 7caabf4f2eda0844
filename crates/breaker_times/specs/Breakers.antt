-- Breaker times of document 01.4, in milliseconds. Definitions only.
use Rattle.std.specs.Prelude.{◌^◌, ◌*◌, ◌-◌, cond, ◌≡◌, refl, eqb, Float}
use mathlib.Core.List.{foldl}
use Rattle.std.specs.Float.{binary64}
use Rattle.std.specs.Float.Ieee.{of_bits, round, add, mul, div}
use Rattle.float64.specs.Constants.{decimal, kilo}
use Rattle.float64.specs.Choice.{min_of}
use Rattle.timing.specs.Steps.{duration_ms}
use Rattle.grid.specs.Simulator.{breakers_of}
use Rattle.grid.specs.declared.parts.DcBreakerType.{DcBreakerType}
use Rattle.grid.specs.declared.parts.DcBreakerType.TheVariants.{Mechanical, SolidState, HybridBreaker}
use Rattle.grid.specs.declared.parts.DcBreaker.{DcBreaker}
use Rattle.grid.specs.declared.simulator.DcSwitchingSimulator.{DcSwitchingSimulator}

abbrev pub k03 : Float
k03 = of_bits binary64 0x3fd3_3333_3333_3333

-- f64::MAX
abbrev pub largest : Float
largest = of_bits binary64 0x7fef_ffff_ffff_ffff

pub constants_are : (k03 ≡ decimal 3 10) × (largest ≡ decimal ((2 ^ 53 - 1) * 2 ^ 971) 1)
unfolding of_bits round
constants_are = (refl, refl)

-- opening; turn-off/1000; commutation/1000 + opening·0.3
unfoldable pub clearing_time_of : DcBreakerType → Float
clearing_time_of (Mechanical opening) = opening
clearing_time_of (SolidState turn_off loss) = div binary64 turn_off kilo
clearing_time_of (HybridBreaker opening commutation) = add binary64 (div binary64 commutation kilo) (mul binary64 opening k03)

abbrev pub time_of : DcBreaker → Float
time_of b = clearing_time_of b.breaker_type

-- the smaller of a time and a breaker's
abbrev pub faster : Float → DcBreaker → Float
faster t b = min_of t (time_of b)

-- Fastest of all; without breakers the duration
unfoldable pub fastest_of : DcSwitchingSimulator → Float
fastest_of g = cond (eqb g.n_breakers 0) (duration_ms g) (foldl faster largest (breakers_of g))
