-- A cable's total resistance, and the station at which an end of it is taken to be. Definitions only.
use Rattle.std.specs.Prelude.{ℕ, ◌^◌, ◌-◌, min, ◌≡◌, refl, Float}
use Rattle.std.specs.Float.{binary64}
use Rattle.std.specs.Float.Ieee.{of_bits, round}
use Rattle.float64.specs.Constants.{decimal}
use Rattle.float64.specs.Arithmetic.{◌⊗◌}
use Rattle.float64.specs.Choice.{max_of}
use Rattle.grid.specs.declared.parts.DcCable.{DcCable}

-- r at least 1e-9
abbrev pub least_resistance : Float
least_resistance = of_bits binary64 0x3e11_2e0b_e826_d695

pub least_resistance_is : least_resistance ≡ decimal 1 (10 ^ 9)
unfolding of_bits round
least_resistance_is = refl

abbrev pub resistance : DcCable → Float
resistance c = max_of (c.r_per_km ⊗ c.length_km) least_resistance

-- the end cut to the last of n stations
abbrev pub cut : ℕ → ℕ → ℕ
cut n k = min k (n - 1)
