-- Worked examples of the definitions: they are believed, so a wrong clause need break no other proof. The answers are the published Rust's.
use Prim.Native.Nat.{ℕ}
use mathlib.Core.Path.{◌≡◌, refl}
use lib.Ieee.{Float, binary64, of_bits, round, add, mul, lt, is_nan}
use Rattle.float64.specs.Constants.{decimal}
use Rattle.float64.specs.Choice.{min_of}
use Rattle.recovery.specs.Recovery.{recovering}

double : ℕ → Float
double n = of_bits binary64 n

-- of 320 kV: below, near it, at it and above it
recovering-are
    : (recovering (decimal 320 1) (decimal 3001 10) ≡ double 0x4072c6b851eb851f)
    × (recovering (decimal 320 1) (decimal 3199 10) ≡ decimal 320 1)
    × (recovering (decimal 320 1) (decimal 320 1) ≡ decimal 320 1)
    × (recovering (decimal 320 1) (decimal 321 1) ≡ decimal 321 1)
unfolding double min_of is_nan lt of_bits round add mul
recovering-are = (refl, refl, refl, refl)
