-- Worked examples of the definitions: they are believed, so a wrong clause need break no other proof. The answers are the published Rust's.
use Prim.Native.Nat.{ℕ}
use mathlib.Core.Path.{◌≡◌, refl}
use lib.Ieee.{Float, binary64, of_bits, round, mul, div}
use Rattle.state_derivatives.specs.Derivatives.{drain_current}

double : ℕ → Float
double n = of_bits binary64 n

-- what a fault of 9.7 Ω at 0.8 of its cable drains at 344 kV, in the published order: another order of the four operations gives another double
drained_is : drain_current (record { from = 0; to = 1; resistance = double 0x40c2f20000000000; fraction = double 0x3fe999999999999a }) (double 0x4075800000000000) ≡ double 0x403c5f02a3a0fd5d
unfolding double of_bits round mul div
drained_is = refl
