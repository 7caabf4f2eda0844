-- Worked examples of the definitions: they are believed, so a wrong clause need break no other proof. Steps of 0.1 ms, of which step 3 is at 0.30000000000000004 ms. Assumes nothing.
use Prim.Native.Nat.{ℕ}
use mathlib.Core.Path.{◌≡◌, refl}
use mathlib.Core.Bool.{Bool, true, false}
use lib.Ieee.{of_bits, of_int, round, sub, mul, le}
use Rattle.float64.specs.Constants.{nought, decimal}
use Rattle.fault_window.specs.declared.steps.Window.{Window}
use Rattle.fault_window.specs.Window.{until, window_of}

window : (from to : ℕ) → Bool → Window
window from to clears = record { from = from; to = to; clears = clears }

-- Inception at 0.3 ms, so that step 3 is the first active one; cleared 0.2 ms later, which is step 5. Then: the clearing step is the last of the run; the run ends before it;
-- the run ends before inception; the fault is active already; the first step is past the clearing time; the breakers take no time; the first step is past the end; inception is at the very time of step 2.
windows-are
    : (window_of (decimal 1 10) (decimal 3 10) (decimal 2 10) false 0 9 ≡ window 3 6 true)
    × (window_of (decimal 1 10) (decimal 3 10) (decimal 2 10) false 0 6 ≡ window 3 6 true)
    × (window_of (decimal 1 10) (decimal 3 10) (decimal 2 10) false 0 5 ≡ window 3 5 false)
    × (window_of (decimal 1 10) (decimal 3 10) (decimal 2 10) false 0 3 ≡ window 3 3 false)
    × (window_of (decimal 1 10) (decimal 3 10) (decimal 2 10) true 1 9 ≡ window 1 6 true)
    × (window_of (decimal 1 10) (decimal 3 10) (decimal 2 10) false 8 9 ≡ window 8 9 true)
    × (window_of (decimal 1 10) (decimal 3 10) nought false 0 9 ≡ window 3 4 true)
    × (window_of (decimal 1 10) (decimal 3 10) (decimal 2 10) false 9 4 ≡ window 9 4 false)
    × (window_of (decimal 1 10) (decimal 2 10) (decimal 2 10) false 0 9 ≡ window 2 5 true)
unfolding window window_of until of_bits of_int round sub mul le
windows-are = (refl, refl, refl, refl, refl, refl, refl, refl, refl)
