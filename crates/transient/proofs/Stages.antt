-- The four stages of a step, put together. Assumes nothing.
use Prim.Native.Nat.{ℕ, ◌+◌}
use mathlib.Core.Path.{◌≡◌, ◌∙◌}
use mathlib.Core.List.{List}
use native.Mathlib.Omega.{arith}
use lib.Ieee.{Float, nan}
use Rattle.lists.specs.Tables.{over}
use Rattle.lists.proofs.Fills.{over_within}
use Rattle.float64.specs.Constants.{nought, half}
use Rattle.float64.specs.Arithmetic.{◌⊗◌, ◌⊘◌, of}
use Rattle.float64.specs.Choice.{max_of}
use Rattle.network.specs.Constants.{six}
use Rattle.transient.specs.Rk4.{ahead, blended, rk4, raised, new_state}

-- the four stages and their sum
pub rk4_staged : (size : ℕ) (f : List Float → List Float) (dt : Float) (y : List Float) {k1 k2 k3 k4 x : List Float}
    → k1 ≡ f y
    → k2 ≡ f (ahead size y (half ⊗ dt) k1)
    → k3 ≡ f (ahead size y (half ⊗ dt) k2)
    → k4 ≡ f (ahead size y dt k3)
    → x ≡ blended size y (dt ⊘ six) k1 k2 k3 k4
    → x ≡ rk4 size f dt y
unfolding rk4
rk4_staged size f dt y e1 e2 e3 e4 e = e ∙ rw (e4, e3, e2, e1)

-- the step's numbers with their voltages raised
pub rk4-raised : (n m : ℕ) (f : List Float → List Float) (dt : Float) (y : List Float) → let x = rk4 (n + m) f dt y in over n (λ i. max_of (of x i) nought) nan x ≡ new_state n m f dt y
unfolding rk4 blended raised new_state
rk4-raised n m f dt y = over_within 96 n (n + m) _ _ nought nan (omega arith)
