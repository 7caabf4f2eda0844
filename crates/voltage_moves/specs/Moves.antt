-- How a pass of document 01.2 moves the voltages v, from the mismatches d and the conductances m. Definitions only.
use Rattle.std.specs.Prelude.{ℕ, zero, suc, ◌-◌, cond, List, eqb, set, Float}
use Rattle.std.specs.Float.Ieee.{lt}
use Rattle.float64.specs.Constants.{nought, two}
use Rattle.float64.specs.Arithmetic.{◌⊕◌, ◌⊗◌, ◌⊘◌, of}
use Rattle.float64.specs.Choice.{abs_of, clamp_of}
use Rattle.conductances.specs.Conductances.{cell}
use Rattle.voltage_moves.specs.Constants.{idle_divisor, low_part, high_part}

-- a voltage moved by its mismatch over a divisor that is not near zero
unfoldable pub moved : Float → Float → Float → Float
moved v d q = cond (lt idle_divisor (abs_of q)) (v ⊕ d ⊘ q) v

-- Two stations: no clamp.
abbrev pub divisor_of_two : List Float → List Float → Float
divisor_of_two m v = two ⊗ cell m 1 1 ⊗ of v 1 ⊕ cell m 1 0 ⊗ of v 0

unfoldable pub moved_of_two : List Float → List Float → List Float → List Float
moved_of_two m d v = set v 1 (moved (of v 1) (of d 1) (divisor_of_two m v))

-- the sum f 0 + f 1 + .. + f (k - 1) without f i
abbrev pub sum_without : ℕ → (ℕ → Float) → ℕ → Float
sum_without i f zero = nought
sum_without i f (suc k) = cond (eqb k i) (sum_without i f k) (sum_without i f k ⊕ f k)

-- the divisor of station i: 2·G(i,i)·Vi and G(i,j)·Vj of all others
unfoldable pub divisor : List Float → ℕ → List Float → ℕ → Float
divisor m n v i = two ⊗ cell m i i ⊗ of v i ⊕ sum_without i (λ j. cell m i j ⊗ of v j) n

-- Three or more: each clamped to 0.5 to 1.5 of rated.
abbrev pub clamped : Float → Float → Float
clamped rated v = clamp_of v (rated ⊗ low_part) (rated ⊗ high_part)

-- The voltages when stations 1 to k have moved, one after the other, by mismatches d that were all taken before: only the divisor sees moved ones.
unfoldable pub moved_to : List Float → ℕ → List Float → List Float → List Float → ℕ → List Float
moved_to m n rated d v zero = v
moved_to m n rated d v (suc k) =
    let w = moved_to m n rated d v k in
    set w (suc k) (clamped (of rated (suc k)) (moved (of w (suc k)) (of d (suc k)) (divisor m n w (suc k))))

abbrev pub moved_all : List Float → ℕ → List Float → List Float → List Float → List Float
moved_all m n rated d v = cond (eqb n 2) (moved_of_two m d v) (moved_to m n rated d v (n - 1))
