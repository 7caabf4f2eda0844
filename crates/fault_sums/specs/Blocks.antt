-- A block of sixteen steps, as the code works it out. Definitions only: a caller needs Sums alone.
use Rattle.std.specs.Prelude.{ℕ, zero, suc, ◌+◌, List, Float}
use Rattle.lists.specs.Tables.{padded}
use Rattle.float64.specs.Constants.{nought}
use Rattle.float64.specs.Arithmetic.{◌⊕◌}
use Rattle.float64.specs.Choice.{max_of}
use Rattle.run_start.specs.Start.{time_at}
use Rattle.fault_sums.specs.declared.steps.Sums.{Sums}

-- the times of n steps from `first` on, and zeros past them
abbrev pub block_times : (dt : Float) → (first n : ℕ) → List Float
block_times dt first n = padded 16 n (λ j. time_at dt (first + j)) nought

-- one step more, of current i and heat e
abbrev pub added : (i e : Float) → Sums → Sums
added i e s = record { peak_ka = max_of s.peak_ka i; energy_mj = s.energy_mj ⊕ e; current_ka = i }

-- n lanes more, in order, from a lane on, each with its current and its heat
unfoldable pub lanes_from : (current heat : ℕ → Float) → ℕ → Sums → ℕ → Sums
lanes_from current heat j s zero = s
lanes_from current heat j s (suc n) = lanes_from current heat (suc j) (added (current j) (heat j) s) n
