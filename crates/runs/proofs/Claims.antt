-- The claim of specs/Runs about the number of records. Assumes nothing.
use Prim.Native.Nat.{ℕ, zero, suc}
use native.Mathlib.Omega.{arith}
use mathlib.Core.Path.{◌≡◌, refl, ◌∙◌}
use lib.ListN.{length, length-append}
use Rattle.timing.specs.Steps.{steps_of, count_below, recorded}
use Rattle.records.specs.Records.{record_of}
use Rattle.runs.specs.Runs.{Run, states_after, RunClaims}
use Rattle.runs.proofs.Turns.{count_one}

records_of_lem : (r : Run) (n : ℕ) → length (states_after r n) ≡ count_below (recorded (steps_of r.grid)) n
unfolding states_after count_below
records_of_lem r zero = refl
records_of_lem r (suc n) =
    length-append (states_after r n) _ ∙ rw (records_of_lem r n, count_one (recorded (steps_of r.grid) n) (record_of r.grid (r.state_at n))) (omega arith)

pub run_claims : RunClaims
run_claims = record { record_count = λ r. records_of_lem r (steps_of r.grid) }
