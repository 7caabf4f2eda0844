-- The claims of specs/Claims. Assumes nothing.
use Prim.Native.Nat.{ℕ, ◌+◌, ◌-◌, ◌*◌, ◌%◌}
use native.Mathlib.Nat.{zero-mod}
use native.Mathlib.Omega.{arith}
use mathlib.Core.Path.{◌≡◌, refl, sym, ap, ◌∙◌}
use mathlib.Core.Bool.{false}
use borrow.Author.Tests.{eq-eqb}
use lib.Dec.{eqb}
use lib.IntN.{ℤ}
use lib.Ieee.{fin, up, down}
use lib.Ieee.Fits.{down_pos}
use Rattle.lists.proofs.Scanning.{or_second}
use Rattle.timing.specs.Steps.{rounded_up, interval_of}
use Rattle.timing.specs.Claims.{StepClaims}
use Rattle.timing.proofs.Ceiling.{ceiling, ceiling_is, ceiling_reaches, ceiling_least}
use Rattle.timing.proofs.Records.{interval_above, some_records}

up_is : (m : ℕ) (e : ℤ) → rounded_up (fin false m e) ≡ ceiling (m * up e) (down e)
unfolding rounded_up
up_is m e = ceiling_is (m * up e) (down e) (down_pos e)

pub step_claims : StepClaims
step_claims =
    record {
      reaches = λ m e. rw (up_is m e) (ceiling_reaches (m * up e) (down e) (down_pos e));
      least = λ m e n h. rw (up_is m e) (ceiling_least (m * up e) (down e) n (down_pos e) h);
      counted = λ n h. (let l = h.1 in omega arith);
      records = λ n h. some_records n h ∙ ap (λ (x : ℕ). 1 + x) (sym (ceiling_is (n - 1) (interval_of n) (interval_above n)));
      first_recorded = λ n. (rw (zero-mod (interval_of n)));
      last_recorded = λ n. or_second (eqb ((n - 1) % interval_of n) 0) (eqb (n - 1) (n - 1)) (eq-eqb (n - 1) (n - 1) refl);
    }
