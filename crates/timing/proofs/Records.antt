-- How many steps of a run are recorded. Assumes nothing.
use Prim.Native.Nat.{ℕ, suc, ◌+◌, ◌-◌, ◌%◌, ◌<◌}
use native.Mathlib.Omega.{arith}
use mathlib.Core.Path.{◌≡◌, refl, ap, ◌∙◌}
use mathlib.Core.Bool.{Bool, true, false, ◌||◌, cond}
use borrow.Author.Tests.{eq-eqb, ne_eqb}
use lib.Dec.{eqb}
use Rattle.lists.proofs.Scanning.{or_second}
use Rattle.timing.specs.Steps.{interval_of, recorded, count_below, records_of}
use Rattle.timing.proofs.Ceiling.{ceiling, multiples, count_alike}

or_false : (a b : Bool) → b ≡ false → (a || b) ≡ a
or_false true b e = refl
or_false false b e = e

pub interval_above : (n : ℕ) → 0 < interval_of n
interval_above n = omega arith

-- the multiples of the interval before the last step, and the last
pub records_are : (n : ℕ) → records_of (suc n) ≡ 1 + ceiling n (interval_of (suc n))
unfolding count_below
records_are n =
    ap (λ (b : Bool). cond b 1 0 + count_below (recorded (suc n)) n) (or_second (eqb (n % interval_of (suc n)) 0) (eqb n (suc n - 1)) (eq-eqb n (suc n - 1) (omega arith)))
    ∙ ap (λ (x : ℕ). 1 + x) (count_alike (recorded (suc n)) (λ s. eqb (s % interval_of (suc n)) 0) n (λ s l. or_false (eqb (s % interval_of (suc n)) 0) (eqb s (suc n - 1)) (ne_eqb s (suc n - 1) (λ e. omega arith)))
    ∙ multiples (interval_of (suc n)) n (interval_above (suc n)))

pub no_records : (n : ℕ) → n < 1 → 0 ≡ records_of n
unfolding count_below
no_records n h = let e : n ≡ 0 = omega arith in rw e

-- the same of a count that is 1 or more
pub some_records : (n : ℕ) → 0 < n → records_of n ≡ 1 + ceiling (n - 1) (interval_of n)
some_records n h = let e : suc (n - 1) ≡ n = omega arith in rw e at (records_are (n - 1))
