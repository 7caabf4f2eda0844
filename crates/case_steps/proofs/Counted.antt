-- Which steps reason 8 counts, as the code tests it. Assumes nothing.
use Prim.Native.Nat.{ℕ, zero, suc}
use native.Mathlib.Omega.{arith}
use mathlib.Core.Path.{◌≡◌, refl}
use mathlib.Core.Bool.{Bool, true, false, not, ◌&&◌, ◌||◌}
use lib.Dec.{leb, ltb}
use borrow.Author.Tests.{le-leb, le-ltb}
use Rattle.lists.proofs.Counting.{contrary}

pub skipped : (step : ℕ) (cleared b : Bool) → (ltb step 1 || cleared) ≡ true → ((leb 1 step && not cleared) && b) ≡ false
skipped zero cleared b h = refl
skipped (suc n) true b h = rw (le-leb 1 (suc n) (omega arith))
skipped (suc n) false b h = contrary h (rw (le-ltb (suc n) 1 (omega arith)))

pub looked_at : (step : ℕ) (cleared b : Bool) → (ltb step 1 || cleared) ≡ false → ((leb 1 step && not cleared) && b) ≡ b
looked_at zero cleared b h = contrary refl h
looked_at (suc n) true b h = contrary (rw (le-ltb (suc n) 1 (omega arith))) h
looked_at (suc n) false b h = rw (le-leb 1 (suc n) (omega arith))
