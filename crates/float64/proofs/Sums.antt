-- One term more of a sum. Assumes nothing.
use Prim.Native.Nat.{ℕ, ◌+◌}
use mathlib.Core.Path.{◌≡◌}
use native.Mathlib.Numerals.{add-one}
use lib.Ieee.{Float}
use Rattle.float64.specs.Arithmetic.{◌⊕◌, added_up}

pub added_more : (s : Float) (f : ℕ → Float) (i : ℕ) {sum x : Float} → sum ≡ added_up s f i → x ≡ f i → sum ⊕ x ≡ added_up s f (i + 1)
added_more s f i e h = rw (add-one, e, h)
