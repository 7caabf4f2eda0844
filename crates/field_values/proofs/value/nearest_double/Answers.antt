use Prim.Native.Nat.{ℕ, ◌≤◌, ◌^◌}
use mathlib.Core.Path.{◌≡◌, ◌∙◌, ap}
use mathlib.Core.Bool.{false}
use native.Mathlib.Omega.{arith}
use native.Mathlib.Nat.{pow-le-pow_right, one-le-pow}
use lib.Ieee.{binary64, round}
use Rattle.field_values.proofs.Divide.{divided}
use Rattle.field_values.proofs.value.nearest_double.Goals as goal

power_small : (r p : ℕ) → p ≤ 6 → r ≡ 10 ^ p → r ≤ 2 ^ 53
power_small r p h e = omega (arith, pow-le-pow_right {n = 10} (omega arith) h)

pub returns : goal.returns
returns c =
    let p = c.pow-p in
    divided c.args.digits p.result c.requires.digits_bound (power_small p.result c.args.places c.requires.places_bound p.ensures) (rw p.ensures (one-le-pow c.args.places 10 (omega arith)))
    ∙ ap (round binary64 false c.args.digits) p.ensures
