-- No other double than `root_of` is the nearest to a root. It stands apart from `RootNearest`, so that what makes another double as near is refused here. Assumes nothing.
use mathlib.Core.Path.{◌≡◌, ap, subst}
use mathlib.Core.Logic.{inl, inr}
use mathlib.Core.Bool.{true, false}
use Prim.Native.Nat.{ℕ, zero, suc, ◌+◌, ◌*◌, ◌^◌}
use native.Mathlib.Nat.{le_trans, le_of_eq, not-le_of_lt, zero-lt-suc, add_comm}
use lib.Dec.{T, lt→ltb}
use lib.Pow.{pow_pos}
use lib.Ieee.{Float, nan, inf, fin, binary64, fits}
use lib.Ieee.Positive.{positive}
use Rattle.square_root.specs.Root.{Units, radicand, AsNear, NearestRoot, IsRoot, root_of}
use Rattle.lists.proofs.Counting.{compared}
use Rattle.square_root.proofs.RootPlace.{rooted}
use Rattle.square_root.proofs.RootNearest.{beyond, short_of_lem, root_fits}
use Rattle.float64.proofs.SameValue.{same_value}
use Rattle.rounding.proofs.Multiples.{units_unique}

-- ---- of a double above zero
pub only_root : (x y : Float) → T (fits binary64 x) → T (positive x) → NearestRoot x y → y ≡ root_of x
only_root x y F p h =
    let r = rooted x F p in
    let b = r.q * 2 ^ r.j in
    let a : h.a ≡ r.a = units_unique x h.a r.a h.x_is r.x_is in
    let near : AsNear (radicand r.a) h.b b = subst (λ (k : ℕ). AsNear (radicand k) h.b b) a (h.nearest (root_of x) b (root_fits x F) r.y_is) in
    let same : h.b ≡ b =
    elim (compared h.b b) [
      | inl l ↦ absurd (not-le_of_lt (short_of_lem (radicand r.a) r.q r.j r.placed y h.b h.double h.y_is l) (le_trans (near.0 l) (le_of_eq (turned h.b b))))
      | inr (inl e) ↦ e
      | inr (inr l) ↦ absurd (not-le_of_lt (beyond (radicand r.a) r.q r.j r.placed y h.b h.double h.y_is l) (le_trans (le_of_eq (turned b h.b)) (near.1 l)))
    ] in
    same_value binary64 y (root_of x) false b (2 ^ 1074) (pow_pos 1074) h.double (root_fits x F) (subst (λ (k : ℕ). Units y k) same h.y_is) r.y_is
  where
    turned : (b c : ℕ) → (b + c) * (b + c) ≡ (c + b) * (c + b)
    turned b c = ap (λ (s : ℕ). s * s) (add_comm b c)

-- ---- at every double
pub root_only : (x y : Float) → T (fits binary64 x) → IsRoot x y → y ≡ root_of x
unfolding IsRoot root_of
root_only nan y F h = h
root_only (inf true) y F h = h
root_only (inf false) y F h = h
root_only (fin s zero e) y F h = h
root_only (fin true (suc m) e) y F h = h
root_only (fin false (suc m) e) y F h = only_root (fin false (suc m) e) y F (lt→ltb 0 (suc m) (zero-lt-suc m)) h
