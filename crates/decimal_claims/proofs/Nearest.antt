-- A fraction rounded half to even is the nearest whole number, and no other is. Assumes nothing.
use mathlib.Core.Path.{◌≡◌, sym, ap, ◌∙◌, subst}
use mathlib.Core.Logic.{◌⊎◌, inl, inr}
use Prim.Native.Nat.{ℕ, suc, ◌+◌, ◌-◌, ◌*◌, ◌/◌, ◌%◌, ◌≤◌, ◌<◌, compare}
use native.Mathlib.Nat.{mod-lt, div-add-mod', mul-le-mul_right}
use native.Mathlib.Omega.{arith}
use lib.Ieee.{nearest}
use lib.Ieee.Nearest.{closest}
use Rattle.lists.proofs.Counting.{compared, lt_or_le, eq_or_ne}
use Rattle.decimals.proofs.Rounded.{compare_lt, compare_gt, compare_eq}
use Rattle.decimal_claims.specs.Claims.{distance, NearestWhole}

-- ---- q * d + r: whole numbers on either side
module _ (d q r : ℕ) (l : r < d) where
  -- those above q lie at least d - r off, those up to q at least r
  above : (k : ℕ) → q < k → d ≤ distance (q * d + r) d k + r
  above k h =
      let m : suc q * d ≤ k * d = mul-le-mul_right d h in
      let s : suc q * d ≡ q * d + d = omega arith in
      omega arith

  upto : (k : ℕ) → k ≤ q → r ≤ distance (q * d + r) d k
  upto k h =
      let m : k * d ≤ q * d = mul-le-mul_right d h in
      omega arith

  -- and those further off lie further off
  far_above : (k : ℕ) → suc q < k → d < distance (q * d + r) d k + r
  far_above k h =
      let m : suc (suc q) * d ≤ k * d = mul-le-mul_right d h in
      let s : suc (suc q) * d ≡ q * d + d + d = omega arith in
      omega arith

  far_below : (k : ℕ) → k < q → r < distance (q * d + r) d k
  far_below k h =
      let m : suc k * d ≤ q * d = mul-le-mul_right d h in
      let s : suc k * d ≡ k * d + d = omega arith in
      omega arith

  at_q : distance (q * d + r) d q ≡ r
  at_q = omega arith

  at_next : distance (q * d + r) d (suc q) + r ≡ d
  at_next = let s : suc q * d ≡ q * d + d = omega arith in omega arith

  -- less than half way: q
  below_half : r * 2 < d → NearestWhole (q * d + r) d q
  below_half h = record {
    nearest = λ k. elim (lt_or_le q k) [ inl g ↦ omega (arith, at_q, above k g) | inr g ↦ omega (arith, at_q, upto k g) ];
    even = λ k e. elim (compared k q) [
      | inl g ↦ absurd (omega (arith, at_q, far_below k g))
      | inr (inl g) ↦ inl g
      | inr (inr g) ↦ absurd (omega (arith, at_q, above k g))
    ];
  }

  -- more than half way: the next one
  above_half : d < r * 2 → NearestWhole (q * d + r) d (suc q)
  above_half h = record {
    nearest = λ k. elim (lt_or_le q k) [ inl g ↦ omega (arith, at_next, above k g) | inr g ↦ omega (arith, at_next, upto k g) ];
    even = λ k e. elim (compared k (suc q)) [
      | inl g ↦ absurd (omega (arith, at_next, upto k (before k g)))
      | inr (inl g) ↦ inl g
      | inr (inr g) ↦ absurd (omega (arith, at_next, far_above k g))
    ];
  }
    where
      before : (k : ℕ) → k < suc q → k ≤ q
      before k g = omega arith

  -- half way: the even one of the two
  at_half : r * 2 ≡ d → NearestWhole (q * d + r) d (q + q % 2)
  at_half h = record {
    nearest = λ k. elim (lt_or_le q k) [ inl g ↦ omega (arith, is_half, above k g) | inr g ↦ omega (arith, is_half, upto k g) ];
    even = λ k e. inr (omega arith);
  }
    where
      step : (t : ℕ) → t < 2 → distance (q * d + r) d (q + t) ≡ r
      step t g = elim (eq_or_ne t 0) [
        | inl e ↦ ap (λ (z : ℕ). distance (q * d + r) d z) (nought t e) ∙ at_q
        | inr n ↦ ap (λ (z : ℕ). distance (q * d + r) d z) (one t g n) ∙ omega (arith, at_next)
      ]
        where
          nought : (t : ℕ) → t ≡ 0 → q + t ≡ q
          nought t e = omega arith

          one : (t : ℕ) → t < 2 → (t ≡ 0 → ⊥) → q + t ≡ suc q
          one t g n = omega arith

      is_half : distance (q * d + r) d (q + q % 2) ≡ r
      is_half = step (q % 2) (omega arith)

pub closest_nearest : (n d : ℕ) → 0 < d → NearestWhole n d (closest n d)
closest_nearest n d D = subst (λ (z : ℕ). NearestWhole z d (closest n d)) (div-add-mod' n d) (by (compared (n % d * 2) d))
  where
    l : n % d < d
    l = mod-lt n D

    to : (q : ℕ) → closest n d ≡ q → NearestWhole (n / d * d + n % d) d q → NearestWhole (n / d * d + n % d) d (closest n d)
    to q e w = subst (λ (z : ℕ). NearestWhole (n / d * d + n % d) d z) (sym e) w

    by : (n % d * 2 < d) ⊎ ((n % d * 2 ≡ d) ⊎ (d < n % d * 2)) → NearestWhole (n / d * d + n % d) d (closest n d)
    by (inl h) = to (n / d) (ap (nearest (n / d)) (compare_lt (n % d * 2) d h)) (below_half d (n / d) (n % d) l h)
    by (inr (inl h)) =
        to (n / d + n / d % 2) (ap (λ (z : ℕ). nearest (n / d) (compare z d)) h ∙ ap (nearest (n / d)) (compare_eq d)) (at_half d (n / d) (n % d) l h)
    by (inr (inr h)) = to (suc (n / d)) (ap (nearest (n / d)) (compare_gt (n % d * 2) d h)) (above_half d (n / d) (n % d) l h)

-- ---- two that are both nearest, and so as near and even, have a nearer one between them
apart : (n d q r : ℕ) → 0 < d → q + 2 ≤ r → distance n d r ≡ distance n d q → distance n d q ≤ distance n d (suc q) → ⊥
apart n d q r D g e h =
    let m : (q + 2) * d ≤ r * d = mul-le-mul_right d g in
    let s : (q + 2) * d ≡ q * d + d + d = omega arith in
    let t : suc q * d ≡ q * d + d = omega arith in
    omega arith

pub only : (n d q r : ℕ) → 0 < d → NearestWhole n d q → NearestWhole n d r → q ≡ r
only n d q r D w v =
    let e : distance n d r ≡ distance n d q = omega (arith, w.nearest r, v.nearest q) in
    by (w.even r e) (v.even q (sym e)) e
  where
    by : (r ≡ q) ⊎ (q % 2 ≡ 0) → (q ≡ r) ⊎ (r % 2 ≡ 0) → distance n d r ≡ distance n d q → q ≡ r
    by (inl a) b e = sym a
    by (inr a) (inl b) e = b
    by (inr a) (inr b) e = elim (compared q r) [
      | inl g ↦ absurd (apart n d q r D (omega arith) e (w.nearest (suc q)))
      | inr (inl g) ↦ g
      | inr (inr g) ↦ absurd (apart n d r q D (omega arith) (sym e) (v.nearest (suc r)))
    ]
