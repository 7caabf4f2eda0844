-- A number falls into a quotient and a remainder, and back: so do the numbers of cases into cable, type and tenth. Assumes nothing.
use Prim.Native.Nat.{ℕ, suc, ◌+◌, ◌-◌, ◌*◌, ◌/◌, ◌%◌, ◌≤◌, ◌<◌}
use native.Mathlib.Nat.{mul_comm, mul_assoc, suc-mul, mul-le-mul_right, mod-lt, mod-eq_of_lt, div-eq_of_lt, div-add-mod', div-div-eq-div-mul, mul-add-div_right, mul-add-mod_self_right}
use native.Mathlib.Omega.{arith}
use mathlib.Core.Logic.{◌⊎◌, inl, inr, ⊎_elim}
use mathlib.Core.Path.{◌≡◌, sym, ap, ◌∙◌}
use Rattle.lists.proofs.Counting.{lt_or_le}

module _ (n : ℕ) (some : 0 < n) where
  -- of two numbers the larger has a larger quotient, or the same and a larger remainder
  pub larger : (a b : ℕ) → a < b → (a / n < b / n) ⊎ ((a / n ≡ b / n) × (a % n < b % n))
  larger a b h =
      let da = div-add-mod' a n in
      let db = div-add-mod' b n in
      ⊎_elim
      inl
      (λ (l : b / n ≤ a / n).
      ⊎_elim
      (λ (s : b / n < a / n).
      let m : suc (b / n) * n ≤ a / n * n = mul-le-mul_right n s in
      absurd (omega (arith, suc-mul (b / n) n, mod-lt b {m = n} some)))
      (λ (s : a / n ≤ b / n).
      let e : a / n ≡ b / n = omega arith in
      inr (e, omega (arith, ap (λ (q : ℕ). q * n) e)))
      (lt_or_le (b / n) (a / n)))
      (lt_or_le (a / n) (b / n))

  -- what a quotient and a remainder make has them
  quotient : (q r : ℕ) → r < n → (q * n + r) / n ≡ q
  quotient q r h = mul-add-div_right some q r ∙ rw (div-eq_of_lt h) (omega arith)

  remainder : (q r : ℕ) → r < n → (q * n + r) % n ≡ r
  remainder q r h = mul-add-mod_self_right q n r ∙ mod-eq_of_lt h

  below : (q r m : ℕ) → q < m → r < n → q * n + r < m * n
  below q r m h k = let s : suc q * n ≤ m * n = mul-le-mul_right n h in omega (arith, suc-mul q n)

-- a quotient of a quotient
pub thirds : (k t : ℕ) → k / (3 * t) ≡ k / t / 3
thirds k t = rw (mul_comm 3 t) (sym (div-div-eq-div-mul k t 3))

-- three types to a cable, t tenths to a type, from a lowest tenth on
module _ (t low : ℕ) (some : 0 < t) where
  pub number_back : (k : ℕ) → (k / (3 * t) * 3 + k / t % 3) * t + (low + k % t - low) ≡ k
  number_back k =
      let r : low + k % t - low ≡ k % t = omega arith in
      rw (thirds k t, r, div-add-mod' (k / t) 3) (div-add-mod' k t)

  module _ (c y z : ℕ) (kind : y < 3) (l : low ≤ z) (h : z < low + t) where
    abbrev number : ℕ
    number = (c * 3 + y) * t + (z - low)

    within : z - low < t
    within = omega arith

    pub number_falls : (number / (3 * t) ≡ c) × (number / t % 3 ≡ y) × (low + number % t ≡ z)
    number_falls =
        let q = quotient t some (c * 3 + y) (z - low) within in (
          rw (thirds number t, q) (quotient 3 (omega arith) c y kind),
          rw q (remainder 3 (omega arith) c y kind),
          rw (remainder t some (c * 3 + y) (z - low) within) (omega arith),
        )

    pub number_below : (m : ℕ) → c < m → number < m * (3 * t)
    number_below m b =
        let s = below t some (c * 3 + y) (z - low) (m * 3) (below 3 (omega arith) c y m b kind) within in
        rw mul_assoc at s
