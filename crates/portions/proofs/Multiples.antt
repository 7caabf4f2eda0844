-- A count t by N, and one more: it gets to a multiple of N, or stays below the next one. Assumes nothing.
use mathlib.Core.Path.{◌≡◌, ap, ◌∙◌}
use mathlib.Core.Logic.{◌↔◌, ◌⊎◌}
use Prim.Native.Nat.{ℕ, suc, ◌+◌, ◌*◌, ◌/◌, ◌%◌, ◌≤◌, ◌<◌}
use native.Mathlib.Nat.{div-add-mod, mul-add-div, mul-add-mod_self_left, div_self, mod_self, mod-lt, mod-eq_of_lt, div-eq_of_lt, div-lt_iff_lt-mul, mul-div_cancel_left, mul-le-mul_left, eq-or-lt_of_le}
use native.Mathlib.Omega.{arith}

module _ (N : ℕ) (pos : 0 < N) (t : ℕ) where
  pub which : (suc (t % N) ≡ N) ⊎ (suc (t % N) < N)
  which = eq-or-lt_of_le (mod-lt t pos)

  -- it gets to a multiple
  module _ (e : suc (t % N) ≡ N) where
    next : suc t ≡ N * (t / N) + N
    next = omega (arith, div-add-mod t N)

    pub end_mod : suc t % N ≡ 0
    end_mod = ap (λ (n : ℕ). n % N) next ∙ mul-add-mod_self_left N (t / N) N ∙ mod_self N

    pub end_div : suc t / N ≡ suc (t / N)
    end_div = ap (λ (n : ℕ). n / N) next ∙ mul-add-div pos (t / N) N ∙ omega (arith, div_self pos)

  -- it stays below
  module _ (l : suc (t % N) < N) where
    within : suc t ≡ N * (t / N) + suc (t % N)
    within = omega (arith, div-add-mod t N)

    pub stay_mod : suc t % N ≡ suc (t % N)
    stay_mod = ap (λ (n : ℕ). n % N) within ∙ mul-add-mod_self_left N (t / N) (suc (t % N)) ∙ mod-eq_of_lt l

    pub stay_div : suc t / N ≡ t / N
    stay_div = ap (λ (n : ℕ). n / N) within ∙ mul-add-div pos (t / N) (suc (t % N)) ∙ omega (arith, div-eq_of_lt l)

    -- also below n multiples
    pub stay_below : (n : ℕ) → t < N * n → suc t < N * n
    stay_below n h = omega (arith, div-add-mod t N, mul-le-mul_left N ((div-lt_iff_lt-mul pos).1 (let q : t < n * N = omega arith in q)))

  pub div_below : (n : ℕ) → t < N * n → t / N < n
  div_below n l = (div-lt_iff_lt-mul pos).1 (omega arith)

  -- all n of them
  pub all_iff : (n : ℕ) → t ≤ N * n → (t ≡ N * n) ↔ (t / N ≡ n)
  all_iff n le = (
    λ e. ap (λ (x : ℕ). x / N) e ∙ mul-div_cancel_left n pos,
    λ e. let h : N * (t / N) ≡ N * n = ap (λ (x : ℕ). N * x) e in omega (arith, div-add-mod t N),
  )
