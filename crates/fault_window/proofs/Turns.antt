-- What a search of the numbers from one up to an end for the first that passes a test answers, and the window that two such searches make. Assumes nothing.
use Prim.Native.Nat.{ℕ, zero, suc, ◌+◌, ◌-◌, ◌≤◌, ◌<◌, max}
use native.Mathlib.Nat.{eq-or-lt_of_le}
use native.Mathlib.Numerals.{add-one}
use native.Mathlib.Omega.{arith}
use borrow.Author.Tests.{lt-ltb, le-ltb}
use mathlib.Core.Path.{◌≡◌, sym, ◌∙◌}
use mathlib.Core.Logic.{⊎_elim}
use mathlib.Core.Bool.{Bool, true, false}
use Rattle.std.specs.Prelude.{Option, Some, None, MatchOption}
use Rattle.std.specs.Option.{unwrap_or}
use lib.Ieee.{Float}
use Rattle.fault_window.specs.declared.steps.Window.{Window}
use Rattle.fault_window.specs.Window.{until, active_in, clears_in, window_of}

module _ (f : ℕ → Bool) where
  -- the first that passes is what is answered, and none where none passes
  abbrev pub Sought : (first end : ℕ) → Option ℕ → Type 0
  Sought first end o =
      MatchOption o
      ((k : ℕ) → first ≤ k → k < end → f k ≡ false)
      (λ i. (first ≤ i) × (i < end) × (f i ≡ true) × ((k : ℕ) → first ≤ k → k < i → f k ≡ false))

  reached : (n first i : ℕ) → first ≤ i → i < first + n → f i ≡ true → ((k : ℕ) → first ≤ k → k < i → f k ≡ false) → until f first n ≡ i
  unfolding until
  reached zero first i a b h none = absurd (omega arith)
  reached (suc n) first i a b h none =
      ⊎_elim
      (λ e. let g : f first ≡ true = rw e h in rw g e)
      (λ l. rw (none first (omega arith) l) (reached n (suc first) i l (omega arith) h (λ k p. none k (omega arith))))
      (eq-or-lt_of_le a)

  missed : (n first : ℕ) → ((k : ℕ) → first ≤ k → k < first + n → f k ≡ false) → until f first n ≡ first + n
  unfolding until
  missed zero first none = omega arith
  missed (suc n) first none =
      let e : suc first + n ≡ first + suc n = omega arith in
      rw (none first (omega arith) (omega arith)) (missed n (suc first) (λ k p q. none k (omega arith) (omega arith)) ∙ e)

  pub sought : (first end : ℕ) (o : Option ℕ) → Sought first end o → unwrap_or o (max end first) ≡ until f first (end - first)
  sought first end (Some i) h = sym (reached (end - first) first i h.0 (omega (arith, h.0, h.1)) h.2 h.3)
  sought first end None h = sym (missed (end - first) first (λ k p q. h k p (omega arith)) ∙ (let e : first + (end - first) ≡ max end first = omega arith in e))

module _ (dt inception clear : Float) (active : Bool) (first end : ℕ) {from : ℕ}
    (a : from ≡ until (active_in dt inception active) first (end - first)) where
  abbrev window : (to : ℕ) → Bool → Window
  window to clears = record { from = from; to = to; clears = clears }

  pub cleared : (last : ℕ) → Sought (clears_in dt inception clear) from end (Some last) → window (last + 1) true ≡ window_of dt inception clear active first end
  unfolding window_of
  cleared last h =
      let b : last ≡ until (clears_in dt inception clear) from (end - from) = sought (clears_in dt inception clear) from end (Some last) h in
      rw (← a, ← b, lt-ltb last end h.1, add-one)

  pub lasting : Sought (clears_in dt inception clear) from end None → window end false ≡ window_of dt inception clear active first end
  unfolding window_of
  lasting h =
      let b : max end from ≡ until (clears_in dt inception clear) from (end - from) = sought (clears_in dt inception clear) from end None h in
      rw (← a, ← b, le-ltb (max end from) end (omega arith))
