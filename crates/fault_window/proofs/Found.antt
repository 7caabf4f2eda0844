-- What is known of the first number for which a test holds. Assumes nothing.
use Prim.Native.Nat.{ℕ, zero, suc, ◌+◌, ◌≤◌, ◌<◌}
use native.Mathlib.Omega.{arith}
use mathlib.Core.Path.{◌≡◌}
use mathlib.Core.Bool.{Bool, true, false}
use Rattle.lists.proofs.Counting.{by-test}
use Rattle.fault_window.specs.Window.{until}

module _ (f : ℕ → Bool) where
  -- f fails of m numbers from `first` on
  abbrev pub None : (first m : ℕ) → Type 0
  None first zero = Unit
  None first (suc m) = (f first ≡ false) × None (suc first) m

  -- u comes m numbers after `first`, f fails of those before it, and holds of it where it is one of the n
  pub record Found (first n u : ℕ) : Type 0 where
    pub skipped : ℕ
    pub place : u ≡ first + skipped
    pub within : skipped ≤ n
    pub none : None first skipped
    pub holds : skipped < n → f u ≡ true

  later : (first n u : ℕ) → f first ≡ false → Found (suc first) n u → Found first (suc n) u
  later first n u e h =
      record {
        skipped = suc h.skipped;
        place = omega (arith, h.place);
        within = omega (arith, h.within);
        none = (e, h.none);
        holds = λ l. h.holds (omega arith);
      }

  pub found : (n first : ℕ) → Found first n (until f first n)
  unfolding until
  found zero first = record { skipped = 0; place = omega arith; within = omega arith; none = tt; holds = λ l. absurd (omega arith) }
  found (suc n) first =
      by-test (f first)
      (λ e. rw e (record { skipped = 0; place = omega arith; within = omega arith; none = tt; holds = λ l. e }))
      (λ e. rw e (later first n (until f (suc first) n) e (found n (suc first))))
