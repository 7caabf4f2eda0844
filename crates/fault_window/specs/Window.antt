-- The steps in which a fault lasts. Definitions only.
use Rattle.std.specs.Prelude.{ℕ, zero, suc, ◌-◌, Bool, ◌||◌, cond, ltb, Float}
use Rattle.std.specs.Float.Ieee.{le}
use Rattle.float64.specs.Arithmetic.{◌⊖◌}
use Rattle.run_start.specs.Start.{time_at}
use Rattle.fault_window.specs.declared.steps.Window.{Window}

-- the first of the n numbers from `first` on for which f holds; first + n where it holds for none
unfoldable pub until : (ℕ → Bool) → (first n : ℕ) → ℕ
until f first zero = first
until f first (suc n) = cond (f first) first (until f (suc first) n)

module _ (dt inception : Float) where
  -- the fault is active in a step: it is active already, or the step is not before inception
  abbrev pub active_in : Bool → ℕ → Bool
  active_in active step = active || le inception (time_at dt step)

  module _ (clear : Float) where
    -- the breakers clear it in a step: so long after inception
    abbrev pub clears_in : ℕ → Bool
    clears_in step = le clear (time_at dt step ⊖ inception)

    -- the steps in which it lasts, of those from `first` up to `end`: from the first active one to the one that clears it, or to the end
    unfoldable pub window_of : (active : Bool) → (first end : ℕ) → Window
    window_of active first end =
        let from = until (active_in active) first (end - first) in
        let last = until clears_in from (end - from) in
        record { from = from; to = cond (ltb last end) (suc last) end; clears = ltb last end }
